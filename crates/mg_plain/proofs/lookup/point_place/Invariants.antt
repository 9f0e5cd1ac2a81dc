-- The steps that are left decide.
use Rattle.std.proofs.Common.{◌≡◌, drop}
use Rattle.mg_plain.specs.TakenBack.{first_point_from, first_point}
use Rattle.mg_plain.proofs.lookup.point_place.Given as goal

abbrev pub invariant-loop-place : goal.invariant-loop-place
invariant-loop-place l =
    first_point_from l.place l.by l.point (drop l.place l.steps) ≡ first_point l.by l.point l.steps
