use Rattle.std.proofs.Common.{◌≡◌, drop}
use Rattle.mg_plan.specs.Names.{place_from, place_of}
use Rattle.mg_plan.proofs.names.place_of.Given as goal

abbrev pub invariant-loop-place : goal.invariant-loop-place
invariant-loop-place l = place_from l.place (drop l.place l.columns) l.name ≡ place_of l.columns l.name
