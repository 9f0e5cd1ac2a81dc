use Rattle.std.proofs.Common.{◌≡◌, ◌++◌, drop}
use Rattle.mg_plan.specs.Names.{places_from}
use Rattle.mg_plan.proofs.names.all_places.Given as goal

abbrev pub invariant-loop-place : goal.invariant-loop-place
invariant-loop-place l = l.places.items ++ places_from l.place (drop l.place l.columns) ≡ places_from 0 l.columns
