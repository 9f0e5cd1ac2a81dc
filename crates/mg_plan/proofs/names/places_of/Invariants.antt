use Rattle.std.proofs.Common.{◌≡◌, map, take}
use Rattle.mg_plan.specs.Names.{place_or_0}
use Rattle.mg_plan.proofs.names.places_of.Given as goal

abbrev pub invariant-loop-name : goal.invariant-loop-name
invariant-loop-name l = l.places.items ≡ map (place_or_0 l.columns) (take l.name-index l.names)
