use Rattle.std.proofs.Common.{◌≡◌, ◌∷◌, length}
use Rattle.mg_value.specs.declared.value.Value.TheVariants.{Text}
use Rattle.mg_catalog.specs.ByKey.{by_key}
use Rattle.mg_catalog.proofs.find.find_named.Given as goal

abbrev pub invariant-loop-row : goal.invariant-loop-row
invariant-loop-row l = by_key l.rows (Text (l.letter ∷ l.name)) ≡ by_key l.rest (Text (l.letter ∷ l.name))

abbrev pub decreases-loop-row : goal.decreases-loop-row
decreases-loop-row l = length l.rest
