use Rattle.std.proofs.Common.{◌≡◌, length}
use Rattle.mg_model.specs.Catalog.{table_key}
use Rattle.mg_undo.specs.Whole.{is_one_of}
use Rattle.mg_undo.proofs.whole.has_table_key.Given as goal

-- none of the keys before the rest is that of the row
abbrev pub invariant-loop-key : goal.invariant-loop-key
invariant-loop-key l = is_one_of l.rest (table_key l.name) ≡ is_one_of l.keys (table_key l.name)

abbrev pub decreases-loop-key : goal.decreases-loop-key
decreases-loop-key l = length l.rest
