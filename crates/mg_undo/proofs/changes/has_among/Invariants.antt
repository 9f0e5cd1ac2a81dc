use Rattle.std.proofs.Common.{◌≡◌, take}
use Rattle.std.specs.Prelude.{false}
use Rattle.mg_undo.specs.Undo.{has_table}
use Rattle.mg_undo.proofs.changes.has_among.Given as goal

abbrev pub invariant-loop-i : goal.invariant-loop-i
invariant-loop-i l = has_table l.table (take l.i l.list.items) ≡ false
