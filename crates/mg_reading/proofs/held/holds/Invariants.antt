use Rattle.std.proofs.Common.{take}
use Rattle.mg_reading.specs.HeldTable.{AreHeld}
use Rattle.mg_reading.proofs.held.holds.Given as goal

abbrev pub invariant-loop-table : goal.invariant-loop-table
invariant-loop-table l = AreHeld l.coding l.image (take l.table-index l.tables) l.held.items
