use Rattle.std.proofs.Common.{take}
use Rattle.mg_reading.specs.Found.{AreFound, PagesRead}
use Rattle.mg_reading.proofs.reading.read_slots.Given as goal

abbrev pub invariant-loop-n : goal.invariant-loop-n
invariant-loop-n l = AreFound l.coding l.image l.table l.data_pages l.found.items
    × PagesRead l.image l.found.items (take l.n-index l.data_pages)
