use Rattle.mg_reading.proofs.FoundLemmas.{IsRead}
use Rattle.mg_reading.proofs.reading.read_page.Given as goal

abbrev pub invariant-loop-slot : goal.invariant-loop-slot
invariant-loop-slot l = IsRead l.coding l.image l.table l.data_pages l.n l.slot
    l.initial.found.items l.found.items
