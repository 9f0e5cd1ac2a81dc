use Rattle.std.proofs.Common.{◌≡◌, ◌++◌, List, length}
use Rattle.mg_base.specs.Image.{page_at}
use Rattle.mg_base.specs.declared.numbers.RecId.{RecId}
use Rattle.mg_check_records.specs.Records.{IsWalkedOver, slots_below}
use Rattle.mg_image.specs.Records.{cells_of}
use Rattle.mg_check_records.proofs.records.walk_page.Given as goal

-- the records of the slots below this one were walked over
abbrev pub invariant-loop-slot : goal.invariant-loop-slot
invariant-loop-slot l = ((ps : List RecId)
    → IsWalkedOver (cells_of (page_at l.size l.pages)) l.table l.data_pages l.size ps
    l.initial.at.marks l.initial.at.found.items
    → IsWalkedOver (cells_of (page_at l.size l.pages)) l.table l.data_pages l.size
    (ps ++ slots_below l.n l.slot) l.at.marks l.at.found.items)
    × (length l.at.marks ≡ length l.initial.at.marks)
