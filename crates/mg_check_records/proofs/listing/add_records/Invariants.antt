use Rattle.std.proofs.Common.{◌≡◌, ◌++◌}
use Rattle.mg_base.specs.Image.{page_at}
use Rattle.mg_check_records.specs.Listing.{records_on}
use Rattle.mg_image.specs.Records.{cells_of}
use Rattle.mg_check_records.proofs.listing.add_records.Given as goal

-- those of the slots below this one were added
abbrev pub invariant-loop-slot : goal.invariant-loop-slot
invariant-loop-slot l = l.records.items ≡ l.initial.records.items
    ++ records_on (cells_of (page_at l.size l.pages)) l.n l.slot
