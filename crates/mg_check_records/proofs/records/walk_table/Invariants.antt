use Rattle.std.proofs.Common.{length}
use Rattle.mg_base.specs.Image.{page_at}
use Rattle.mg_check_records.proofs.RecordLemmas.{IsOverPages}
use Rattle.mg_image.specs.Records.{cells_of}
use Rattle.mg_check_records.proofs.records.walk_table.Given as goal

abbrev pub invariant-loop-n : goal.invariant-loop-n
invariant-loop-n l = IsOverPages (cells_of (page_at l.size l.pages)) (page_at l.size l.pages) l.table
    l.data_pages l.size l.rest l.at.marks l.at.found.items

abbrev pub decreases-loop-n : goal.decreases-loop-n
decreases-loop-n l = length l.rest
