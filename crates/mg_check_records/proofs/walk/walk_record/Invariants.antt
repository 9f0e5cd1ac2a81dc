use Rattle.mg_base.specs.Image.{page_at}
use Rattle.mg_check_records.specs.Marks.{left_of}
use Rattle.mg_check_records.proofs.WalkLemmas.{IsWalking}
use Rattle.mg_image.specs.Records.{cells_of}
use Rattle.mg_check_records.proofs.walk.walk_record.Given as goal

abbrev pub invariant-loop-next : goal.invariant-loop-next
invariant-loop-next l = IsWalking (cells_of (page_at l.size l.pages)) l.table l.data_pages l.size
    l.initial.marks l.marks l.initial.holder l.initial.next l.entries.items l.holder l.next

abbrev pub decreases-loop-next : goal.decreases-loop-next
decreases-loop-next l = left_of l.marks
