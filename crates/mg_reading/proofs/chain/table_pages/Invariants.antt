use Rattle.std.proofs.Common.{◌≡◌, ◌-◌, ◌^◌, length}
use Rattle.mg_pointer.specs.PointerPage.{next_in}
use Rattle.mg_reading.specs.ChainLaws.{IsRun}
use Rattle.mg_reading.specs.ImageView.{pages_in}
use Rattle.mg_image.specs.Sound.{IsTablePointer}
use Rattle.mg_image.specs.Tables.{EachFrom, entries_in}
use Rattle.mg_reading.proofs.chain.table_pages.Given as goal

abbrev pub invariant-loop-n : goal.invariant-loop-n
invariant-loop-n l =
    IsRun (λ k. next_in (pages_in l.image k)) l.owner l.pointers.items l.n
    × EachFrom (IsTablePointer l.image.size (pages_in l.image) l.owner) 0 l.pointers.items
    × (l.data_pages.items ≡ entries_in (pages_in l.image) l.pointers.items)

abbrev pub decreases-loop-n : goal.decreases-loop-n
decreases-loop-n l = 2 ^ 32 - length l.pointers.items
