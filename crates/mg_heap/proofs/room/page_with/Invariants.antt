use Rattle.std.proofs.Common.{◌<◌, ℕ, get_or, length}
use Rattle.mg_base.specs.Image.{Image}
use Rattle.mg_slots.specs.Room.{room_of}
use Rattle.mg_pool.specs.Fault.{MeetsNoFault}
use Rattle.mg_space.specs.View.{KeepsStore, Tells, viewed}
use Rattle.mg_heap.specs.Room.{looked_at}
use Rattle.mg_heap.proofs.room.page_with.Given as goal

abbrev pub invariant-loop-k : goal.invariant-loop-k
invariant-loop-k g l = record {
  keeps : KeepsStore g.D.Disk.meaning l.initial.store l.store;
  faults : MeetsNoFault g.D.Disk.meaning l.initial.store l.store;
  none : (image : Image) → Tells g.D.Disk.meaning l.initial.store.disk image → (j : ℕ) → j < l.k
      → room_of (viewed l.initial.store image l.batch
      (get_or l.data_pages (looked_at j (length l.data_pages)) 0)) < l.need;
}
