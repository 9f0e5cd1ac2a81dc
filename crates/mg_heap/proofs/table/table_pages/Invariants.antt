use Rattle.std.proofs.Common.{◌≡◌, ◌≢◌, ◌<◌, ◌≤◌, ◌*◌, ◌-◌, ℕ, length}
use Rattle.mg_base.specs.Image.{Image}
use Rattle.mg_base.specs.declared.geometry.TheConstants.{GREATEST_LIMIT}
use Rattle.mg_image.specs.Tables.{Has, IsOnce, entries_in}
use Rattle.mg_pool.specs.Fault.{MeetsNoFault}
use Rattle.mg_space.specs.View.{KeepsStore, Tells, viewed}
use Rattle.mg_heap.specs.Reads.{ReadsListed}
use Rattle.mg_heap.specs.Table.{LeadsTo}
use Rattle.mg_heap.proofs.table.table_pages.Given as goal

abbrev pub invariant-loop-n : goal.invariant-loop-n
invariant-loop-n g l = record {
  keeps : KeepsStore g.D.Disk.meaning l.initial.store l.store;
  faults : MeetsNoFault g.D.Disk.meaning l.initial.store l.store;
  once : IsOnce l.pointers.items;
  small : (m : ℕ) → Has l.pointers.items m → m < GREATEST_LIMIT;
  below : l.n.0 < GREATEST_LIMIT;
  some : l.n.0 ≢ l.owner.0 → 0 < length l.pointers.items;
  few : length l.data_pages.items ≤ 4090 * length l.pointers.items;
  new_one : l.n.0 ≢ 0 → Has l.pointers.items l.n.0 → ⊥;
  reads : ReadsListed g.D.Disk.meaning l.initial.store l.store l.pointers.items;
  leads : (image : Image) → Tells g.D.Disk.meaning l.initial.store.disk image
      → LeadsTo (viewed l.initial.store image l.batch) l.owner.0 l.pointers.items l.n.0;
  entries : (image : Image) → Tells g.D.Disk.meaning l.initial.store.disk image
      → l.data_pages.items ≡ entries_in (viewed l.initial.store image l.batch) l.pointers.items;
}

abbrev pub decreases-loop-n : goal.decreases-loop-n
decreases-loop-n g l = GREATEST_LIMIT - length l.pointers.items
