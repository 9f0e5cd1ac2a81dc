use Rattle.std.proofs.Common.{◌≡◌, ◌≢◌, ◌<◌, ◌≤◌, ◌+◌, ◌*◌, ◌-◌, ℕ, length}
use Rattle.mg_base.specs.Image.{Image}
use Rattle.mg_base.specs.declared.geometry.TheConstants.{GREATEST_LIMIT}
use Rattle.mg_image.specs.Tables.{Has, IsOnce, entries_in}
use Rattle.mg_pool.specs.Fault.{MeetsNoFault}
use Rattle.mg_space.specs.View.{KeepsStore, Tells, viewed}
use Rattle.mg_heap.specs.Table.{LeadsTo}
use Rattle.mg_heap.proofs.lookup.reach_place.Given as goal

abbrev pub invariant-loop-n : goal.invariant-loop-n
invariant-loop-n g l = record {
  keeps : KeepsStore g.D.Disk.meaning l.initial.store l.store;
  faults : MeetsNoFault g.D.Disk.meaning l.initial.store l.store;
  once : IsOnce l.pointers.items;
  small : (m : ℕ) → Has l.pointers.items m → m < GREATEST_LIMIT;
  below : l.n.0 < GREATEST_LIMIT;
  new_one : l.n.0 ≢ 0 → Has l.pointers.items l.n.0 → ⊥;
  few : l.place ≤ 4090 * length l.pointers.items + l.rest;
  leads : (image : Image) → Tells g.D.Disk.meaning l.initial.store.disk image
      → LeadsTo (viewed l.initial.store image l.batch) l.owner.0 l.pointers.items l.n.0;
  passed : (image : Image) → Tells g.D.Disk.meaning l.initial.store.disk image
      → l.rest + length (entries_in (viewed l.initial.store image l.batch) l.pointers.items) ≡ l.place;
}

abbrev pub decreases-loop-n : goal.decreases-loop-n
decreases-loop-n g l = GREATEST_LIMIT - length l.pointers.items
