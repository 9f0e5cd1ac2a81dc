use Rattle.std.proofs.Common.{◌<◌, ◌≤◌, ◌+◌, ◌-◌, ◌^◌, ℕ}
use Rattle.std.specs.Prelude.{IfSome}
use Rattle.mg_base.specs.Image.{Image}
use Rattle.mg_base.specs.declared.numbers.PageNo.{PageNo}
use Rattle.mg_pool.specs.Fault.{MeetsNoFault}
use Rattle.mg_space.specs.View.{KeepsStore, Tells, viewed}
use Rattle.mg_heap.specs.Places.{FindsPlace}
use Rattle.mg_heap.specs.Walk.{AreEmpty}
use Rattle.mg_heap.proofs.walk.first_from.Given as goal

abbrev pub invariant-loop-next : goal.invariant-loop-next
invariant-loop-next g l = record {
  keeps : KeepsStore g.D.Disk.meaning l.fn.store l.store;
  faults : MeetsNoFault g.D.Disk.meaning l.fn.store l.store;
  from : l.start ≤ l.place;
  few : IfSome l.next (λ page. l.place + 1 < 2 ^ 32);
  empty : (image : Image) → Tells g.D.Disk.meaning l.fn.store.disk image
      → AreEmpty (viewed l.fn.store image l.batch) l.owner.0 l.start l.place;
  found : (image : Image) → Tells g.D.Disk.meaning l.fn.store.disk image
      → FindsPlace (viewed l.fn.store image l.batch) l.owner.0 l.place l.next;
}

abbrev pub decreases-loop-next : goal.decreases-loop-next
decreases-loop-next g l = 2 ^ 32 - l.place
