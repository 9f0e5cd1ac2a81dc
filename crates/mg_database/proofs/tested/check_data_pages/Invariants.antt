use Rattle.std.proofs.Common.{take}
use Rattle.mg_base.specs.Image.{Image}
use Rattle.mg_heap.specs.Reads.{ReadsListed}
use Rattle.mg_pool.specs.Fault.{MeetsNoFault}
use Rattle.mg_space.specs.View.{KeepsStore, Tells, viewed}
use Rattle.mg_database.specs.Tested.{AreDataPages}
use Rattle.mg_database.proofs.tested.check_data_pages.Given as goal

abbrev pub invariant-loop-place : goal.invariant-loop-place
invariant-loop-place g l = record {
  keeps : KeepsStore g.D.Disk.meaning l.initial.store l.store;
  faults : MeetsNoFault g.D.Disk.meaning l.initial.store l.store;
  listed : (image : Image) → Tells g.D.Disk.meaning l.initial.store.disk image
      → AreDataPages (viewed l.initial.store image l.batch) l.owner.0 (take l.place l.data_pages);
  reads : ReadsListed g.D.Disk.meaning l.initial.store l.store (take l.place l.data_pages);
}
