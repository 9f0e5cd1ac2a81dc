use Rattle.std.proofs.Common.{◌≡◌, ◌++◌, drop}
use Rattle.mg_base.specs.Image.{Image}
use Rattle.mg_pool.specs.Fault.{MeetsNoFault}
use Rattle.mg_space.specs.View.{KeepsStore, Tells, viewed}
use Rattle.mg_seek.specs.TableRecords.{records_in}
use Rattle.mg_seek.proofs.listing.page_records.Given as goal

abbrev pub invariant-loop-place : goal.invariant-loop-place
invariant-loop-place g l = record {
  keeps : KeepsStore g.D.Disk.meaning l.initial.store l.store;
  faults : MeetsNoFault g.D.Disk.meaning l.initial.store l.store;
  rest : (image : Image) → Tells g.D.Disk.meaning l.initial.store.disk image
      → l.records.items ++ records_in (viewed l.initial.store image l.batch) (drop l.place l.data_pages)
      ≡ records_in (viewed l.initial.store image l.batch) l.data_pages;
}
