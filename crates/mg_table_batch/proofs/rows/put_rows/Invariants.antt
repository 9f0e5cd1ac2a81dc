use Rattle.std.proofs.Common.{◌≡◌, length}
use Rattle.mg_base.specs.Image.{Image}
use Rattle.mg_pool.specs.Fault.{MeetsNoFault}
use Rattle.mg_pool.specs.Batch.{Changed}
use Rattle.mg_pool.specs.declared.pool.Pool.{Pool}
use Rattle.mg_space.specs.View.{AreWhole, KeepsStore, Tells}
use Rattle.mg_space.specs.declared.fault.SpaceFault.{SpaceFault}
use Rattle.mg_space.specs.declared.links.FireLinks.{FireLinks}
use Rattle.mg_table_batch.specs.Filling.{PutsRows}
use Rattle.mg_table_batch.specs.Refusals.{RefusesRows}
use Rattle.mg_table_batch.proofs.rows.put_rows.Given as goal

abbrev pub invariant-loop-row : goal.invariant-loop-row
invariant-loop-row g l = record {
  keeps : KeepsStore g.D.Disk.meaning l.initial.store l.store;
  faults : MeetsNoFault g.D.Disk.meaning l.initial.store l.store;
  whole : AreWhole l.initial.store.geometry l.batch.pages;
  puts : (image : Image) → Tells g.D.Disk.meaning l.initial.store.disk image → (new : Changed)
      → PutsRows l.initial.store image l.catalog l.t.0 l.rest l.batch new
      → PutsRows l.initial.store image l.catalog l.t.0 l.rows l.initial.batch new;
  refuses : (image : Image) → Tells g.D.Disk.meaning l.initial.store.disk image
      → (new : Pool g.row.D.Denot FireLinks) (fault : SpaceFault)
      → RefusesRows g.D.Disk.meaning new image l.catalog l.t.0 fault l.rest l.store l.batch
      → RefusesRows g.D.Disk.meaning new image l.catalog l.t.0 fault l.rows l.initial.store l.initial.batch;
}

abbrev pub decreases-loop-row : goal.decreases-loop-row
decreases-loop-row g l = length l.rest
