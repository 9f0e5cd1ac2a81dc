use Rattle.std.proofs.Common.{◌≡◌}
use Rattle.mg_base.specs.Image.{Image}
use Rattle.mg_pool.specs.Fault.{StaysOnline}
use Rattle.mg_pool.specs.Pool.{IsPool}
use Rattle.mg_format.specs.Format.{HasWrittenUpTo, IsClean, IsFresh, SaysAlike}
use Rattle.mg_format.proofs.format.format_database.Given as goal

abbrev pub invariant-loop-n : goal.invariant-loop-n
invariant-loop-n g l = record {
  pool : IsPool g.D.Disk.meaning l.store;
  geometry : l.store.geometry ≡ l.initial.store.geometry;
  clean : IsClean l.store;
  online : StaysOnline g.D.Disk.meaning l.initial.store l.store;
  says : SaysAlike g.D.Disk.meaning l.initial.store.disk l.store.disk;
  steady : g.D.Disk.meaning.faults l.store.disk ≡ g.D.Disk.meaning.faults l.initial.store.disk;
  upto : (image : Image) → IsFresh g.D.Disk.meaning l.initial.store image
      → HasWrittenUpTo g.D.Disk.meaning l.initial.store.disk l.store.disk
      l.initial.store.geometry.size l.n;
}
