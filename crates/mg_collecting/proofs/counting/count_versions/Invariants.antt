use Rattle.std.proofs.Common.{◌≡◌, None}
use Rattle.mg_base.specs.Image.{Image}
use Rattle.mg_pool.specs.Fault.{MeetsNoFault}
use Rattle.mg_pool.specs.Pool.{shown}
use Rattle.mg_space.specs.View.{KeepsStore, Tells}
use Rattle.mg_collecting.proofs.CountLemmas.{CountsAt}
use Rattle.mg_collecting.proofs.counting.count_versions.Given as goal

abbrev pub invariant-loop-step : goal.invariant-loop-step
invariant-loop-step g l = record {
  keeps : KeepsStore g.D.Disk.meaning l.fn.store l.store;
  faults : MeetsNoFault g.D.Disk.meaning l.fn.store l.store;
  online : l.fn.store.offline ≡ None;
  walk : (image : Image) → Tells g.D.Disk.meaning l.fn.store.disk image
      → CountsAt (shown l.fn.store.dirty image) l.fn.rec l.step l.holder.0 l.link l.mark;
}
