use Rattle.std.proofs.Common.{◌≡◌, None}
use Rattle.mg_base.specs.Image.{Image}
use Rattle.mg_pool.specs.Fault.{MeetsNoFault}
use Rattle.mg_space.specs.View.{KeepsStore, Tells, viewed}
use Rattle.mg_seek.specs.Versions.{wants}
use Rattle.mg_seek.proofs.Steps.{WalkAt}
use Rattle.mg_seek.proofs.walk.first_version.Given as goal

abbrev pub invariant-loop-step : goal.invariant-loop-step
invariant-loop-step g l = record {
  keeps : KeepsStore g.D.Disk.meaning l.fn.store l.store;
  faults : MeetsNoFault g.D.Disk.meaning l.fn.store l.store;
  online : l.fn.store.offline ≡ None;
  walk : (image : Image) → Tells g.D.Disk.meaning l.fn.store.disk image
      → WalkAt (viewed l.fn.store image l.batch) l.fn.rec
      (wants (g.S.States.state_of l.states) l.live l.wanted) l.step l.holder.0 l.link l.mark;
}
