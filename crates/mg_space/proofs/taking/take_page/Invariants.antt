use Rattle.std.proofs.Common.{◌≡◌, ◌<◌, ◌*◌, ℕ}
use Rattle.mg_base.specs.Image.{Image}
use Rattle.mg_pip.specs.PipPage.{bits}
use Rattle.mg_pool.specs.Fault.{MeetsNoFault}
use Rattle.mg_space.specs.Taking.{IsFree}
use Rattle.mg_space.specs.View.{KeepsStore, Tells, viewed}
use Rattle.mg_space.proofs.taking.take_page.Given as goal

abbrev pub invariant-loop-region : goal.invariant-loop-region
invariant-loop-region g l = record {
  keeps : KeepsStore g.D.Disk.meaning l.initial.store l.store;
  faults : MeetsNoFault g.D.Disk.meaning l.initial.store l.store;
  same : l.batch ≡ l.initial.batch;
  none : (image : Image) → Tells g.D.Disk.meaning l.initial.store.disk image → (n : ℕ)
      → n < l.region * bits l.initial.store.geometry.size
      → IsFree l.initial.store.geometry (viewed l.initial.store image l.initial.batch) n → ⊥;
}
