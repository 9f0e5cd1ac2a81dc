-- A batch of its own is changed without damage: it is filled, and it is lawful.
use Rattle.std.proofs.Common.{sym, subst}
use Rattle.mg_base.specs.Disk.{Meaning}
use Rattle.mg_base.specs.Image.{Image}
use Rattle.mg_base.specs.declared.damage.Damaged.{Damaged}
use Rattle.mg_base.specs.declared.geometry.Geometry.{Geometry}
use Rattle.mg_pool.specs.Batch.{Changed, IsLawful}
use Rattle.mg_pool.specs.declared.pool.Pool.{Pool}
use Rattle.mg_batches.specs.Batches.{FailsOwn, not_changed, not_filled}
use Rattle.mg_space.specs.View.{KeepsStore, Tells}
use Rattle.mg_space.specs.declared.fault.SpaceFault.{SpaceFault}
use Rattle.mg_space.specs.declared.fault.SpaceFault.TheVariants as faults
use Rattle.mg_space.specs.declared.links.FireLinks.{FireLinks}

-- no damage is met where no cause of it holds while the batch is filled, and each batch that is filled is lawful
pub own : {D : Type 0} (m : Meaning D) (before after : Pool D FireLinks) (fills : Image → Changed → Type 0)
    (refuses : Image → SpaceFault → Type 0) (it : Damaged) (image : Image) → Tells m before.disk image
    → (KeepsStore m before after → refuses image (faults.Damaged it) → ⊥)
    → ((batch : Changed) → fills image batch → IsLawful before.geometry.size batch.pages batch.orders)
    → FailsOwn m before after fills refuses (faults.Damaged it) → ⊥
own m before after fills refuses it image tells none lawful (not_filled keeps alone told refused) =
    none keeps (refused image tells)
own m before after fills refuses it image tells none lawful (not_changed batch ready keeps online filled failed) =
    failed.unlawful (subst (λ (g : Geometry). IsLawful g.size batch.pages batch.orders) (sym keeps.geometry)
    (lawful batch (filled image tells)))
