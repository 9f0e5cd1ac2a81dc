-- A number is drawn over a sound image without damage.
use Rattle.std.specs.Prelude.{◌≡◌, ℕ}
use Rattle.mg_base.specs.Disk.{Meaning}
use Rattle.mg_base.specs.Image.{Image}
use Rattle.mg_base.specs.declared.damage.Damaged.{Damaged}
use Rattle.mg_base.specs.declared.transaction.TxState.{TxState}
use Rattle.mg_image.specs.Inventory.{next_of}
use Rattle.mg_image.specs.Records.{Reading}
use Rattle.mg_image.specs.Tables.{Layout}
use Rattle.mg_pool.specs.Pool.{shown}
use Rattle.mg_pool.specs.declared.pool.Pool.{Pool}
use Rattle.mg_space.specs.declared.fault.SpaceFault.TheVariants as faults
use Rattle.mg_space.specs.declared.links.FireLinks.{FireLinks}
use Rattle.mg_txlist.specs.Refusals.{RefusesDraw}
use Rattle.mg_no_damage_laws.specs.Writes.{SeesSound}

-- the next number of the header is drawn
abbrev pub NumbersAreDrawn : {D : Type 0} → Meaning D → Type 0
NumbersAreDrawn {D} m = (old new : Pool D FireLinks) (image : Image) (state : ℕ → TxState) (layout : Layout)
    (r : Reading) → SeesSound m old new image state layout r → (t : ℕ)
    → next_of (shown old.dirty image) ≡ t → (it : Damaged)
    → RefusesDraw m new old.geometry t (shown old.dirty image) (faults.Damaged it) → ⊥
