-- A row of the catalog is taken out in a batch of its own without damage.
use Rattle.std.specs.Prelude.{◌≡◌, ℕ, Option, None, Some}
use Rattle.mg_base.specs.Disk.{Meaning}
use Rattle.mg_base.specs.Image.{Image}
use Rattle.mg_base.specs.declared.damage.Damaged.{Damaged}
use Rattle.mg_base.specs.declared.numbers.RecId.{RecId}
use Rattle.mg_base.specs.declared.transaction.TxState.{TxState}
use Rattle.mg_image.specs.Catalog.{catalog_table}
use Rattle.mg_image.specs.Form.{Pages}
use Rattle.mg_image.specs.Inventory.{header_of}
use Rattle.mg_image.specs.Records.{Reading}
use Rattle.mg_image.specs.Tables.{Layout}
use Rattle.mg_model.specs.declared.table.Table.{Table}
use Rattle.mg_pool.specs.Pool.{shown}
use Rattle.mg_pool.specs.declared.pool.Pool.{Pool}
use Rattle.mg_seek.specs.Speaking.{IsSpeaker}
use Rattle.mg_seek.specs.Versions.{IsFirst, wants}
use Rattle.mg_seek.specs.declared.walk.Placed.{Placed}
use Rattle.mg_seek.specs.declared.whose.Wanted.TheVariants.{Any}
use Rattle.mg_snap.specs.Live.{State as Bases}
use Rattle.mg_space.specs.declared.fault.SpaceFault.TheVariants as faults
use Rattle.mg_space.specs.declared.links.FireLinks.{FireLinks}
use Rattle.mg_table_unmaking.specs.Rows.{FailsRowOut, IsAlone}
use Rattle.mg_value.specs.declared.value.Value.{Value}
use Rattle.mg_no_damage_laws.specs.Batches.{ShowsSound}

-- The row of a key is there to be taken out: a record speaks for the key, and each that does has one version, the
-- transaction's own.
pub record RowIsThere (state : ℕ → TxState) (live : Bases) (by : ℕ) (view : Pages) (table : Table) (key : Value) : Type 0
  where
    pub some : IsSpeaker state live view table key None → ⊥
    pub own : (rec : RecId) (newest : Option Placed) → IsSpeaker state live view table key (Some rec)
        → IsFirst view (wants state live Any) rec newest → IsAlone by newest

-- where it is there, out of the catalog, over pages that are sound by some states: the row is read, its version is taken out,
-- and the batch can be changed
abbrev pub RowsMeetNoDamage : (D : Type 0) → Meaning D → Type 0
RowsMeetNoDamage D m = (store after : Pool D FireLinks) (image : Image) (sound_by : ℕ → TxState) (layout : Layout)
    (r : Reading) → ShowsSound m store image sound_by layout r → (state : ℕ → TxState) (live : Bases) (by : ℕ)
    (table : Table) (key : Value) → catalog_table (header_of (shown store.dirty image)).catalog.0 ≡ table
    → RowIsThere state live by (shown store.dirty image) table key
    → (it : Damaged) → FailsRowOut m store after state live by table key (faults.Damaged it) → ⊥
