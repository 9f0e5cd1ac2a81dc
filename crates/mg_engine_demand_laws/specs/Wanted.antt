-- What is wanted of the pages of an engine: each table's first pointer page, and so all of its pages.
use Rattle.std.specs.Prelude.{◌≡◌, ℕ, Some}
use Rattle.mg_base.specs.declared.numbers.RecId.{RecId}
use Rattle.mg_base.specs.declared.transaction.TxState.{TxState}
use Rattle.mg_base.specs.declared.transaction.TxState.TheVariants.{Committed}
use Rattle.mg_careful.specs.CarefulWrite.{DemandSet}
use Rattle.mg_chain.specs.Chains.{Meets}
use Rattle.mg_image.specs.Form.{Pages, packed_form}
use Rattle.mg_image.specs.Records.{Reading, cells_of}
use Rattle.mg_image.specs.Sound.{IsSoundBy}
use Rattle.mg_image.specs.Tables.{Layout, stands_of, table_at}
use Rattle.mg_model.specs.declared.table.Table.{Table}
use Rattle.mg_image_overlay_laws.specs.tables.Growing.{IsTableOf}
use Rattle.mg_version.specs.declared.cell.Cell.TheVariants as cells
use Rattle.mg_version.specs.declared.cell.Link.{Link}
use Rattle.mg_version.specs.declared.cell.Version.{Version}
use Rattle.mg_demand_laws.specs.Wanting.{IsWanting}
use Rattle.mg_demand_laws.specs.Wants.{AreOrderly, IsDataOf, WantsPointer}

-- each table that stands in a layout, the catalog among them, is wanted by its first pointer page
abbrev pub WantsTables : ℕ → DemandSet → Layout → Type 0
WantsTables size wanted layout =
    (table : Table) → IsTableOf layout table → WantsPointer size wanted table.pointer.0 table.pointer.0 0

-- Pages are a sound image, where this has become of the transactions; what is wanted of them is there, its pointer
-- pages are orderly, and each table is wanted.
pub record SoundAndWanted (size : ℕ) (state : ℕ → TxState) (pages : Pages) (layout : Layout) (r : Reading)
    (wanted : DemandSet) : Type 0 where
  pub sound : IsSoundBy packed_form size state pages layout r
  pub wants : IsWanting size pages wanted
  pub orderly : AreOrderly size pages wanted
  pub tables : WantsTables size wanted layout

-- a page of a table's, by which a record is known
abbrev pub IsPageOf : Layout → ℕ → Table → Type 0
IsPageOf layout n table = table_at (stands_of layout) n ≡ Some table

-- the law: a record of a table stands on a page that is wanted as a data page
abbrev pub RecordsAreWanted : Type 0
RecordsAreWanted = (size : ℕ) (state : ℕ → TxState) (pages : Pages) (layout : Layout) (r : Reading)
    (wanted : DemandSet) → SoundAndWanted size state pages layout r wanted
    → (n : ℕ) (table : Table) → IsPageOf layout n table → IsDataOf size wanted n

-- and the version behind its newest one is of a transaction that has committed
abbrev pub BehindHaveCommitted : Type 0
BehindHaveCommitted = (size : ℕ) (state : ℕ → TxState) (pages : Pages) (layout : Layout) (r : Reading)
    (wanted : DemandSet) → SoundAndWanted size state pages layout r wanted
    → (p : RecId) (table : Table) → IsPageOf layout p.page.0 table → (newest : Link) (v : Version)
    → cells_of pages p ≡ Some (cells.Anchor newest) → Meets (cells_of pages) newest v
    → (link : Link) → v.back ≡ Some link → state link.tx.0 ≡ Committed
