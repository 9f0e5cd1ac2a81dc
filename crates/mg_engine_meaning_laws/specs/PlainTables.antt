-- Pages whose tables are plain. No table gets an index yet, and rows are written of the first format alone, so this is
-- asked of an image that is opened, and kept by each call. And whoever comes to be committed, a table has the same
-- indexes.
use Rattle.std.specs.Prelude.{◌≡◌, ℕ, Bool, List, [], ◌∷◌}
use Rattle.mg_base.specs.declared.transaction.TxState.{TxState}
use Rattle.mg_value.specs.declared.shape.Column.{Column}
use Rattle.mg_model.specs.declared.table.Table.{Table}
use Rattle.mg_image_overlay_laws.specs.tables.Growing.{IsTableOf}
use Rattle.mg_image.specs.Catalog.{IsSameTable}
use Rattle.mg_image.specs.Form.{Pages, packed_form}
use Rattle.mg_image.specs.Records.{Reading}
use Rattle.mg_image.specs.Sound.{IsSoundBy}
use Rattle.mg_image.specs.Tables.{Layout}
use Rattle.mg_overlay_laws.specs.Overlays.{left_state}

-- each column is there from the first format on
abbrev pub AreFirst : List Column → Type 0
AreFirst [] = Unit {0}
AreFirst (column ∷ columns) = (column.since ≡ 1) × AreFirst columns

-- A table is plain: it has no index, and all its columns came with it.
pub record IsPlainTable (table : Table) : Type 0 where
  pub no_index : table.indexes ≡ []
  pub first : AreFirst table.shape.columns

-- whichever active transactions count as in limbo, each table of a layout under which the pages are sound is plain
abbrev pub EachIsPlain : ℕ → (ℕ → TxState) → Pages → Type 0
EachIsPlain size state pages = (chosen : ℕ → Bool) (layout : Layout) (r : Reading)
    → IsSoundBy packed_form size (left_state chosen state) pages layout r
    → (its : Table) → IsTableOf layout its → IsPlainTable its

-- and two such layouts, for two choices, have a table with the same indexes
abbrev pub IndexesAgree : ℕ → (ℕ → TxState) → Pages → Type 0
IndexesAgree size state pages = (chosen other : ℕ → Bool) (a b : Layout) (r s : Reading)
    → IsSoundBy packed_form size (left_state chosen state) pages a r
    → IsSoundBy packed_form size (left_state other state) pages b s
    → (x y : Table) → IsTableOf a x → IsTableOf b y → IsSameTable x y → x.indexes ≡ y.indexes

-- Both hold of pages.
pub record HasPlainTables (size : ℕ) (state : ℕ → TxState) (pages : Pages) : Type 0 where
  pub each : EachIsPlain size state pages
  pub agree : IndexesAgree size state pages

-- each table of a layout is one of another's
abbrev pub HasTablesOf : Layout → Layout → Type 0
HasTablesOf layout before = (its : Table) → IsTableOf layout its → IsTableOf before its
