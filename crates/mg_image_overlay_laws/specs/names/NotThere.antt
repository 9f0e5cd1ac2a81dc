-- A table that a transaction has made and not committed, where that transaction counts as dead: no layout
-- has it.
use Rattle.mg_base.specs.declared.transaction.TxState.{TxState}
use Rattle.mg_base.specs.declared.transaction.TxState.TheVariants.{Dead}
use Rattle.mg_image.specs.Form.{Pages}
use Rattle.mg_image.specs.Tables.{Has, Layout, PointerChain, entries_in, stands_of, table_at}
use Rattle.mg_image_overlay_laws.specs.pages.Kinds.{pointers_of}
use Rattle.mg_model.specs.declared.table.Table.{Table}
use Rattle.std.proofs.Common.{List, None, ℕ, ◌≡◌}

-- None of the pages of a table is one of a layout's tables: no page of its chain of pointer pages is one
-- of their pointer pages, and none of the pages that these list is one of their data pages.
pub record IsOutOf (pages : Pages) (layout : Layout) (first : ℕ) : Type 0 where
  pub pointers : (ns : List ℕ) → PointerChain pages first ns → (m : ℕ) → Has ns m
      → Has (pointers_of (stands_of layout)) m → ⊥
  pub data_pages : (ns : List ℕ) → PointerChain pages first ns → (m : ℕ) → Has (entries_in pages ns) m
      → table_at (stands_of layout) m ≡ None

-- Under one choice of transactions a table is not there: who has made it counts as dead, and none of its
-- pages is the layout's.
pub record IsNotThere (by : ℕ) (state : ℕ → TxState) (pages : Pages) (layout : Layout) (table : Table)
    : Type 0 where
  pub dead : state by ≡ Dead
  pub out : IsOutOf pages layout table.pointer.0

-- none of these is a data page of a table of the layout
abbrev pub HasNoData : Layout → List ℕ → Type 0
HasNoData layout cells = (m : ℕ) → Has cells m → table_at (stands_of layout) m ≡ None

-- A layout has neither this pointer page nor any of these data pages.
pub record HasNoneOf (layout : Layout) (last : ℕ) (cells : List ℕ) : Type 0 where
  pub pointer : Has (pointers_of (stands_of layout)) last → ⊥
  pub data_pages : HasNoData layout cells
