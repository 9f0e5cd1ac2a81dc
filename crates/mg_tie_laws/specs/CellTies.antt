-- A cell that is put, or freed, by the heap changes a data page as the laws on overlays take it.
use Rattle.std.proofs.Common.{◌≡◌, ◌≢◌, ◌⊎◌, inl, inr, ap, sym, subst, ◌∙◌, refl, arith, suc, ℕ, ◌<◌, Bool, true, false, List, [], ◌∷◌, Option, Some}
use Rattle.std.specs.Prelude.{if◌then◌else◌}
use Rattle.std.proofs.lemmas.Bool.{cases_eq}
use Rattle.mg_base.specs.CheckLaws.{byte_front}
use Rattle.mg_base.specs.Checks.{PassesAll, common_checks}
use Rattle.mg_base.specs.Fields.{byte}
use Rattle.mg_base.specs.declared.fields.TheConstants.{COMMON}
use Rattle.mg_base.specs.declared.geometry.TheConstants.{GREATEST_LIMIT}
use Rattle.mg_base.specs.declared.numbers.RecId.{RecId}
use Rattle.mg_base.specs.declared.transaction.TxState.{TxState}
use Rattle.mg_image.specs.Form.{Form, Pages}
use Rattle.mg_image.specs.Records.{Changes, Reading, cell_spelled, cells_of, slot_cell}
use Rattle.mg_image.specs.Sound.{HasTablePages, IsCellOf, IsSoundBy, IsTableData}
use Rattle.mg_image.specs.Tables.{EachFrom, EachStand, Has, Layout, Stand, has, stands_of, table_at}
use Rattle.mg_image_overlay_laws.specs.pages.DataPages.{ChangesData, all_passes, kind_of}
use Rattle.mg_image_overlay_laws.specs.pages.Reach.{has_it}
use Rattle.mg_model.specs.declared.table.Table.{Table}
use Rattle.mg_slots.specs.Changes.{SetsCell}
use Rattle.mg_slots.specs.DataPage.{cell_of}
use Rattle.mg_slots.specs.declared.page.TheConstants.{DATA_KIND}
use Rattle.mg_version.specs.CellLaws.{cell_again}
use Rattle.mg_version.specs.Cells.{IsCell, IsSpelling, cell_bytes}
use Rattle.mg_version.specs.declared.cell.Cell.{Cell}
use Rattle.mg_version.specs.declared.cell.Cell.TheVariants as cells
use Rattle.mg_version.specs.declared.cell.Version.{Version}
use Rattle.mg_heap.specs.Reading.{owner_in}

-- A page is a data page by its kind, and each of its cells is lawful.
pub record HasLawfulCells (in_primary : Bool) (pages : Pages) (b : ℕ) : Type 0 where
  pub below : b < GREATEST_LIMIT
  pub kind : byte (pages b) 0 ≡ DATA_KIND
  pub cells : (slot : ℕ) (bytes : List ℕ) → cell_of (pages b) slot ≡ Some bytes
      → IsCellOf in_primary bytes

-- ---- a table's data page has them

-- A page is a table's data page, the place-th.
pub record IsDataOf (in_primary : Bool) (size : ℕ) (pages : Pages) (table : Table) (b : ℕ) : Type 0
  where
    pub place : ℕ
    pub is : IsTableData in_primary size pages table.pointer.0 place b

pub data_of_table : (in_primary : Bool) (size : ℕ) (pages : Pages) (stands : List Stand)
    → EachStand (HasTablePages in_primary size pages) stands → (b : ℕ) (table : Table)
    → table_at stands b ≡ Some table → IsDataOf in_primary size pages table b
data_of_table in_primary size pages [] each b table is = absurd cc
data_of_table in_primary size pages (s ∷ stands) each b table is =
    at (has s.data_pages b) refl is (data_of_table in_primary size pages stands each.1 b table)
  where
    among : (k : ℕ) (ns : List ℕ) → EachFrom (IsTableData in_primary size pages s.table.pointer.0) k ns
        → Has ns b → IsDataOf in_primary size pages s.table b
    among k [] are there = absurd there
    among k (j ∷ js) are (inl e) = record {
      place = k;
      is = subst (IsTableData in_primary size pages s.table.pointer.0 k) (sym e) are.0;
    }
    among k (j ∷ js) are (inr more) = among (suc k) js are.1 more

    at : (c : Bool) → has s.data_pages b ≡ c
        → (if c then Some s.table else table_at stands b) ≡ Some table
        → (table_at stands b ≡ Some table → IsDataOf in_primary size pages table b)
        → IsDataOf in_primary size pages table b
    at true in_it is_ more =
        let same : s.table ≡ table = cc in
        subst (λ (t : Table). IsDataOf in_primary size pages t b) same
        (among 0 s.data_pages each.0.data_pages (has_it s.data_pages b in_it))
    at false out is_ more = more is_

-- what the common part says of the owner
owner_of : (page : List ℕ) (n owner at : ℕ) → PassesAll (common_checks page n DATA_KIND owner at)
    → owner_in page ≡ owner
unfolding common_checks
owner_of page n owner at passes = passes.1.1.1.1.0

module _ (form : Form) (size : ℕ) (state : ℕ → TxState) (pages : Pages) (layout : Layout)
    (r : Reading) (sound : IsSoundBy form size state pages layout r) (b : ℕ) (table : Table)
    (of : table_at (stands_of layout) b ≡ Some table) where
  data_is : IsDataOf form.in_primary size pages table b
  data_is = data_of_table form.in_primary size pages (stands_of layout) sound.tables b table of

  pub lawful_cells : HasLawfulCells form.in_primary pages b
  lawful_cells = record {
    below = data_is.is.wanted.below;
    kind = kind_of (pages b) b DATA_KIND table.pointer.0 data_is.place []
        (all_passes (common_checks (pages b) b DATA_KIND table.pointer.0 data_is.place)
        data_is.is.wanted.fields);
    cells = data_is.is.cells;
  }

  -- it says itself whose it is
  pub owner_told : owner_in (pages b) ≡ table.pointer.0
  owner_told = owner_of (pages b) b table.pointer.0 data_is.place data_is.is.wanted.fields

-- ---- the steps

-- bytes that spell a cell are read as it
pub spelled_is : (b : List ℕ) (cell : Cell) → IsSpelling b cell → cell_spelled b ≡ cell
unfolding cell_bytes
spelled_is b cell spells = ap cell_spelled spells.spelled ∙ at cell spells.is_cell
  where
    at : (c : Cell) → IsCell c → cell_spelled (cell_bytes c) ≡ c
    at (cells.Anchor link) lawful = cell_again (cells.Anchor link) lawful
    at (cells.Version v) lawful = cell_again (cells.Version v) lawful

-- a version is read in no primary slot, where none may stand there
pub read_apart : (bytes : List ℕ) (v : Version) → IsCellOf false bytes
    → cell_spelled bytes ≡ cells.Version v → v.primary ≡ false
read_apart bytes v (inl (cell, spells)) is = at cell (sym (spelled_is bytes cell spells) ∙ is) spells.is_cell
  where
    at : (c : Cell) → c ≡ cells.Version v → IsCell c → v.primary ≡ false
    at (cells.Anchor link) same lawful = absurd cc
    at (cells.Version w) same lawful = let one : w ≡ v = cc in
        ap (λ (x : Version). x.primary) (sym one) ∙ lawful.moved
read_apart bytes v (inr (primary, spells)) is = absurd cc

module _ (in_primary : Bool) (old new : Pages) (at : RecId) (cell : Option (List ℕ))
    (sets : SetsCell (old at.page.0) (new at.page.0) at.slot cell)
    (others : (n : ℕ) → n ≢ at.page.0 → new n ≡ old n) where
  pub sets_page : HasLawfulCells in_primary old at.page.0
      → ((bytes : List ℕ) → cell ≡ Some bytes → IsCellOf in_primary bytes)
      → ChangesData in_primary old new at.page.0
  sets_page was may = record {
    others = others;
    below = was.below;
    kind = was.kind;
    common = sets.common;
    len = sets.len;
    lawful = sets.lawful;
    cells = λ slot bytes is. by slot bytes is (cases_eq slot at.slot);
  }
    where
      by : (slot : ℕ) (bytes : List ℕ) → cell_of (new at.page.0) slot ≡ Some bytes
          → (slot ≡ at.slot) ⊎ (slot ≢ at.slot) → IsCellOf in_primary bytes
      by slot bytes is (inl same) = may bytes (sym sets.here
          ∙ (ap (cell_of (new at.page.0)) (sym same) ∙ is))
      by slot bytes is (inr ne) = was.cells slot bytes (sym (sets.others slot ne) ∙ is)

  pub sets_cells : Changes (cells_of old) (cells_of new) at (slot_cell cell)
  sets_cells = record {
    here = ap slot_cell sets.here;
    others = λ y ne. by y ne (cases_eq y.page.0 at.page.0) (cases_eq y.slot at.slot);
  }
    where
      by : (y : RecId) → y ≢ at → (y.page.0 ≡ at.page.0) ⊎ (y.page.0 ≢ at.page.0)
          → (y.slot ≡ at.slot) ⊎ (y.slot ≢ at.slot) → cells_of new y ≡ cells_of old y
      by y ne (inr off) slots = ap (λ (page : List ℕ). slot_cell (cell_of page y.slot))
          (others y.page.0 off)
      by y ne (inl on) (inr off) = ap slot_cell (ap (λ (k : ℕ). cell_of (new k) y.slot) on
          ∙ (sets.others y.slot off ∙ ap (λ (k : ℕ). cell_of (old k) y.slot) (sym on)))
      by y ne (inl on) (inl same) = absurd (ne (λ i. record { page = record { 0 = on i }; slot = same i }))

-- another data page has lawful cells still
pub cells_still : (in_primary : Bool) (old new : Pages) (b c : ℕ) → ChangesData in_primary old new b
    → HasLawfulCells in_primary old c → HasLawfulCells in_primary new c
cells_still in_primary old new b c change was = at (cases_eq c b)
  where
    at : (c ≡ b) ⊎ (c ≢ b) → HasLawfulCells in_primary new c
    at (inl same) = subst (HasLawfulCells in_primary new) (sym same) (record {
      below = change.below;
      kind = byte_front (new b) (old b) COMMON 0 change.common (omega arith) ∙ change.kind;
      cells = change.cells;
    })
    at (inr ne) = record {
      below = was.below;
      kind = ap (λ (page : List ℕ). byte page 0) (change.others c ne) ∙ was.kind;
      cells = λ slot bytes is. was.cells slot bytes
          (sym (ap (λ (page : List ℕ). cell_of page slot) (change.others c ne)) ∙ is);
    }
