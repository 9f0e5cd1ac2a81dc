-- Cells of data pages, as they are read.
use Rattle.std.specs.Prelude.{◌≡◌, ◌⊎◌, ◌<◌, ◌≤◌, ◌+◌, ◌^◌, ℕ, false, List, ◌++◌, Option, None, Some, length}
use Rattle.std.proofs.Common.{refl, sym, ap, ◌∙◌, inl, inr, arith, subst, length-append}
use Rattle.mg_base.specs.declared.numbers.RecId.{RecId}
use Rattle.mg_check_data.specs.DataRung.{HasCells}
use Rattle.mg_check_records.specs.Marks.{most_slots}
use Rattle.mg_image.specs.Form.{Pages}
use Rattle.mg_image.specs.Records.{cell_spelled, cells_of, slot_cell}
use Rattle.mg_image.specs.Sound.{IsCellOf, IsTableData}
use Rattle.mg_slots.specs.DataPage.{IsDataPage, cell_of, taken_by}
use Rattle.mg_slots.specs.DataPageLaws.{taken_by_fits, used_of_some}
use Rattle.mg_slots.specs.declared.page.TheConstants.{GREATEST_SIZE}
use Rattle.mg_version.specs.declared.cell.Cell.{Cell}
use Rattle.mg_version.specs.declared.cell.Cell.TheVariants as cells
use Rattle.mg_version.specs.declared.cell.Version.{Version}
use Rattle.mg_version.specs.Cells.{IsCell, IsSpelling, RefusesCell, back_bytes, cell_bytes, head_bytes}
use Rattle.mg_version.specs.CellLaws.{cell_again}

-- bytes that spell a cell are read as that cell
pub spelled_is : (b : List ℕ) (cell : Cell) → IsSpelling b cell → cell ≡ cell_spelled b
unfolding cell_bytes
spelled_is b cell spells = rw (spells.spelled) (at cell spells.is_cell)
  where
    at : (cell : Cell) → IsCell cell → cell ≡ cell_spelled (cell_bytes cell)
    at (cells.Anchor link) lawful = sym (cell_again (cells.Anchor link) lawful)
    at (cells.Version v) lawful = sym (cell_again (cells.Version v) lawful)

-- bytes that spell one are not refused
pub never_refused : (b : List ℕ) (at : ℕ) → IsCellOf false b → RefusesCell b at → ⊥
never_refused b at (inl (cell, spells)) refused = refused.none cell spells
never_refused b at (inr (never, other)) refused = absurd cc

pub cell_short : (b : List ℕ) (slot : ℕ) (bytes : List ℕ) → IsDataPage b
    → cell_of b slot ≡ Some bytes → length bytes ≤ GREATEST_SIZE
cell_short b slot bytes page is =
    let fits : taken_by (cell_of b slot) ≤ length b = taken_by_fits b slot page in
    let same : taken_by (cell_of b slot) ≡ taken_by (Some bytes) = ap taken_by is in
    let most = page.greatest_size in
    omega (arith, fits, same, most)

-- ---- a version on a data page

body_short : (bytes : List ℕ) (v : Version) → bytes ≡ cell_bytes (cells.Version v)
    → length v.body ≤ length bytes
unfolding cell_bytes
body_short bytes v is = omega (
  arith,
  ap length is,
  length-append (head_bytes v) (back_bytes v.back ++ v.body),
  length-append (back_bytes v.back) v.body,
)

same_cell : (v : Version) (cell : Cell) → Some cell ≡ Some (cells.Version v)
    → cell ≡ cells.Version v
same_cell v cell is = cc

-- its body is no longer than a page
pub version_short : (size : ℕ) (pages : Pages) (owner at : ℕ) (x : RecId) (v : Version)
    → IsTableData false size pages owner at x.page.0
    → cells_of pages x ≡ Some (cells.Version v) → length v.body ≤ GREATEST_SIZE
version_short size pages owner at x v page is = here (cell_of (pages x.page.0) x.slot) refl is
  where
    spelled : (bytes : List ℕ) → cell_of (pages x.page.0) x.slot ≡ Some bytes
        → cell_spelled bytes ≡ cells.Version v → IsCellOf false bytes
        → length v.body ≤ GREATEST_SIZE
    spelled bytes there same (inl (cell, spells)) =
        let whole : bytes ≡ cell_bytes (cells.Version v) =
        spells.spelled ∙ ap cell_bytes (spelled_is bytes cell spells ∙ same) in
        let less = body_short bytes v whole in
        let most = cell_short (pages x.page.0) x.slot bytes page.lawful there in
        omega (arith, less, most)
    spelled bytes there same (inr (never, other)) = absurd cc

    here : (cell : Option (List ℕ)) → cell_of (pages x.page.0) x.slot ≡ cell
        → slot_cell (cell_of (pages x.page.0) x.slot) ≡ Some (cells.Version v)
        → length v.body ≤ GREATEST_SIZE
    here None none there =
        let never : None ≡ Some (cells.Version v) = rw none at there in absurd cc
    here (Some bytes) some there = spelled bytes some
        (same_cell v (cell_spelled bytes) (rw some at there)) (page.cells x.slot bytes some)

-- its slot is one of those that a page can have
pub slot_within : (size : ℕ) (pages : Pages) (owner at : ℕ) (x : RecId) (v : Version)
    → length (pages x.page.0) ≡ size → IsTableData false size pages owner at x.page.0
    → cells_of pages x ≡ Some (cells.Version v) → x.slot < most_slots size
slot_within size pages owner at x v long page is = here (cell_of (pages x.page.0) x.slot) refl is
  where
    here : (cell : Option (List ℕ)) → cell_of (pages x.page.0) x.slot ≡ cell
        → slot_cell (cell_of (pages x.page.0) x.slot) ≡ Some (cells.Version v)
        → x.slot < most_slots size
    here None none there =
        let never : None ≡ Some (cells.Version v) = rw none at there in absurd cc
    here (Some bytes) some there =
        let used = used_of_some (pages x.page.0) x.slot bytes some in
        let fits = page.lawful.slots_fit in
        let inside = used.0 in
        omega (arith, long, fits, inside)
