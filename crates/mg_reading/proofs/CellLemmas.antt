-- Lemmas on cells as they are read.
use Rattle.std.proofs.Common.{◌^◌, ◌≤◌, false, refl, ap, ◌∙◌, Option, None, Some, length-append, ◌≡◌, ◌≢◌, ◌⊎◌, inl, inr, ◌+◌, ◌<◌, ℕ, suc, zero, sym, Bool, List, [], ◌∷◌, ◌++◌, length, take, get_or, arith}
use Rattle.std.proofs.lemmas.List.{take_more}
use Rattle.mg_base.specs.declared.numbers.RecId.{RecId}
use Rattle.mg_base.specs.declared.geometry.TheConstants.{GREATEST_LIMIT}
use Rattle.mg_slots.specs.DataPage.{IsDataPage, cell_of}
use Rattle.mg_slots.specs.DataPageLaws.{used_of_some}
use Rattle.mg_version.specs.declared.cell.Cell.{Cell}
use Rattle.mg_version.specs.declared.cell.Cell.TheVariants as cells
use Rattle.mg_version.specs.declared.cell.Version.{Version}
use Rattle.mg_version.specs.Cells.{IsSpelling, IsCell, back_bytes, cell_bytes, head_bytes}
use Rattle.mg_version.specs.CellLaws.{cell_again}
use Rattle.mg_image.specs.Form.{Pages}
use Rattle.mg_image.specs.Records.{cell_spelled, cells_of, slot_cell}
use Rattle.mg_image.specs.Sound.{IsCellOf, IsTableData}
use Rattle.mg_image.specs.Tables.{EachFrom, Has}
use Rattle.mg_reading.specs.Readable.{HasCells}
use Rattle.mg_reading.proofs.DataLemmas.{cell_short}

-- an element of a list is one of it
pub has_at : (ns : List ℕ) (i n : ℕ) → i < length ns → get_or ns i 0 ≡ n → Has ns n
has_at [] i n below is = absurd (omega arith)
has_at (m ∷ ms) zero n below is = inl (sym is)
has_at (m ∷ ms) (suc i) n below is = inr (has_at ms i n (omega arith) is)

pub has_push : (ns : List ℕ) (m n : ℕ) → Has (ns ++ m ∷ []) n → Has ns n ⊎ (n ≡ m)
has_push [] m n (inl is) = inr is
has_push [] m n (inr none) = absurd none
has_push (k ∷ ns) m n (inl is) = inl (inl is)
has_push (k ∷ ns) m n (inr later) = at (has_push ns m n later)
  where
    at : Has ns n ⊎ (n ≡ m) → Has (k ∷ ns) n ⊎ (n ≡ m)
    at (inl there) = inl (inr there)
    at (inr is) = inr is

-- a number that is none of the first elements, nor the next one
pub none_more : (ns : List ℕ) (i n : ℕ) → i < length ns → (Has (take i ns) n → ⊥)
    → get_or ns i 0 ≢ n → Has (take (i + 1) ns) n → ⊥
none_more ns i n below none other has =
    at (has_push (take i ns) (get_or ns i 0) n (rw (take_more ns i 0 below) at has))
  where
    at : Has (take i ns) n ⊎ (n ≡ get_or ns i 0) → ⊥
    at (inl there) = none there
    at (inr is) = other (sym is)

-- bytes that spell a cell are read as that cell
pub spelled_is : (b : List ℕ) (cell : Cell) → IsSpelling b cell → cell ≡ cell_spelled b
unfolding cell_bytes
spelled_is b cell spells = rw (spells.spelled) (at cell spells.is_cell)
  where
    at : (cell : Cell) → IsCell cell → cell ≡ cell_spelled (cell_bytes cell)
    at (cells.Anchor link) lawful = sym (cell_again (cells.Anchor link) lawful)
    at (cells.Version v) lawful = sym (cell_again (cells.Version v) lawful)

-- one of the data pages that were tested is lawful
pub data_lawful : (in_primary : Bool) (size : ℕ) (pages : Pages) (owner at : ℕ) (ns : List ℕ) (n : ℕ)
    → EachFrom (IsTableData in_primary size pages owner) at ns → Has ns n → IsDataPage (pages n)
data_lawful in_primary size pages owner at [] n each has = absurd has
data_lawful in_primary size pages owner at (m ∷ ms) n each (inl is) = rw is (each.0.lawful)
data_lawful in_primary size pages owner at (m ∷ ms) n each (inr later) =
    data_lawful in_primary size pages owner (suc at) ms n each.1 later

-- the bytes of each of its cells spell one
pub data_cells : (size : ℕ) (pages : Pages) (owner at : ℕ) (ns : List ℕ) (n : ℕ)
    → EachFrom (IsTableData false size pages owner) at ns → Has ns n → HasCells (pages n)
data_cells size pages owner at [] n each has = absurd has
data_cells size pages owner at (m ∷ ms) n each (inl is) = rw is (each.0.cells)
data_cells size pages owner at (m ∷ ms) n each (inr later) =
    data_cells size pages owner (suc at) ms n each.1 later

-- the body of a version is shorter than its spelling
body_short : (bytes : List ℕ) (v : Version) → bytes ≡ cell_bytes (cells.Version v)
    → length v.body ≤ length bytes
unfolding cell_bytes
body_short bytes v is = omega (
  arith,
  ap length is,
  length-append (head_bytes v) (back_bytes v.back ++ v.body),
  length-append (back_bytes v.back) v.body,
)

same_cell : (v : Version) (cell : Cell) → Some cell ≡ Some (cells.Version v)
    → cell ≡ cells.Version v
same_cell v cell is = cc

-- the body of a version on one of the data pages is short
pub version_short : (size : ℕ) (pages : Pages) (owner : ℕ) (ns : List ℕ) (x : RecId) (v : Version)
    → EachFrom (IsTableData false size pages owner) 0 ns → Has ns x.page.0
    → cells_of pages x ≡ Some (cells.Version v) → length v.body < 2 ^ 30
version_short size pages owner ns x v each has is = at (cell_of (pages x.page.0) x.slot) refl is
  where
    page : IsDataPage (pages x.page.0)
    page = data_lawful false size pages owner 0 ns x.page.0 each has

    spelled : (bytes : List ℕ) → cell_of (pages x.page.0) x.slot ≡ Some bytes
        → cell_spelled bytes ≡ cells.Version v → IsCellOf false bytes → length v.body < 2 ^ 30
    spelled bytes there same (inl (cell, spells)) =
        let whole : bytes ≡ cell_bytes (cells.Version v) =
        spells.spelled ∙ ap cell_bytes (spelled_is bytes cell spells ∙ same) in
        let less = body_short bytes v whole in
        let most = cell_short (pages x.page.0) x.slot bytes page there in
        omega arith
    spelled bytes there same (inr (no_, other)) = absurd cc

    at : (cell : Option (List ℕ)) → cell_of (pages x.page.0) x.slot ≡ cell
        → slot_cell (cell_of (pages x.page.0) x.slot) ≡ Some (cells.Version v)
        → length v.body < 2 ^ 30
    at None none there = let no_ : None ≡ Some (cells.Version v) = rw none at there in absurd cc
    at (Some bytes) some there = spelled bytes some
        (same_cell v (cell_spelled bytes) (rw some at there))
        (data_cells size pages owner 0 ns x.page.0 each has x.slot bytes some)

data_below : (size : ℕ) (pages : Pages) (owner at : ℕ) (ns : List ℕ) (n : ℕ)
    → EachFrom (IsTableData false size pages owner) at ns → Has ns n → n < GREATEST_LIMIT
data_below size pages owner at [] n each has = absurd has
data_below size pages owner at (m ∷ ms) n each (inl is) = rw is (each.0.wanted.below)
data_below size pages owner at (m ∷ ms) n each (inr later) =
    data_below size pages owner (suc at) ms n each.1 later

-- the place of a version on one of the data pages is one of an image
pub placed_at : (size : ℕ) (pages : Pages) (owner : ℕ) (ns : List ℕ) (x : RecId) (v : Version)
    → EachFrom (IsTableData false size pages owner) 0 ns → Has ns x.page.0
    → cells_of pages x ≡ Some (cells.Version v)
    → (x.page.0 < GREATEST_LIMIT) × (x.slot < 2 ^ 16)
placed_at size pages owner ns x v each has is = (
  data_below size pages owner 0 ns x.page.0 each has,
  at (cell_of (pages x.page.0) x.slot) refl is,
)
  where
    page : IsDataPage (pages x.page.0)
    page = data_lawful false size pages owner 0 ns x.page.0 each has

    at : (cell : Option (List ℕ)) → cell_of (pages x.page.0) x.slot ≡ cell
        → slot_cell (cell_of (pages x.page.0) x.slot) ≡ Some (cells.Version v) → x.slot < 2 ^ 16
    at None none there = let no_ : None ≡ Some (cells.Version v) = rw none at there in absurd cc
    at (Some bytes) some there =
        let used = used_of_some (pages x.page.0) x.slot bytes some in
        let fits = page.slots_fit in
        let most = page.greatest_size in
        let inside = used.0 in
        omega arith
