-- Laws of cells and their spellings, for those who stand above.
use Rattle.std.specs.Prelude.{◌≡◌, ◌<◌, ◌^◌, ◌+◌, ◌*◌, ◌/◌, ◌%◌, ◌==◌, ℕ, Bool, true, false, List, length, Option, Some, None, IfSome, is_some, if◌then◌else◌}
use Rattle.std.proofs.Common.{refl, sym, ap, ◌∙◌, arith}
use Rattle.mg_base.specs.Fields.{byte}
use Rattle.mg_version.specs.declared.cell.TheConstants.{ANCHOR, ANCHOR_LEN, NEWEST_AT, BACK_AT, BODY_AFTER_BACK}
use Rattle.mg_version.specs.declared.cell.Link.{Link}
use Rattle.mg_version.specs.declared.cell.Version.{Version}
use Rattle.mg_version.specs.declared.cell.Cell.{Cell}
use Rattle.mg_version.specs.declared.cell.Cell.TheVariants as cells
use Rattle.mg_version.specs.Cells.{IsLink, IsCell, IsSpelling, cell_bytes}
use Rattle.mg_version.specs.CellReading.{link_in, version_in}

-- the cell of these fields
abbrev pub cell_in : List ℕ → Cell
cell_in b =
    if byte b 0 == ANCHOR then cells.Anchor (link_in b NEWEST_AT) else cells.Version (version_in b)

u16_of_bytes : (n : ℕ) → n % 256 + 256 * (n / 256) ≡ n
u16_of_bytes n = omega arith

u32_of_bytes : (n : ℕ) → n < 2 ^ 32 → n % 256 + 256 * (n / 256 % 256) + 65536 * (n / 65536 % 256)
    + 16777216 * (n / 16777216) ≡ n
u32_of_bytes n small = omega arith

-- a version outside its primary slot
moved : Bool → ℕ → ℕ → Option Link → List ℕ → Version
moved deleted format tx back body = record {
  primary = false;
  deleted = deleted;
  format = format;
  tx = record { 0 = tx };
  back = back;
  body = body;
}

version_again : (deleted : Bool) (format tx : ℕ) (back : Option Link) (body : List ℕ) → tx < 2 ^ 32
    → IfSome back IsLink
    → version_in (cell_bytes (cells.Version (moved deleted format tx back body)))
    ≡ moved deleted format tx back body
unfolding cell_bytes moved
version_again true format tx None body small fits =
    rw (u16_of_bytes format, u32_of_bytes tx small) refl
version_again false format tx None body small fits =
    rw (u16_of_bytes format, u32_of_bytes tx small) refl
version_again true format tx (Some link) body small fits =
    rw (
      u16_of_bytes format,
      u32_of_bytes tx small,
      u32_of_bytes link.rec.page.0 fits.page,
      u16_of_bytes link.rec.slot,
      u32_of_bytes link.tx.0 fits.tx,
    ) refl
version_again false format tx (Some link) body small fits =
    rw (
      u16_of_bytes format,
      u32_of_bytes tx small,
      u32_of_bytes link.rec.page.0 fits.page,
      u16_of_bytes link.rec.slot,
      u32_of_bytes link.tx.0 fits.tx,
    ) refl

-- a cell is read again from its spelling
pub cell_again : (cell : Cell) → IsCell cell → cell_in (cell_bytes cell) ≡ cell
unfolding cell_bytes moved
cell_again (cells.Anchor link) fits =
    ap (λ (x : Link). cells.Anchor x) (rw (
      u32_of_bytes link.rec.page.0 fits.page,
      u16_of_bytes link.rec.slot,
      u32_of_bytes link.tx.0 fits.tx,
    ) refl)
cell_again (cells.Version v) fits =
    let whole : moved v.deleted v.format v.tx.0 v.back v.body ≡ v =
    ap (λ (p : Bool). record v { primary = p }) (sym fits.moved) in
    ap (λ (x : Version). cells.Version x)
    (version_again v.deleted v.format v.tx.0 v.back v.body fits.tx fits.back ∙ whole)

-- no two cells have one spelling
pub spelling_unique : (first second : Cell) → IsCell first → IsCell second
    → cell_bytes first ≡ cell_bytes second → first ≡ second
spelling_unique first second fits also same = sym (cell_again first fits) ∙
    (ap cell_in same ∙ cell_again second also)

-- bytes spell at most one cell
pub one_spelling : (b : List ℕ) (first second : Cell) → IsSpelling b first → IsSpelling b second
    → first ≡ second
one_spelling b first second spelled also =
    spelling_unique first second spelled.is_cell also.is_cell (sym spelled.spelled ∙ also.spelled)
