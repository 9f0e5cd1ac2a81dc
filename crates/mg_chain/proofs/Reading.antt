-- Cells as they are read.
use Rattle.std.specs.Prelude.{◌≡◌, ◌≤◌, ◌<◌, ◌==◌, ℕ, Bool, true, false, List, Some, length, take, drop, cond}
use Rattle.std.proofs.Common.{sym, ◌∙◌, ap, subst, arith}
use Rattle.std.proofs.lemmas.List.{length-take, length-drop}
use Rattle.mg_base.specs.Fields.{byte}
use Rattle.mg_version.specs.declared.cell.Cell.{Cell}
use Rattle.mg_version.specs.declared.cell.Cell.TheVariants as cells
use Rattle.mg_version.specs.Cells.{IsSpelling, IsCell, cell_bytes}
use Rattle.mg_version.specs.CellLaws.{cell_again}
use Rattle.mg_version.specs.CellReading.{body_at, link_in, version_in}
use Rattle.mg_version.specs.declared.cell.TheConstants.{ANCHOR, NEWEST_AT}
use Rattle.mg_slots.specs.DataPage.{cell_of, slot_count, offset_at, length_at}
use Rattle.mg_slots.specs.DataPageLaws.{cell_used, used_of_some}
use Rattle.mg_slots.specs.declared.page.TheConstants.{GREATEST_SIZE}
use Rattle.mg_image.specs.declared.entry.TheConstants.{PRIMARY_VERSION}
use Rattle.mg_image.specs.Records.{cell_spelled}
use Rattle.mg_chain.specs.Refusals.{HasShortBody}

-- bytes that spell a cell are read as that cell
pub spelled_is : (b : List ℕ) (cell : Cell) → IsSpelling b cell → cell ≡ cell_spelled b
unfolding cell_bytes
spelled_is b cell spells = rw (spells.spelled) (at cell spells.is_cell)
  where
    at : (cell : Cell) → IsCell cell → cell ≡ cell_spelled (cell_bytes cell)
    at (cells.Anchor link) lawful = sym (cell_again (cells.Anchor link) lawful)
    at (cells.Version v) lawful = sym (cell_again (cells.Version v) lawful)

-- bytes of a page spell no longer body
pub short_spelled : (b : List ℕ) (cell : Cell) → IsSpelling b cell → length b ≤ GREATEST_SIZE
    → HasShortBody cell
short_spelled b cell spells short =
    subst HasShortBody (sym (spelled_is b cell spells)) (at (byte b 0 == PRIMARY_VERSION) (byte b 0 == ANCHOR))
  where
    rest : (k : ℕ) → length (drop k b) ≤ GREATEST_SIZE
    rest k = omega (arith, length-drop k b, short)

    at : (p a : Bool) → HasShortBody (cond p (cells.Version (record (version_in b) { primary = true }))
        (cond a (cells.Anchor (link_in b NEWEST_AT)) (cells.Version (version_in b))))
    at true a = rest (body_at b)
    at false true = tt
    at false false = rest (body_at b)

-- a cell of a page is no longer than a page can be
pub cell_fits : (b : List ℕ) (slot : ℕ) (cell : List ℕ) → cell_of b slot ≡ Some cell
    → length b ≤ GREATEST_SIZE → length cell ≤ GREATEST_SIZE
cell_fits b slot cell some short = at (used_of_some b slot cell some)
  where
    at : (slot < slot_count b) × (0 < offset_at b slot) → length cell ≤ GREATEST_SIZE
    at (below, used) =
        let same : Some cell ≡ Some (take (length_at b slot) (drop (offset_at b slot) b)) =
        sym some ∙ cell_used b slot below used in
        let it : cell ≡ take (length_at b slot) (drop (offset_at b slot) b) = cc in
        let long : length cell ≡ length (take (length_at b slot) (drop (offset_at b slot) b)) =
        ap (λ (x : List ℕ). length x) it in
        omega (
          arith,
          long,
          short,
          length-take (length_at b slot) (drop (offset_at b slot) b),
          length-drop (offset_at b slot) b,
        )
