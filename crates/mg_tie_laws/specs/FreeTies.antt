-- A slot that is freed, and one that is turned back: what the pages are then to the laws on overlays.
use Rattle.std.proofs.Common.{◌≡◌, inl, inr, ap, sym, subst, ◌∙◌, refl, ℕ, Bool, false, List, Option, None, Some}
use Rattle.std.specs.Prelude.{IsSome}
use Rattle.mg_base.specs.Image.{Image}
use Rattle.mg_base.specs.declared.numbers.RecId.{RecId}
use Rattle.mg_careful.specs.Precedence.{Orders}
use Rattle.mg_image.specs.Form.{Pages}
use Rattle.mg_image.specs.Records.{Changes, cell_spelled, cells_of, slot_cell}
use Rattle.mg_image_overlay_laws.specs.pages.DataPages.{ChangesData}
use Rattle.mg_image_overlay_laws.specs.records.TakeOut.{back_cell}
use Rattle.mg_pool.specs.Batch.{Changed}
use Rattle.mg_pool.specs.declared.pool.Pool.{Pool}
use Rattle.mg_slots.specs.Changes.{SetsCell}
use Rattle.mg_slots.specs.DataPage.{cell_of}
use Rattle.mg_space.specs.View.{viewed}
use Rattle.mg_space.specs.ViewLaws.{viewed_else}
use Rattle.mg_version.specs.declared.cell.Cell.{Cell}
use Rattle.mg_version.specs.declared.cell.Cell.TheVariants as cells
use Rattle.mg_version.specs.declared.cell.Link.{Link}
use Rattle.mg_version.specs.declared.cell.Version.{Version}
use Rattle.mg_heap.specs.Changing.{ChangesAtMost}
use Rattle.mg_chain.specs.Writing.{FreesAt, TurnsBack}
use Rattle.mg_tie_laws.specs.Batches.{HasContent, IsWithin, has_here}
use Rattle.mg_tie_laws.specs.CellTies.{HasLawfulCells, read_apart, sets_cells, sets_page, spelled_is}
use Rattle.mg_tie_laws.specs.PutTies.{anchor_may}
use Rattle.mg_tie_laws.specs.Rows.{within_put}

-- a slot with a cell is in use
some_cell : (found : Option (List ℕ)) (c : Cell) → slot_cell found ≡ Some c → IsSome found
some_cell None c is = absurd cc
some_cell (Some bytes) c is = refl

-- a version of which one reads stands in no primary slot, where none may
pub version_apart : (pages : Pages) (x : RecId) (v : Version) → HasLawfulCells false pages x.page.0
    → cells_of pages x ≡ Some (cells.Version v) → v.primary ≡ false
version_apart pages x v lawful is = by (cell_of (pages x.page.0) x.slot) refl is
  where
    by : (found : Option (List ℕ)) → cell_of (pages x.page.0) x.slot ≡ found
        → slot_cell found ≡ Some (cells.Version v) → v.primary ≡ false
    by None none reads = absurd cc
    by (Some bytes) there reads =
        let same : cell_spelled bytes ≡ cells.Version v = cc in
        read_apart bytes v (lawful.cells x.slot bytes there) same

module _ {D L : Type 0} (in_primary : Bool) (store : Pool D L) (image : Image) (old new : Changed)
    (at : RecId) (frees : FreesAt store image old new at) (c : Cell)
    (was : cells_of (viewed store image old) at ≡ Some c) where
  abbrev view : Pages
  view = viewed store image old

  abbrev next : Pages
  next = viewed store image new

  used : IsSome (cell_of (view at.page.0) at.slot)
  used = some_cell (cell_of (view at.page.0) at.slot) c was

  sets : SetsCell (view at.page.0) (next at.page.0) at.slot None
  sets = (frees.frees.used used).sets

  pub frees_page : HasLawfulCells in_primary view at.page.0
      → ChangesData in_primary view next at.page.0
  frees_page lawful = sets_page in_primary view next at None sets frees.frees.others lawful
      (λ bytes is. absurd (no bytes is))
    where
      no : (bytes : List ℕ) → None ≡ Some bytes → ⊥
      no bytes is = absurd cc

  pub frees_cells : Changes (cells_of view) (cells_of next) at None
  frees_cells = sets_cells in_primary view next at None sets frees.frees.others

  -- the batch has the page then
  pub frees_has : HasContent new at.page.0
  frees_has = by frees.at_most
    where
      by : ChangesAtMost store.geometry.size old new at.page.0 → HasContent new at.page.0
      by (inr one) = has_here old new at.page.0 one.bytes one.puts
      by (inl same) =
          let views : next ≡ view = ap (viewed store image) same in
          let none_ : cells_of view at ≡ None =
          sym (ap (λ (pages : Pages). cells_of pages at) views) ∙ ap slot_cell sets.here in
          let both = sym none_ ∙ was in absurd cc

-- what the batch has not stays
pub frees_else : {D L : Type 0} (store : Pool D L) (image : Image) (old new : Changed) (at : RecId)
    → FreesAt store image old new at → (m : ℕ) → (HasContent new m → ⊥)
    → viewed store image new m ≡ viewed store image old m
frees_else store image old new at frees m none_ = by frees.at_most
  where
    by : ChangesAtMost store.geometry.size old new at.page.0
        → viewed store image new m ≡ viewed store image old m
    by (inl same) = ap (λ (b : Changed). viewed store image b m) same
    by (inr one) = viewed_else store image old new at.page.0 one.bytes one.puts m
        (λ e. none_ (subst (HasContent new) (sym e) (has_here old new at.page.0 one.bytes one.puts)))

pub frees_within : {D L : Type 0} (store : Pool D L) (image : Image) (batch : ℕ → Option (List ℕ))
    (orders : Orders) (old new : Changed) (at : RecId) → FreesAt store image old new at
    → IsWithin batch orders new → IsWithin batch orders old
frees_within store image batch orders old new at frees within = by frees.at_most
  where
    by : ChangesAtMost store.geometry.size old new at.page.0 → IsWithin batch orders old
    by (inl same) = subst (IsWithin batch orders) same within
    by (inr one) = within_put batch orders old new at.page.0 one.bytes one.puts within

-- ---- a slot is turned back

module _ {D L : Type 0} (in_primary : Bool) (store : Pool D L) (image : Image) (old new : Changed)
    (rec : RecId) (l : Link) (slot : cells_of (viewed store image old) rec ≡ Some (cells.Anchor l))
    (lawful : HasLawfulCells in_primary (viewed store image old) rec.page.0) where
  pub back_page : (back : Option Link) → TurnsBack store image old new rec back
      → ChangesData in_primary (viewed store image old) (viewed store image new) rec.page.0
  back_page None turns = frees_page in_primary store image old new rec turns (cells.Anchor l) slot lawful
  back_page (Some link) turns = sets_page in_primary (viewed store image old) (viewed store image new) rec
      (Some turns.bytes) turns.puts.puts.puts.sets turns.puts.puts.others lawful
      (λ other is. anchor_may in_primary turns.bytes other link turns.spells is)

  pub back_cells : (back : Option Link) → TurnsBack store image old new rec back
      → Changes (cells_of (viewed store image old)) (cells_of (viewed store image new)) rec
      (back_cell back)
  back_cells None turns = frees_cells in_primary store image old new rec turns (cells.Anchor l) slot
  back_cells (Some link) turns = subst (λ (c : Option Cell). Changes (cells_of (viewed store image old))
      (cells_of (viewed store image new)) rec c)
      (ap (λ (c : Cell). Some c) (spelled_is turns.bytes (cells.Anchor link) turns.spells))
      (sets_cells in_primary (viewed store image old) (viewed store image new) rec (Some turns.bytes)
      turns.puts.puts.puts.sets turns.puts.puts.others)

  pub back_has : (back : Option Link) → TurnsBack store image old new rec back
      → HasContent new rec.page.0
  back_has None turns = frees_has in_primary store image old new rec turns (cells.Anchor l) slot
  back_has (Some link) turns =
      has_here old new rec.page.0 turns.puts.one.bytes turns.puts.one.puts
