-- One data page is changed: what a batch has more, and what that is to one who sees its pages.
use Rattle.std.specs.Prelude.{◌≡◌, ◌≢◌, ◌≤◌, ◌⊎◌, ℕ, Bool, true, false, List, length, None, IsSome}
use Rattle.mg_base.specs.declared.numbers.RecId.{RecId}
use Rattle.mg_image.specs.Form.{Pages}
use Rattle.mg_pool.specs.Batch.{Changed, PutsPage}
use Rattle.mg_slots.specs.Changes.{FreesCell, PutsCell}
use Rattle.mg_slots.specs.DataPage.{cell_of}
use Rattle.mg_slots.specs.Room.{least_free, need_of, room_for}
use Rattle.mg_heap.specs.Reading.{IsSomeData}

-- the batch has one page more, or another content of it, one page long; its orders stay
pub record ChangesOne (size : ℕ) (old new : Changed) (page : ℕ) : Type 0 where
  pub bytes : List ℕ
  pub len : length bytes ≡ size
  pub puts : PutsPage old new page bytes

-- the batch has one page more where that was done, and is as before where it was not
abbrev pub ChangesWhere : ℕ → Changed → Changed → ℕ → Bool → Type 0
ChangesWhere size old new page true = ChangesOne size old new page
ChangesWhere size old new page false = new ≡ old

-- a slot may have a cell: it is in use or the least free one of its page, and the cell fits
pub record MayHave (b : List ℕ) (slot : ℕ) (cell : List ℕ) : Type 0 where
  pub slot_is : cell_of b slot ≡ None → slot ≡ least_free b
  pub fits : need_of cell ≤ room_for b slot

-- A slot of a data page has this cell now. No other cell of the page has changed, and no other page.
pub record PutsCellAt (old new : Pages) (at : RecId) (cell : List ℕ) : Type 0 where
  pub data_page : IsSomeData at.page (old at.page.0)
  pub puts : PutsCell (old at.page.0) (new at.page.0) at.slot cell
  pub others : (n : ℕ) → n ≢ at.page.0 → new n ≡ old n

-- a cell was put exactly where it may stand
abbrev pub PlacesCell : Pages → Pages → RecId → List ℕ → Bool → Type 0
PlacesCell old new at cell true = PutsCellAt old new at cell × MayHave (old at.page.0) at.slot cell
PlacesCell old new at cell false =
    IsSomeData at.page (old at.page.0) × (MayHave (old at.page.0) at.slot cell → ⊥)

-- A slot of a data page is free now, and is freed where it had a cell. No other cell of the page has
-- changed, and no other page.
pub record FreesCellAt (old new : Pages) (at : RecId) : Type 0 where
  pub data_page : IsSomeData at.page (old at.page.0)
  pub used : IsSome (cell_of (old at.page.0) at.slot)
      → FreesCell (old at.page.0) (new at.page.0) at.slot
  pub unused : cell_of (old at.page.0) at.slot ≡ None → new at.page.0 ≡ old at.page.0
  pub others : (n : ℕ) → n ≢ at.page.0 → new n ≡ old n

-- a batch has at most one page more, or another content of it
abbrev pub ChangesAtMost : ℕ → Changed → Changed → ℕ → Type 0
ChangesAtMost size old new page = (new ≡ old) ⊎ ChangesOne size old new page

-- the least free slot of a data page
pub record IsLeastSlot (page : ℕ) (b : List ℕ) (slot : ℕ) : Type 0 where
  pub data_page : IsSomeData (record { 0 = page }) b
  pub is_least : slot ≡ least_free b
