-- What the steps of laying out a page do.
use Rattle.std.specs.Prelude.{◌≡◌, ℕ, ◌+◌, ◌-◌, ◌*◌, ◌<◌, ◌≤◌, List, length, Option, None, Some, IsSome, ◌==◌, if◌then◌else◌}
use Rattle.mg_base.specs.Fields.{byte}
use Rattle.mg_base.specs.declared.fields.TheConstants.{COMMON}
use Rattle.mg_slots.specs.declared.page.TheConstants.{SLOTS_AT, SLOT_LEN}
use Rattle.mg_slots.specs.DataPage.{Cells, offset_at, length_at, taken, taken_below}

-- the cells with another one in one slot
abbrev pub with_cell : Cells → ℕ → Option (List ℕ) → Cells
with_cell cells slot cell other = if other == slot then cell else cells other

-- how many bytes the fields, n slots and their cells take
abbrev pub space_of : Cells → ℕ → ℕ
space_of cells n = SLOTS_AT + SLOT_LEN * n + taken_below cells n

-- the slots end at n: the last one has a cell, and none from n on has
pub record EndsAt (cells : Cells) (n : ℕ) : Type 0 where
  pub last : (slot : ℕ) → n ≡ slot + 1 → IsSome (cells slot)
  pub beyond : (slot : ℕ) → n ≤ slot → cells slot ≡ None

-- all bytes behind the common part are zero
pub record Clears (old new : List ℕ) : Type 0 where
  pub len : length new ≡ length old
  pub common : (k : ℕ) → k < COMMON → byte new k ≡ byte old k
  pub blank : (k : ℕ) → COMMON ≤ k → byte new k ≡ 0

-- bytes are written at a place, and nothing else
pub record WritesBytes (old new : List ℕ) (at : ℕ) (bytes : List ℕ) : Type 0 where
  pub len : length new ≡ length old
  pub here : (k : ℕ) → k < length bytes → byte new (at + k) ≡ byte bytes k
  pub same : (k : ℕ) → (at ≤ k → at + length bytes ≤ k) → byte new k ≡ byte old k

-- a cell is written at a place, and its slot, and nothing else
pub record PlacesCell (old new : List ℕ) (slot at : ℕ) (cell : List ℕ) : Type 0 where
  pub len : length new ≡ length old
  pub offset : offset_at new slot ≡ at
  pub length_is : length_at new slot ≡ length cell
  pub here : (k : ℕ) → k < length cell → byte new (at + k) ≡ byte cell k
  pub same : (k : ℕ) → (SLOTS_AT + SLOT_LEN * slot ≤ k → SLOTS_AT + SLOT_LEN * (slot + 1) ≤ k)
      → (at ≤ k → at + length cell ≤ k) → byte new k ≡ byte old k

-- what a slot is to have is placed below `low`: nothing is changed where it is to have no cell
abbrev pub PlacesBelow : List ℕ → List ℕ → ℕ → ℕ → Option (List ℕ) → Type 0
PlacesBelow old new slot low None = new ≡ old
PlacesBelow old new slot low (Some cell) = PlacesCell old new slot (low - taken (length cell)) cell
