-- The records of a table, in the order of its data pages and their slots.
use Rattle.std.specs.Prelude.{◌≡◌, ◌⊎◌, ℕ, zero, suc, List, [], ◌∷◌, ◌++◌, Some, if◌then◌else◌}
use Rattle.std.specs.List.{flat_map}
use Rattle.mg_base.specs.declared.numbers.RecId.{RecId}
use Rattle.mg_heap.specs.Table.{IsTable}
use Rattle.mg_heap.specs.Walk.{is_primary}
use Rattle.mg_image.specs.Form.{Pages}
use Rattle.mg_slots.specs.DataPage.{cell_of, slot_count}

abbrev pub rec_at : ℕ → ℕ → RecId
rec_at n slot = record { page = record { 0 = n }; slot = slot }

-- the record of a slot, if the slot is a primary one
abbrev pub record_at : List ℕ → ℕ → ℕ → List RecId
record_at b n slot = if is_primary (cell_of b slot) then rec_at n slot ∷ [] else []

-- the records of the first slots of a page
abbrev pub records_below : List ℕ → ℕ → ℕ → List RecId
records_below b n zero = []
records_below b n (suc k) = records_below b n k ++ record_at b n k

-- the records of a page
abbrev pub records_on : List ℕ → ℕ → List RecId
records_on b n = records_below b n (slot_count b)

-- the records of some data pages
abbrev pub records_in : Pages → List ℕ → List RecId
records_in view data_pages = flat_map (λ n. records_on (view n) n) data_pages

-- a record is one of these
abbrev pub IsAmong : List RecId → RecId → Type 0
IsAmong [] rec = ⊥
IsAmong (first ∷ others) rec = (first ≡ rec) ⊎ IsAmong others rec

-- each of these records has a property
abbrev pub EachRecord : (RecId → Type 0) → List RecId → Type 0
EachRecord P [] = Unit {0}
EachRecord P (rec ∷ recs) = P rec × EachRecord P recs

-- These are the records of the table that begins with a pointer page.
pub record AreTableRecords (view : Pages) (owner : ℕ) (records : List RecId) : Type 0 where
  pub pointers : List ℕ
  pub data_pages : List ℕ
  pub table : IsTable view owner pointers data_pages
  pub are : records ≡ records_in view data_pages
