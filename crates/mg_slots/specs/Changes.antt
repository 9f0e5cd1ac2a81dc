-- What a change of a data page does.
use Rattle.std.specs.Prelude.{◌≡◌, ◌≢◌, ℕ, ◌+◌, max, List, length, take, Option, None, Some}
use Rattle.mg_base.specs.declared.fields.TheConstants.{COMMON}
use Rattle.mg_slots.specs.DataPage.{slot_count, cell_of, taken_by, all_taken, IsDataPage, IsPacked}
use Rattle.mg_slots.specs.Room.{used_end}

-- one slot has this cell now, or none; each other slot keeps its own, and so do the common part and
-- the length
pub record SetsCell (old new : List ℕ) (slot : ℕ) (cell : Option (List ℕ)) : Type 0 where
  pub here : cell_of new slot ≡ cell
  pub others : (other : ℕ) → other ≢ slot → cell_of new other ≡ cell_of old other
  pub common : take COMMON new ≡ take COMMON old
  pub len : length new ≡ length old
  pub taken : all_taken new + taken_by (cell_of old slot) ≡ all_taken old + taken_by cell
  pub lawful : IsDataPage new
  pub packed : IsPacked new

-- a cell is put into a slot, a new one or the old one's
pub record PutsCell (old new : List ℕ) (slot : ℕ) (cell : List ℕ) : Type 0 where
  pub sets : SetsCell old new slot (Some cell)
  pub count : slot_count new ≡ max (slot_count old) (slot + 1)

-- a slot is freed, and free slots at the end are dropped
pub record FreesCell (old new : List ℕ) (slot : ℕ) : Type 0 where
  pub sets : SetsCell old new slot None
  pub count : slot_count new ≡ used_end (cell_of new) (slot_count old)
