-- What room a change leaves.
use Rattle.std.proofs.Common.{◌≡◌, ◌≢◌, ℕ, ◌+◌, ◌-◌, ◌*◌, ◌<◌, ◌≤◌, ◌⊎◌, inl, inr, refl, List, length, Option, Some, arith, ap}
use Rattle.std.specs.Prelude.{IsSome}
use Rattle.std.proofs.lemmas.Bool.{cases_eq, le-ltb}
use Rattle.mg_slots.specs.declared.page.TheConstants.{SLOT_LEN}
use Rattle.mg_slots.specs.Changes.{PutsCell, SetsCell}
use Rattle.mg_slots.specs.DataPage.{IsDataPage, cell_of, slot_count, taken, taken_by}
use Rattle.mg_slots.specs.DataPageLaws.{cell_past}
use Rattle.mg_slots.specs.Room.{least_free, rest_of, room_of}
use Rattle.mg_slots.specs.RoomLaws.{least_free_of_full, rest_is, used_before_least_free}

-- what is left after a change: the old cell's bytes and slots that are dropped come back
pub rest_after : (old new : List ℕ) (slot : ℕ) (cell : Option (List ℕ)) → IsDataPage old
    → SetsCell old new slot cell
    → rest_of new + taken_by cell + SLOT_LEN * slot_count new
    ≡ rest_of old + taken_by (cell_of old slot) + SLOT_LEN * slot_count old
rest_after old new slot cell page sets =
    omega (arith, rest_is old page, rest_is new sets.lawful, sets.taken, sets.len)

-- where no slot was free before a cell was put, none is free after it
pub full_after_put : (old new : List ℕ) (slot : ℕ) (cell : List ℕ)
    → least_free old ≡ slot_count old → slot ≤ slot_count old → PutsCell old new slot cell
    → least_free new ≡ slot_count new
full_after_put old new slot cell full within puts =
    least_free_of_full new (λ s below. at s below (cases_eq s slot))
  where
    at : (s : ℕ) → s < slot_count new → (s ≡ slot) ⊎ (s ≢ slot) → IsSome (cell_of new s)
    at s below (inl e) = rw (e, puts.sets.here) refl
    at s below (inr ne) =
        rw (puts.sets.others s ne) (used_before_least_free old s (omega (arith, puts.count)))
