-- A mark for each place of the data pages of a table.
use Rattle.std.specs.Prelude.{◌≡◌, ◌<◌, ◌+◌, ◌-◌, ◌*◌, ◌/◌, ◌==◌, ◌&&◌, ℕ, zero, suc, Bool, true, false, nat_lt, List, [], ◌∷◌, get_or, length, if◌then◌else◌}
use Rattle.mg_base.specs.declared.numbers.RecId.{RecId}
use Rattle.mg_check_records.specs.Walks.{Met}
use Rattle.mg_image.specs.Tables.{Has, has}

-- the first place of a number in a list
abbrev pub place_in : List ℕ → ℕ → ℕ
place_in [] n = 0
place_in (m ∷ ms) n = if n == m then 0 else suc (place_in ms n)

-- This is the place of a number in a list.
pub record IsPlaceOf (ns : List ℕ) (n at : ℕ) : Type 0 where
  pub is : at ≡ place_in ns n
  pub inside : at < length ns
  pub there : Has ns n

-- the most slots that a data page of a size can have
abbrev pub most_slots : ℕ → ℕ
most_slots size = (size - 20) / 4

-- where the mark of a cell stands, if each page has so many
abbrev pub mark_at : List ℕ → ℕ → RecId → ℕ
mark_at ns most x = place_in ns x.page.0 * most + x.slot

-- the cells that these marks say were met
abbrev pub met_in : List ℕ → ℕ → List Bool → Met
met_in ns most marks x =
    has ns x.page.0 && (nat_lt x.slot most && get_or marks (mark_at ns most x) false)

-- how many cells are not marked
abbrev pub left_of : List Bool → ℕ
left_of [] = 0
left_of (true ∷ marks) = left_of marks
left_of (false ∷ marks) = suc (left_of marks)
