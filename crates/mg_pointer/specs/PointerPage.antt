-- What a pointer page means: a list of page numbers, and the number of a next page.
use Rattle.std.specs.Prelude.{◌≡◌, ◌≤◌, ◌+◌, ◌*◌, ◌/◌, ◌-◌, ◌^◌, ℕ, zero, suc, List, [], ◌∷◌, ◌++◌, length, take, min}
use Rattle.mg_base.specs.Fields.{byte, u16_at, u32_at, new_page}
use Rattle.mg_base.specs.declared.damage.Field.TheVariants.{Count, Zero}
use Rattle.mg_base.specs.declared.fields.TheConstants.{COMMON}
use Rattle.mg_base.specs.Checks.{Check, common_checks}
use Rattle.mg_pointer.specs.declared.page.TheConstants.{POINTER_KIND, NEXT_AT, COUNT_AT, UNUSED_AT, ENTRIES_AT, ENTRY_LEN}

-- how many entries have room on a page of a size
abbrev pub capacity : ℕ → ℕ
capacity size = (size - ENTRIES_AT) / ENTRY_LEN

-- the count of the entries
abbrev pub count_in : List ℕ → ℕ
count_in page = u16_at page COUNT_AT

-- the number of the table's next pointer page, 0 for none
abbrev pub next_in : List ℕ → ℕ
next_in page = u32_at page NEXT_AT

-- where an entry stands, counted from 0
abbrev pub place_of : ℕ → ℕ
place_of n = ENTRIES_AT + ENTRY_LEN * n

-- the first entries, so many
abbrev pub first_entries : List ℕ → ℕ → List ℕ
first_entries page zero = []
first_entries page (suc n) = first_entries page n ++ u32_at page (place_of n) ∷ []

-- the list of data pages
unfoldable pub entries_of : List ℕ → List ℕ
entries_of page = first_entries page (count_in page)

-- a page whose entries may be read: as long as a page is, its count within its room
pub record IsPointerPage (page : List ℕ) : Type 0 where
  pub least : ENTRIES_AT ≤ length page
  pub most : length page ≤ 2 ^ 16
  pub count : count_in page ≤ capacity (length page)

-- a data page comes to the end of the list; all else stays, and every byte but the count and the
-- entry's
pub record AddsEntry (old new : List ℕ) (entry : ℕ) : Type 0 where
  pub entries : entries_of new ≡ entries_of old ++ entry ∷ []
  pub next : next_in new ≡ next_in old
  pub len : length new ≡ length old
  pub front : take COMMON new ≡ take COMMON old
  pub outside : (at : ℕ) → (COUNT_AT ≤ at → COUNT_AT + 2 ≤ at)
      → (place_of (count_in old) ≤ at → place_of (count_in old) + ENTRY_LEN ≤ at)
      → byte new at ≡ byte old at
  pub page : IsPointerPage new

-- the next page is named; the list stays, and every byte but those of its number
pub record SetsNext (old new : List ℕ) (next : ℕ) : Type 0 where
  pub next_set : next_in new ≡ next
  pub entries : entries_of new ≡ entries_of old
  pub len : length new ≡ length old
  pub front : take COMMON new ≡ take COMMON old
  pub outside : (at : ℕ) → (NEXT_AT ≤ at → NEXT_AT + 4 ≤ at) → byte new at ≡ byte old at
  pub page : IsPointerPage new

-- the tests behind the common part: a count within the room, and two zero bytes
abbrev pub rest_checks : List ℕ → List Check
rest_checks b =
    (Count, count_in b, min (count_in b) (capacity (length b)))
    ∷ (Zero, u16_at b UNUSED_AT, 0)
    ∷ []

-- the tests of the page
unfoldable pub pointer_checks : List ℕ → ℕ → ℕ → ℕ → List Check
pointer_checks b page owner seq = common_checks b page POINTER_KIND owner seq ++ rest_checks b

-- a new page: the common part, and zero behind
unfoldable pub new_pointer_page : ℕ → ℕ → ℕ → ℕ → List ℕ
new_pointer_page size page owner seq = new_page size page POINTER_KIND owner seq
