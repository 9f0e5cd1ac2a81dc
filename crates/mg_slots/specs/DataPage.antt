-- What a data page says: a function from slot to optional cell.
use Rattle.std.specs.Prelude.{◌≡◌, ℕ, zero, suc, ◌+◌, ◌-◌, ◌*◌, ◌<◌, ◌≤◌, max, min, List, length, take, drop, Option, None, Some, ◌&&◌, ◌==◌, nat_lt, if◌then◌else◌}
use Rattle.mg_base.specs.Fields.{byte, u16_at, new_page, with_u16}
use Rattle.mg_slots.specs.declared.page.TheConstants.{DATA_KIND, COUNT_AT, LOW_AT, SLOTS_AT, SLOT_LEN, LEAST_TAKEN, LEAST_SIZE, GREATEST_SIZE}

-- the number of slots
abbrev pub slot_count : List ℕ → ℕ
slot_count b = u16_at b COUNT_AT

-- the lowest byte that a cell uses
abbrev pub low_of : List ℕ → ℕ
low_of b = u16_at b LOW_AT

-- where the cell of a slot begins, 0 for a free slot
abbrev pub offset_at : List ℕ → ℕ → ℕ
offset_at b slot = u16_at b (SLOTS_AT + SLOT_LEN * slot)

-- how long the cell of a slot is
abbrev pub length_at : List ℕ → ℕ → ℕ
length_at b slot = u16_at b (SLOTS_AT + SLOT_LEN * slot + 2)

-- how many bytes a cell of this length takes
abbrev pub taken : ℕ → ℕ
taken len = max len LEAST_TAKEN

-- the cell of a slot; a slot that is free or past the last one has none
unfoldable pub cell_of : List ℕ → ℕ → Option (List ℕ)
cell_of b slot = if nat_lt slot (slot_count b) && nat_lt 0 (offset_at b slot)
    then Some (take (length_at b slot) (drop (offset_at b slot) b)) else None

-- what each slot has
abbrev pub Cells : Type 0
Cells = ℕ → Option (List ℕ)

-- how many bytes a slot's cell takes, 0 where there is none
abbrev pub taken_by : Option (List ℕ) → ℕ
taken_by None = 0
taken_by (Some cell) = taken (length cell)

-- how many bytes the cells of the slots below n take
abbrev pub taken_below : Cells → ℕ → ℕ
taken_below cells zero = 0
taken_below cells (suc n) = taken_below cells n + taken_by (cells n)

-- how many bytes all cells take
abbrev pub all_taken : List ℕ → ℕ
all_taken b = taken_below (cell_of b) (slot_count b)

-- the least offset among the slots below n that have one, the page's length where none has
abbrev pub least_offset : List ℕ → ℕ → ℕ
least_offset b zero = length b
least_offset b (suc n) = if offset_at b n == 0 then least_offset b n
    else min (offset_at b n) (least_offset b n)

-- bytes meet no cell of this slot
abbrev pub IsApart : List ℕ → ℕ → ℕ → ℕ → Type 0
IsApart b slot at size = 0 < offset_at b slot → at < offset_at b slot + taken (length_at b slot)
    → at + size ≤ offset_at b slot

-- bytes lie between the slots and the page's end, and meet no cell of an earlier slot
pub record HasPlace (b : List ℕ) (slot at size : ℕ) : Type 0 where
  pub after_slots : SLOTS_AT + SLOT_LEN * slot_count b ≤ at
  pub in_page : at + size ≤ length b
  pub apart : (earlier : ℕ) → earlier < slot → IsApart b earlier at size

-- a slot may have this length at its offset: 0 if it is free, else there is a place for such a cell
pub record MayHaveLength (b : List ℕ) (slot len : ℕ) : Type 0 where
  pub free : offset_at b slot ≡ 0 → len ≡ 0
  pub placed : 0 < offset_at b slot → HasPlace b slot (offset_at b slot) (taken len)

-- a slot is free, or its cell has its place
abbrev pub IsSlot : List ℕ → ℕ → Type 0
IsSlot b slot = MayHaveLength b slot (length_at b slot)

-- a lawful data page: the slots fit it, the last one is in use, the lowest byte that a cell uses is
-- named, and each slot is free or its cell has its place
pub record IsDataPage (b : List ℕ) : Type 0 where
  pub least_size : LEAST_SIZE ≤ length b
  pub greatest_size : length b ≤ GREATEST_SIZE
  pub slots_fit : SLOTS_AT + SLOT_LEN * slot_count b ≤ length b
  pub last_used : (slot : ℕ) → slot_count b ≡ slot + 1 → 0 < offset_at b slot
  pub low : low_of b ≡ least_offset b (slot_count b)
  pub slots : (slot : ℕ) → slot < slot_count b → IsSlot b slot

-- a slot's cell ends at `end`, and zero bytes follow a short one; a slot without a cell is zero
abbrev pub HasUpTo : List ℕ → ℕ → ℕ → Option (List ℕ) → Type 0
HasUpTo b end slot None = (offset_at b slot ≡ 0) × (length_at b slot ≡ 0)
HasUpTo b end slot (Some cell) = (offset_at b slot + taken (length cell) ≡ end)
    × (length_at b slot ≡ length cell)
    × ((k : ℕ) → k < taken (length cell) → byte b (offset_at b slot + k) ≡ byte cell k)

-- the slots below n have these cells, one below the other from the page's end downward, and
-- between them and the lowest cell all bytes are zero
pub record IsLaid (b : List ℕ) (cells : Cells) (n : ℕ) : Type 0 where
  pub each : (slot : ℕ) → slot < n
      → HasUpTo b (length b - taken_below cells slot) slot (cells slot)
  pub blank : (k : ℕ) → SLOTS_AT + SLOT_LEN * n ≤ k → k < length b - taken_below cells n
      → byte b k ≡ 0

-- the cells lie from the page's end downward in the order of their slots, and all other bytes
-- behind the slots are zero
abbrev pub IsPacked : List ℕ → Type 0
IsPacked b = IsLaid b (cell_of b) (slot_count b)

-- a data page of a size, without slots
pub record IsNewPage (b : List ℕ) (size page owner seq : ℕ) : Type 0 where
  pub bytes : b ≡ with_u16 (new_page size page DATA_KIND owner seq) LOW_AT size
  pub len : length b ≡ size
  pub count : slot_count b ≡ 0
  pub none : (slot : ℕ) → cell_of b slot ≡ None
  pub lawful : IsDataPage b
  pub packed : IsPacked b
