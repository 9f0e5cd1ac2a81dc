-- The room of a data page.
use Rattle.std.specs.Prelude.{ℕ, Bool, zero, suc, ◌+◌, ◌-◌, ◌*◌, List, length, is_some, ◌&&◌, ◌==◌, nat_lt, if◌then◌else◌}
use Rattle.mg_slots.specs.declared.page.TheConstants.{SLOTS_AT, SLOT_LEN}
use Rattle.mg_slots.specs.DataPage.{Cells, cell_of, slot_count, taken, taken_by, all_taken}

-- the least slot without a cell, n where each slot below n has one
abbrev pub first_without : Cells → ℕ → ℕ
first_without cells zero = 0
first_without cells (suc n) = if first_without cells n == n && is_some (cells n) then n + 1
    else first_without cells n

-- the least free slot, the one past the last where there is no other
abbrev pub least_free : List ℕ → ℕ
least_free b = first_without (cell_of b) (slot_count b)

-- how many bytes belong neither to a slot nor to a cell
abbrev pub rest_of : List ℕ → ℕ
rest_of b = length b - (SLOTS_AT + SLOT_LEN * slot_count b + all_taken b)

-- how many bytes a new cell may take: a new slot is paid for where none is free
abbrev pub room_of : List ℕ → ℕ
room_of b = if nat_lt (least_free b) (slot_count b) then rest_of b else rest_of b - SLOT_LEN

-- how many bytes a cell may take in this slot: the old cell's are room, and a slot in use is
-- paid for
abbrev pub room_for : List ℕ → ℕ → ℕ
room_for b slot = if is_some (cell_of b slot) then rest_of b + taken_by (cell_of b slot)
    else room_of b

-- how many bytes a cell needs
abbrev pub need_of : List ℕ → ℕ
need_of cell = taken (length cell)

-- one past the last number below n that passes, 0 where none does
abbrev pub last_end : (ℕ → Bool) → ℕ → ℕ
last_end passes zero = 0
last_end passes (suc n) = if passes n then n + 1 else last_end passes n

-- the slots up to the last one that has a cell, of those below n
abbrev pub used_end : Cells → ℕ → ℕ
used_end cells n = last_end (λ slot. is_some (cells slot)) n
