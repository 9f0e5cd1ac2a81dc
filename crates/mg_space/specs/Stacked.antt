-- Data pages whose cells lie one below the other in the order of their slots.
use Rattle.std.specs.Prelude.{◌≡◌, ◌≤◌, ◌<◌, ◌⊎◌, ◌+◌, ℕ, List, length}
use Rattle.mg_slots.specs.DataPage.{least_offset, length_at, offset_at, taken}

-- the last of so many slots is in use
abbrev pub EndsInUse : List ℕ → ℕ → Type 0
EndsInUse b count = (slot : ℕ) → count ≡ slot + 1 → 0 < offset_at b slot

-- a slot is free, or its cell lies below a place; then the lowest one of all begins at another
abbrev pub StacksCell : List ℕ → ℕ → ℕ → ℕ → Type 0
StacksCell b slot old new =
    ((offset_at b slot ≡ 0) × (length_at b slot ≡ 0) × (new ≡ old))
    ⊎ ((0 < offset_at b slot) × (offset_at b slot + taken (length_at b slot) ≤ old)
    × (new ≡ offset_at b slot))

-- The cells of the slots below n lie in the page, one below the other; the lowest one begins at
-- `low`, which is the page's length where there is none.
pub record IsStacked (b : List ℕ) (n low : ℕ) : Type 0 where
  pub in_page : low ≤ length b
  pub low_is : low ≡ least_offset b n
  pub free : (slot : ℕ) → slot < n → offset_at b slot ≡ 0 → length_at b slot ≡ 0
  pub above : (slot : ℕ) → slot < n → 0 < offset_at b slot → low ≤ offset_at b slot
  pub ends : (slot : ℕ) → slot < n → 0 < offset_at b slot
      → offset_at b slot + taken (length_at b slot) ≤ length b
  pub apart : (slot earlier : ℕ) → slot < n → earlier < slot → 0 < offset_at b slot
      → 0 < offset_at b earlier
      → offset_at b slot + taken (length_at b slot) ≤ offset_at b earlier
