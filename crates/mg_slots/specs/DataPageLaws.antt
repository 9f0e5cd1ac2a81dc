-- What a lawful data page says: its cells, and that they fit.
use Rattle.std.proofs.Common.{◌≡◌, ◌≢◌, ℕ, zero, suc, ◌+◌, ◌-◌, ◌*◌, ◌<◌, ◌≤◌, ◌⊎◌, inl, inr, Bool, true, false, None, Some, List, length, take, drop, refl, arith, ap, ◌&&◌, nat_lt}
use Rattle.std.specs.Prelude.{is_some, if◌then◌else◌}
use Rattle.std.proofs.lemmas.Bool.{cases_eq, cases_lt, lt-ltb, le-ltb}
use Rattle.std.proofs.lemmas.List.{length-take-le, length-drop}
use Rattle.mg_slots.specs.declared.page.TheConstants.{SLOTS_AT, SLOT_LEN}
use Rattle.mg_slots.specs.DataPage.{Cells, IsDataPage, IsNewPage, cell_of, slot_count, offset_at, length_at, taken, taken_by, taken_below, all_taken}
use Rattle.mg_slots.specs.Room.{room_of}
use Rattle.mg_slots.specs.TakenLaws.{taken_below_mono}
use Rattle.mg_slots.specs.Disjoint.{AreApart, sum_below, sum_bound}

pub cell_past : (b : List ℕ) (slot : ℕ) → slot_count b ≤ slot → cell_of b slot ≡ None
unfolding cell_of
cell_past b slot past = rw (le-ltb slot (slot_count b) past) refl

pub cell_free : (b : List ℕ) (slot : ℕ) → offset_at b slot ≡ 0 → cell_of b slot ≡ None
unfolding cell_of
cell_free b slot free = at (nat_lt slot (slot_count b))
  where
    at : (p : Bool) → (if p && nat_lt 0 (offset_at b slot) then Some (take (length_at b slot)
        (drop (offset_at b slot) b)) else None) ≡ None
    at true = rw free refl
    at false = refl

pub cell_used : (b : List ℕ) (slot : ℕ) → slot < slot_count b → 0 < offset_at b slot
    → cell_of b slot ≡ Some (take (length_at b slot) (drop (offset_at b slot) b))
unfolding cell_of
cell_used b slot below used = rw (
  lt-ltb slot (slot_count b) below,
  lt-ltb 0
      (offset_at b slot) used,
) refl

-- a slot with a cell is below the count, and its offset isn't 0
pub used_of_some : (b : List ℕ) (slot : ℕ) (cell : List ℕ) → cell_of b slot ≡ Some cell
    → (slot < slot_count b) × (0 < offset_at b slot)
used_of_some b slot cell some = at (cases_lt slot (slot_count b)) (cases_eq (offset_at b slot) 0)
  where
    at : (slot < slot_count b) ⊎ (slot_count b ≤ slot) → (offset_at b slot ≡ 0)
        ⊎ (offset_at b slot ≢ 0) → (slot < slot_count b) × (0 < offset_at b slot)
    at (inr past) free = let e : cell_of b slot ≡ None = cell_past b slot past in absurd cc
    at (inl below) (inl free) = let e : cell_of b slot ≡ None = cell_free b slot free in absurd cc
    at (inl below) (inr used) = (below, omega arith)

pub taken_by_used : (b : List ℕ) (slot : ℕ) → IsDataPage b → slot < slot_count b
    → 0 < offset_at b slot → taken_by (cell_of b slot) ≡ taken (length_at b slot)
taken_by_used b slot page below used =
    let fits : offset_at b slot + taken (length_at b slot) ≤ length b =
    ((page.slots slot below).placed used).in_page in
    let within : length_at b slot ≤ length (drop (offset_at b slot) b) =
    simp length-drop (omega arith) in
    let len : length (take (length_at b slot) (drop (offset_at b slot) b)) ≡ length_at b slot =
    length-take-le (length_at b slot) (drop (offset_at b slot) b) within in
    rw (cell_used b slot below used, len) refl

pub taken_by_free : (b : List ℕ) (slot : ℕ) → offset_at b slot ≡ 0 → taken_by (cell_of b slot) ≡ 0
taken_by_free b slot free = rw (cell_free b slot free) refl

cells_apart : (b : List ℕ) → IsDataPage b → AreApart (offset_at b) (λ s. taken_by (cell_of b s))
    (slot_count b) (SLOTS_AT + SLOT_LEN * slot_count b) (length b)
cells_apart b page = record {
  above = λ s lt long. above s lt long (cases_eq (offset_at b s) 0);
  within = λ s lt. within s lt (cases_eq (offset_at b s) 0);
  apart = λ s t lt below meets. apart s t lt below meets (cases_eq (offset_at b s) 0) (cases_eq
      (offset_at b t) 0);
}
  where
    above : (s : ℕ) → s < slot_count b → 0 < taken_by (cell_of b s)
        → (offset_at b s ≡ 0) ⊎ (offset_at b s ≢ 0)
        → SLOTS_AT + SLOT_LEN * slot_count b ≤ offset_at b s
    above s lt long (inl free) = absurd (omega (arith, taken_by_free b s free))
    above s lt long (inr used) = ((page.slots s lt).placed (omega arith)).after_slots

    within : (s : ℕ) → s < slot_count b → (offset_at b s ≡ 0) ⊎ (offset_at b s ≢ 0)
        → offset_at b s + taken_by (cell_of b s) ≤ length b
    within s lt (inl free) = rw (taken_by_free b s free, free) (omega arith)
    within s lt (inr used) = let used_s : 0 < offset_at b s = omega arith in
        rw (taken_by_used b s page lt used_s) (((page.slots s lt).placed used_s).in_page)

    apart : (s t : ℕ) → s < t → t < slot_count b → offset_at b t < offset_at b s + taken_by
        (cell_of b s) → (offset_at b s ≡ 0) ⊎ (offset_at b s ≢ 0)
        → (offset_at b t ≡ 0) ⊎ (offset_at b t ≢ 0)
        → offset_at b t + taken_by (cell_of b t) ≤ offset_at b s
    apart s t lt below meets (inl free) has_t = absurd (omega (arith, taken_by_free b s free))
    apart s t lt below meets (inr used) (inl free) = rw (taken_by_free b t free, free) (omega arith)
    apart s t lt below meets (inr used) (inr used_t) =
        let below_s : s < slot_count b = omega arith in
        let has_s : 0 < offset_at b s = omega arith in
        let has_t : 0 < offset_at b t = omega arith in
        let meets_there : offset_at b t < offset_at b s + taken (length_at b s) =
        rw (taken_by_used b s page below_s has_s) at meets in
        rw (taken_by_used b t page below has_t)
        (((page.slots t below).placed has_t).apart s lt has_s meets_there)

sum_is_taken : (cells : Cells) (n : ℕ) → sum_below (λ s. taken_by (cells s)) n ≡ taken_below cells n
sum_is_taken cells zero = refl
sum_is_taken cells (suc n) = let rest : sum_below (λ s. taken_by
    (cells s)) n ≡ taken_below cells n = sum_is_taken cells n in omega arith

-- slots and cells together fit the page
pub cells_fit : (b : List ℕ) → IsDataPage b → SLOTS_AT + SLOT_LEN * slot_count b + all_taken b ≤
    length b
cells_fit b page =
    let bound : sum_below (λ s. taken_by (cell_of b s)) (slot_count b) ≤ length b -
    (SLOTS_AT + SLOT_LEN * slot_count b) = sum_bound _ _ _ _ _ (cells_apart b page) in
    let same : sum_below (λ s. taken_by (cell_of b s)) (slot_count b) ≡ all_taken b =
    sum_is_taken (cell_of b) (slot_count b) in
    let slots : SLOTS_AT + SLOT_LEN * slot_count b ≤ length b = page.slots_fit in
    omega arith

pub first_cells_fit : (b : List ℕ) (n : ℕ) → IsDataPage b → n ≤ slot_count b
    → taken_below (cell_of b) n ≤ length b
first_cells_fit b n page le = omega (
  arith,
  cells_fit b page,
  taken_below_mono (cell_of b) n
      (slot_count b) le,
)

pub taken_by_fits : (b : List ℕ) (slot : ℕ) → IsDataPage b → taken_by (cell_of b slot) ≤ length b
taken_by_fits b slot page = at (cases_lt slot (slot_count b)) (cases_eq (offset_at b slot) 0)
  where
    at : (slot < slot_count b) ⊎ (slot_count b ≤ slot) → (offset_at b slot ≡ 0)
        ⊎ (offset_at b slot ≢ 0) → taken_by (cell_of b slot) ≤ length b
    at (inr past) free = rw (cell_past b slot past) (omega arith)
    at (inl below) (inl free) = rw (cell_free b slot free) (omega arith)
    at (inl below) (inr used) =
        let has : 0 < offset_at b slot = omega arith in
        rw (taken_by_used b slot page below has) (omega (
          arith,
          ((page.slots slot below).placed has).in_page,
        ))

-- a slot that has a cell is below the count
pub used_below : (b : List ℕ) (slot : ℕ) → is_some (cell_of b slot) ≡ true → slot < slot_count b
used_below b slot some = at (cases_lt slot (slot_count b))
  where
    at : (slot < slot_count b) ⊎ (slot_count b ≤ slot) → slot < slot_count b
    at (inl below) = below
    at (inr past) = let none : is_some (cell_of b slot) ≡ false =
        ap is_some (cell_past b slot past) in absurd cc

-- a new page has room for one cell and its slot
pub new_page_room : (b : List ℕ) (size page owner seq : ℕ) → IsNewPage b size page owner seq
    → room_of b ≡ size - SLOTS_AT - SLOT_LEN
new_page_room b size page owner seq new =
    let len : length b ≡ size = new.len in
    let count : slot_count b ≡ 0 = new.count in
    rw (count, len) (omega arith)
