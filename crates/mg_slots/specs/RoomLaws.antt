-- The least free slot, and the last slot in use.
use Rattle.std.proofs.Common.{◌≡◌, ◌≢◌, ℕ, zero, suc, ◌+◌, ◌<◌, ◌≤◌, ◌⊎◌, inl, inr, Bool, true, false, Option, None, Some, List, refl, arith, add-one, ap, sym, subst, ◌&&◌}
use Rattle.std.specs.Prelude.{◌*◌, length, IsSome, is_some, if◌then◌else◌, ◌==◌}
use Rattle.std.proofs.lemmas.Bool.{cases_eq, eq-eqb, ne_eqb, eqb-true, cases_lt}
use Rattle.mg_slots.specs.declared.page.TheConstants.{SLOTS_AT, SLOT_LEN}
use Rattle.mg_slots.specs.DataPage.{Cells, IsDataPage, all_taken, cell_of, slot_count}
use Rattle.mg_slots.specs.DataPageLaws.{cell_past, cells_fit}
use Rattle.mg_slots.specs.Room.{first_without, least_free, rest_of, last_end, used_end}
use Rattle.mg_slots.specs.Layout.{with_cell}

pub first_without_more : (cells : Cells) (n : ℕ) → first_without cells n ≡ n
    → is_some (cells n) ≡ true → first_without cells (n + 1) ≡ n + 1
first_without_more cells n all some = rw (add-one n, eq-eqb (first_without cells n) n all, some)
    (omega arith)

pub first_without_found : (cells : Cells) (n m : ℕ) → n ≤ m → first_without cells n ≡ n
    → cells n ≡ None → first_without cells m ≡ n
first_without_found cells n zero le all none = let e : n ≡ 0 = omega arith in rw e refl
first_without_found cells n (suc m) le all none = at (cases_eq n (suc m)) (cases_eq n m)
    (first_without_found cells n m)
  where
    at : (n ≡ suc m) ⊎ (n ≢ suc m) → (n ≡ m) ⊎ (n ≢ m) → (n ≤ m → first_without cells n ≡ n
        → cells n ≡ None → first_without cells m ≡ n) → first_without cells (suc m) ≡ n
    at (inl e) here ih = let P : ℕ → Type 0 = λ k. first_without cells k ≡ n in subst P e all
    at (inr ne) (inl e) ih =
        let all_m : first_without cells m ≡ m = (let P : ℕ → Type 0 =
        λ k. first_without cells k ≡ k in subst P e all) in
        let none_m : cells m ≡ None = (let P : ℕ → Type 0 = λ k. cells k ≡ None in
        subst P e none) in
        rw (all_m, eq-eqb m m refl, none_m) (sym e)
    at (inr ne) (inr other) ih = rw (ih (omega arith) all none, ne_eqb n m other) refl

pub first_without_le : (cells : Cells) (n : ℕ) → first_without cells n ≤ n
first_without_le cells zero = omega arith
first_without_le cells (suc n) = at (first_without cells n == n && is_some (cells n))
    (first_without_le cells n)
  where
    at : (p : Bool) → first_without cells n ≤ n →
        (if p then n + 1 else first_without cells n) ≤ suc n
    at true ih = omega arith
    at false ih = omega arith

-- each slot before the least free one has a cell
pub first_without_before : (cells : Cells) (n s : ℕ) → s < first_without cells n
    → is_some (cells s) ≡ true
first_without_before cells zero s lt = absurd (omega arith)
first_without_before cells (suc n) s lt = at (first_without cells n == n) refl (is_some
    (cells n)) refl lt (cases_eq s n) (first_without_before cells n s)
  where
    at : (p : Bool) → (first_without cells n == n) ≡ p → (q : Bool) → is_some (cells n) ≡ q
        → s < (if p && q then n + 1 else first_without cells n) → (s ≡ n) ⊎ (s ≢ n)
        → (s < first_without cells n → is_some (cells s) ≡ true) → is_some (cells s) ≡ true
    at true all true some lt (inl e) ih = rw e some
    at true all true some lt (inr ne) ih = ih (omega (
      arith,
      eqb-true
          (first_without cells n) n all,
    ))
    at true all false none lt other ih = ih lt
    at false all true some lt other ih = ih lt
    at false all false none lt other ih = ih lt

-- the least free one has none, if it is below the end
pub first_without_at : (cells : Cells) (n : ℕ) → first_without cells n < n
    → cells (first_without cells n) ≡ None
first_without_at cells zero lt = absurd (omega arith)
first_without_at cells (suc n) lt = at (first_without cells n == n) refl (cells n) refl lt
    (first_without_at cells n)
  where
    at : (p : Bool) → (first_without cells n == n) ≡ p → (o : Option (List ℕ)) → cells n ≡ o
        → (if p && is_some o then n + 1 else first_without cells n) < suc n
        → (first_without cells n < n → cells (first_without cells n) ≡ None)
        → cells (if p && is_some o then n + 1 else first_without cells n) ≡ None
    at true all (Some cell) here lt ih = absurd (omega arith)
    at true all None here lt ih = rw (eqb-true (first_without cells n) n all) here
    at false all o here lt ih = ih (let le : first_without cells n ≤ n =
        first_without_le cells n in at_less (cases_eq (first_without cells n) n))
      where
        at_less : (first_without cells n ≡ n) ⊎ (first_without cells n ≢ n)
            → first_without cells n < n
        at_less (inl e) = let passed : (first_without cells n == n) ≡ true =
            eq-eqb (first_without cells n) n e in absurd cc
        at_less (inr ne) = omega (arith, first_without_le cells n)

pub last_end_here : (passes : ℕ → Bool) (n : ℕ) → passes n ≡ true → last_end passes (n + 1) ≡ n + 1
last_end_here passes n passed = rw (add-one n, passed) (omega arith)

pub last_end_drop : (passes : ℕ → Bool) (n : ℕ) → passes n ≡ false
    → last_end passes (n + 1) ≡ last_end passes n
last_end_drop passes n failed = rw (add-one n, failed) refl

pub last_end_le : (passes : ℕ → Bool) (n : ℕ) → last_end passes n ≤ n
last_end_le passes zero = omega arith
last_end_le passes (suc n) = at (passes n) (last_end_le passes n)
  where
    at : (p : Bool) → last_end passes n ≤ n → (if p then n + 1 else last_end passes n) ≤ suc n
    at true ih = omega arith
    at false ih = omega arith

-- the number before the end passes
pub last_end_last : (passes : ℕ → Bool) (n s : ℕ) → last_end passes n ≡ s + 1 → passes s ≡ true
last_end_last passes zero s e = absurd (omega arith)
last_end_last passes (suc n) s e = at (passes n) refl e (last_end_last passes n s)
  where
    at : (p : Bool) → passes n ≡ p → (if p then n + 1 else last_end passes n) ≡ s + 1
        → (last_end passes n ≡ s + 1 → passes s ≡ true) → passes s ≡ true
    at true passed e ih = let same : s ≡ n = omega arith in rw same passed
    at false failed e ih = ih e

-- none from the end on passes
pub last_end_beyond : (passes : ℕ → Bool) (n s : ℕ) → last_end passes n ≤ s → s < n
    → passes s ≡ false
last_end_beyond passes zero s le lt = absurd (omega arith)
last_end_beyond passes (suc n) s le lt = at (passes n) refl le (cases_eq s n)
    (last_end_beyond passes n s)
  where
    at : (p : Bool) → passes n ≡ p → (if p then n + 1 else last_end passes n) ≤ s
        → (s ≡ n) ⊎ (s ≢ n)
        → (last_end passes n ≤ s → s < n → passes s ≡ false) → passes s ≡ false
    at true passed le e ih = absurd (omega arith)
    at false failed le (inl e) ih = rw e failed
    at false failed le (inr ne) ih = ih le (omega arith)

-- the end is n where the number before n passes
pub last_end_whole : (passes : ℕ → Bool) (n : ℕ) → ((s : ℕ) → n ≡ s + 1 → passes s ≡ true)
    → last_end passes n ≡ n
last_end_whole passes zero last = refl
last_end_whole passes (suc n) last = let here : passes n ≡ true = last n (omega arith) in
    rw here (omega arith)

pub used_end_beyond : (cells : Cells) (n s : ℕ) → used_end cells n ≤ s → s < n → cells s ≡ None
used_end_beyond cells n s le lt = at (cells s) refl (last_end_beyond (λ slot. is_some
    (cells slot)) n s le lt)
  where
    at : (o : Option (List ℕ)) → cells s ≡ o → is_some (cells s) ≡ false → cells s ≡ None
    at None here failed = here
    at (Some cell) here failed = let passed : is_some (cells s) ≡ true = ap is_some here in
        absurd cc

pub with_cell_here : (cells : Cells) (slot : ℕ) (cell : Option (List ℕ))
    → with_cell cells slot cell slot ≡ cell
with_cell_here cells slot cell = rw (eq-eqb slot slot refl) refl

pub with_cell_other : (cells : Cells) (slot other : ℕ) (cell : Option (List ℕ)) → other ≢ slot
    → with_cell cells slot cell other ≡ cells other
with_cell_other cells slot other cell ne = rw (ne_eqb other slot ne) refl

pub first_without_all : (cells : Cells) (n : ℕ) → ((s : ℕ) → s < n → is_some (cells s) ≡ true)
    → first_without cells n ≡ n
first_without_all cells zero all = refl
first_without_all cells (suc n) all =
    let before : first_without cells n ≡ n = first_without_all cells n (λ s lt. all s
    (omega arith)) in
    let here : is_some (cells n) ≡ true = all n (omega arith) in
    rw (eq-eqb (first_without cells n) n before, here) (omega arith)

-- The same of a page.

pub least_free_is_free : (b : List ℕ) → cell_of b (least_free b) ≡ None
least_free_is_free b = at (cases_lt (least_free b) (slot_count b))
  where
    at : (least_free b < slot_count b) ⊎ (slot_count b ≤ least_free b)
        → cell_of b (least_free b) ≡ None
    at (inl below) = first_without_at (cell_of b) (slot_count b) below
    at (inr past) = cell_past b (least_free b) past

pub used_before_least_free : (b : List ℕ) (slot : ℕ) → slot < least_free b → IsSome (cell_of b slot)
used_before_least_free b slot lt = first_without_before (cell_of b) (slot_count b) slot lt

-- where each slot has a cell, a new cell gets a new slot
pub least_free_of_full : (b : List ℕ) → ((slot : ℕ) → slot < slot_count b
    → IsSome (cell_of b slot)) → least_free b ≡ slot_count b
least_free_of_full b full = first_without_all (cell_of b) (slot_count b) full

-- what is left, what cells take and what slots take are the page
pub rest_is : (b : List ℕ) → IsDataPage b → SLOTS_AT + SLOT_LEN * slot_count b + all_taken b +
    rest_of b ≡ length b
rest_is b page = omega (arith, cells_fit b page)
