-- Cells that lie one below the other do not meet.
use Rattle.std.proofs.Common.{◌≡◌, ◌≢◌, ◌≤◌, ◌<◌, ◌⊎◌, ◌+◌, ◌*◌, ◌∙◌, ◌==◌, ℕ, suc, min, List, length, refl, sym, ap, subst, arith, add-one, inl, inr, if◌then◌else◌}
use Rattle.std.proofs.lemmas.Bool.{cases_eq, ne_eqb}
use Rattle.mg_slots.specs.DataPage.{IsDataPage, least_offset, length_at, low_of, offset_at, slot_count, taken}
use Rattle.mg_slots.specs.declared.page.TheConstants.{GREATEST_SIZE, LEAST_SIZE, SLOTS_AT, SLOT_LEN}
use Rattle.mg_space.specs.Stacked.{EndsInUse, IsStacked, StacksCell}

-- no slot
pub none_stacked : (b : List ℕ) → IsStacked b 0 (length b)
none_stacked b = record {
  in_page = omega arith;
  low_is = refl;
  free = λ slot below. absurd (omega (arith, below));
  above = λ slot below. absurd (omega (arith, below));
  ends = λ slot below. absurd (omega (arith, below));
  apart = λ slot earlier below. absurd (omega (arith, below));
}

-- a slot of those below n + 1 is the last one, or one of those before
last_or : (slot n : ℕ) → slot < n + 1 → (slot ≡ n) ⊎ (slot < n)
last_or slot n below = at (cases_eq slot n)
  where
    at : (slot ≡ n) ⊎ (slot ≢ n) → (slot ≡ n) ⊎ (slot < n)
    at (inl same) = inl same
    at (inr other) = inr (omega (arith, below, other))

least_free : (b : List ℕ) (n : ℕ) → offset_at b n ≡ 0 → least_offset b (suc n) ≡ least_offset b n
least_free b n is = rw is refl

least_used : (at least : ℕ) → 0 < at → at ≤ least → (if at == 0 then least else min at least) ≡ at
least_used at least some low =
    rw (ne_eqb at 0 (λ zero_. absurd (omega (arith, zero_, some)))) (omega (arith, low))

-- one slot more
pub stacked_on : (b : List ℕ) (n low new : ℕ) → IsStacked b n low → StacksCell b n low new
    → IsStacked b (n + 1) new
stacked_on b n low new stacked (inl (free, empty, same)) = record {
  in_page = let most = stacked.in_page in omega (arith, most, same);
  low_is = rw (add-one n) (same ∙ (stacked.low_is ∙ sym (least_free b n free)));
  free = λ slot below zero_. free_at slot zero_ (last_or slot n below);
  above = λ slot below some. above_at slot some (last_or slot n below);
  ends = λ slot below some. ends_at slot some (last_or slot n below);
  apart = λ slot earlier below before some other.
      apart_at slot earlier before some other (last_or slot n below);
}
  where
    no : (slot : ℕ) → slot ≡ n → 0 < offset_at b slot → ⊥
    no slot is some =
        let none : offset_at b slot ≡ 0 = ap (λ (k : ℕ). offset_at b k) is ∙ free in
        omega (arith, none, some)

    free_at : (slot : ℕ) → offset_at b slot ≡ 0 → (slot ≡ n) ⊎ (slot < n) → length_at b slot ≡ 0
    free_at slot zero_ (inl is) = ap (λ (k : ℕ). length_at b k) is ∙ empty
    free_at slot zero_ (inr below) = stacked.free slot below zero_

    above_at : (slot : ℕ) → 0 < offset_at b slot → (slot ≡ n) ⊎ (slot < n) → new ≤ offset_at b slot
    above_at slot some (inl is) = absurd (no slot is some)
    above_at slot some (inr below) =
        let old = stacked.above slot below some in omega (arith, old, same)

    ends_at : (slot : ℕ) → 0 < offset_at b slot → (slot ≡ n) ⊎ (slot < n)
        → offset_at b slot + taken (length_at b slot) ≤ length b
    ends_at slot some (inl is) = absurd (no slot is some)
    ends_at slot some (inr below) = stacked.ends slot below some

    apart_at : (slot earlier : ℕ) → earlier < slot → 0 < offset_at b slot
        → 0 < offset_at b earlier → (slot ≡ n) ⊎ (slot < n)
        → offset_at b slot + taken (length_at b slot) ≤ offset_at b earlier
    apart_at slot earlier before some other (inl is) = absurd (no slot is some)
    apart_at slot earlier before some other (inr below) =
        stacked.apart slot earlier below before some other
stacked_on b n low new stacked (inr (used, fits, same)) = record {
  in_page = let most = stacked.in_page in omega (arith, most, same, fits);
  low_is = rw (add-one n) (same ∙ sym (least_used (offset_at b n) (least_offset b n) used
      (let is = stacked.low_is in omega (arith, is, fits))));
  free = λ slot below zero_. free_at slot zero_ (last_or slot n below);
  above = λ slot below some. above_at slot some (last_or slot n below);
  ends = λ slot below some. ends_at slot some (last_or slot n below);
  apart = λ slot earlier below before some other.
      apart_at slot earlier before some other (last_or slot n below);
}
  where
    end_of : (slot : ℕ) → slot ≡ n → offset_at b slot + taken (length_at b slot) ≤ low
    end_of slot is = subst (λ (k : ℕ). offset_at b k + taken (length_at b k) ≤ low) (sym is) fits

    free_at : (slot : ℕ) → offset_at b slot ≡ 0 → (slot ≡ n) ⊎ (slot < n) → length_at b slot ≡ 0
    free_at slot zero_ (inl is) =
        let none : offset_at b n ≡ 0 = ap (λ (k : ℕ). offset_at b k) (sym is) ∙ zero_ in
        absurd (omega (arith, none, used))
    free_at slot zero_ (inr below) = stacked.free slot below zero_

    above_at : (slot : ℕ) → 0 < offset_at b slot → (slot ≡ n) ⊎ (slot < n) → new ≤ offset_at b slot
    above_at slot some (inl is) =
        let at : offset_at b slot ≡ offset_at b n = ap (λ (k : ℕ). offset_at b k) is in
        omega (arith, at, same)
    above_at slot some (inr below) =
        let old = stacked.above slot below some in omega (arith, old, same, fits)

    ends_at : (slot : ℕ) → 0 < offset_at b slot → (slot ≡ n) ⊎ (slot < n)
        → offset_at b slot + taken (length_at b slot) ≤ length b
    ends_at slot some (inl is) =
        let end = end_of slot is in let most = stacked.in_page in omega (arith, end, most)
    ends_at slot some (inr below) = stacked.ends slot below some

    apart_at : (slot earlier : ℕ) → earlier < slot → 0 < offset_at b slot
        → 0 < offset_at b earlier → (slot ≡ n) ⊎ (slot < n)
        → offset_at b slot + taken (length_at b slot) ≤ offset_at b earlier
    apart_at slot earlier before some other (inl is) =
        let end = end_of slot is in
        let over = stacked.above earlier (omega (arith, before, is)) other in
        omega (arith, end, over)
    apart_at slot earlier before some other (inr below) =
        stacked.apart slot earlier below before some other

-- such a page is lawful
pub stacked_page : (b : List ℕ) (low : ℕ) → LEAST_SIZE ≤ length b → length b ≤ GREATEST_SIZE
    → EndsInUse b (slot_count b) → IsStacked b (slot_count b) low
    → SLOTS_AT + SLOT_LEN * slot_count b ≤ low → low ≡ low_of b → IsDataPage b
stacked_page b low least greatest ends stacked fits named = record {
  least_size = least;
  greatest_size = greatest;
  slots_fit = let most = stacked.in_page in omega (arith, most, fits);
  last_used = ends;
  low = sym named ∙ stacked.low_is;
  slots = λ slot below. record {
    free = stacked.free slot below;
    placed = λ some. record {
      after_slots = let over = stacked.above slot below some in omega (arith, over, fits);
      in_page = stacked.ends slot below some;
      apart = λ earlier before other meets. stacked.apart slot earlier below before some other;
    };
  };
}
