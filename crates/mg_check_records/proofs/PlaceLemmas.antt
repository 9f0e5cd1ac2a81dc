-- Each data page of a table has its place as its sequence.
use Rattle.std.specs.Prelude.{◌≡◌, ◌≢◌, ◌⊎◌, ◌<◌, ◌≤◌, ◌+◌, ◌==◌, ◌||◌, ℕ, zero, suc, Bool, true, false, List, [], ◌∷◌, length, get_or, if◌then◌else◌}
use Rattle.std.proofs.Common.{refl, sym, ap, ◌∙◌, inl, inr, arith, subst}
use Rattle.std.proofs.lemmas.Bool.{cases_eq, cases_lt, eq-eqb, eqb-true, ne_eqb, or_cases}
use Rattle.std.proofs.lemmas.List.{get_or_past}
use Rattle.mg_base.specs.Checks.{PassesAll, common_checks}
use Rattle.mg_base.specs.Fields.{byte, u32_at}
use Rattle.mg_base.specs.Image.{Image, blank, page_at}
use Rattle.mg_base.specs.declared.fields.TheConstants.{SEQUENCE_AT}
use Rattle.mg_base.specs.declared.geometry.TheConstants.{GREATEST_LIMIT}
use Rattle.mg_check_records.specs.Marks.{IsPlaceOf, place_in}
use Rattle.mg_check_tables.specs.FewPlaces.{IsToldBelow}
use Rattle.mg_image.specs.Form.{Pages}
use Rattle.mg_image.specs.Sound.{IsTableData}
use Rattle.mg_image.specs.Tables.{EachFrom, Has, has}
use Rattle.mg_slots.specs.declared.page.TheConstants.{DATA_KIND}

-- ---- places in lists

pub has_at : (ns : List ℕ) (i n : ℕ) → i < length ns → get_or ns i 0 ≡ n → Has ns n
has_at [] i n below is = absurd (omega (arith, below))
has_at (m ∷ ms) zero n below is = inl (sym is)
has_at (m ∷ ms) (suc i) n below is = inr (has_at ms i n (omega (arith, below)) is)

-- the first place of a number is one of the list, and the number stands there
pub place_there : (ns : List ℕ) (n : ℕ) → Has ns n
    → (place_in ns n < length ns) × (get_or ns (place_in ns n) 0 ≡ n)
place_there [] n is = absurd is
place_there (m ∷ ms) n is = at (cases_eq n m) is (λ later. place_there ms n later)
  where
    head : n ≡ m → (place_in (m ∷ ms) n < length (m ∷ ms))
        × (get_or (m ∷ ms) (place_in (m ∷ ms) n) 0 ≡ n)
    head same = rw (eq-eqb n m same) (omega arith, sym same)

    tail : n ≢ m → (place_in ms n < length ms) × (get_or ms (place_in ms n) 0 ≡ n)
        → (place_in (m ∷ ms) n < length (m ∷ ms))
        × (get_or (m ∷ ms) (place_in (m ∷ ms) n) 0 ≡ n)
    tail other rest = rw (ne_eqb n m other) (omega (arith, rest.0), rest.1)

    at : (n ≡ m) ⊎ (n ≢ m) → Has (m ∷ ms) n
        → (Has ms n → (place_in ms n < length ms) × (get_or ms (place_in ms n) 0 ≡ n))
        → (place_in (m ∷ ms) n < length (m ∷ ms))
        × (get_or (m ∷ ms) (place_in (m ∷ ms) n) 0 ≡ n)
    at (inl same) has_ more = head same
    at (inr other) (inl same) more = absurd (other same)
    at (inr other) (inr later) more = tail other (more later)

pub has_true : (ns : List ℕ) (n : ℕ) → Has ns n → has ns n ≡ true
has_true [] n is = absurd is
has_true (m ∷ ms) n (inl same) = rw (eq-eqb n m same) refl
has_true (m ∷ ms) n (inr later) = at (n == m) (has_true ms n later)
  where
    at : (c : Bool) → has ms n ≡ true → (c || has ms n) ≡ true
    at true rest = refl
    at false rest = rest

pub has_from : (ns : List ℕ) (n : ℕ) → has ns n ≡ true → Has ns n
has_from [] n is = absurd cc
has_from (m ∷ ms) n is = at (or_cases (n == m) (has ms n) is) (λ later. has_from ms n later)
  where
    at : ((n == m) ≡ true) ⊎ (has ms n ≡ true) → (has ms n ≡ true → Has ms n) → Has (m ∷ ms) n
    at (inl same) more = inl (eqb-true n m same)
    at (inr later) more = inr (more later)

pub each_there : (P : ℕ → ℕ → Type 0) (at : ℕ) (ns : List ℕ) (i : ℕ) → i < length ns
    → EachFrom P at ns → P (at + i) (get_or ns i 0)
each_there P at [] i below each = absurd (omega (arith, below))
each_there P at (n ∷ ns) zero below each = subst (λ (k : ℕ). P k n) (same at) each.0
  where
    same : (at : ℕ) → at ≡ at + 0
    same at = omega arith
each_there P at (n ∷ ns) (suc i) below each = subst (λ (k : ℕ). P k (get_or ns i 0)) (further at i)
    (each_there P (suc at) ns i (omega (arith, below)) each.1)
  where
    further : (at i : ℕ) → suc at + i ≡ at + suc i
    further at i = omega arith

there_first : (P : ℕ → ℕ → Type 0) (ns : List ℕ) (i : ℕ) → i < length ns → EachFrom P 0 ns
    → P i (get_or ns i 0)
there_first P ns i below each =
    subst (λ (k : ℕ). P k (get_or ns i 0)) (same i) (each_there P 0 ns i below each)
  where
    same : (k : ℕ) → 0 + k ≡ k
    same k = omega arith

-- ---- data pages

sequence_part : (b : List ℕ) (n kind owner at : ℕ) → PassesAll (common_checks b n kind owner at)
    → u32_at b SEQUENCE_AT ≡ at
unfolding common_checks
sequence_part b n kind owner at passes = passes.1.1.1.1.1.0

kind_part : (b : List ℕ) (n kind owner at : ℕ) → PassesAll (common_checks b n kind owner at)
    → byte b 0 ≡ kind
unfolding common_checks
kind_part b n kind owner at passes = passes.0

module _ (size : ℕ) (pages : Pages) (owner : ℕ) (ns : List ℕ)
    (tested : EachFrom (IsTableData false size pages owner) 0 ns) where
  -- a data page is as wanted at its first place
  pub data_there : (n : ℕ) → Has ns n → IsTableData false size pages owner (place_in ns n) n
  data_there n is =
      let place = place_there ns n is in
      subst (λ (m : ℕ). IsTableData false size pages owner (place_in ns n) m) place.1
      (there_first (IsTableData false size pages owner) ns (place_in ns n) place.0 tested)

  sequence_is : (n : ℕ) → Has ns n → u32_at (pages n) SEQUENCE_AT ≡ place_in ns n
  sequence_is n is =
      sequence_part (pages n) n DATA_KIND owner (place_in ns n) (data_there n is).wanted.fields

  -- a page whose sequence is past the last place is none
  pub none_past : (n at : ℕ) → at ≡ u32_at (pages n) SEQUENCE_AT → length ns ≤ at → Has ns n → ⊥
  none_past n at is past here =
      let place = place_there ns n here in
      let same = sequence_is n here in
      absurd (omega (arith, is, past, place.0, same))

  -- nor is one where another one stands at its sequence
  pub none_other : (n at : ℕ) → at ≡ u32_at (pages n) SEQUENCE_AT → get_or ns at 0 ≢ n
      → Has ns n → ⊥
  none_other n at is other here =
      let place = place_there ns n here in
      other (ap (λ (k : ℕ). get_or ns k 0) (is ∙ sequence_is n here) ∙ place.1)

  -- one that stands there is, and this is its place
  pub place_is : (n at : ℕ) → at ≡ u32_at (pages n) SEQUENCE_AT → at < length ns
      → get_or ns at 0 ≡ n → IsPlaceOf ns n at
  place_is n at is below there = let here = has_at ns at n below there in
      record { is = is ∙ sequence_is n here; inside = below; there = here }

-- each place is told by a page below the limit
pub place_tells : (size : ℕ) (pages : Pages) (owner : ℕ) (ns : List ℕ)
    → EachFrom (IsTableData false size pages owner) 0 ns → (k : ℕ) → k < length ns
    → IsToldBelow (λ m. u32_at (pages m) SEQUENCE_AT) GREATEST_LIMIT k
place_tells size pages owner ns tested k below =
    let here = there_first (IsTableData false size pages owner) ns k below tested in (
      get_or ns k 0,
      here.wanted.below,
      sequence_part (pages (get_or ns k 0)) (get_or ns k 0) DATA_KIND owner k here.wanted.fields,
    )

-- ---- it is there

blank_kind : (size : ℕ) → byte (blank size) 0 ≡ 0
blank_kind zero = refl
blank_kind (suc size) = refl

pub page_within : (size : ℕ) (image : Image) (owner : ℕ) (ns : List ℕ) (n : ℕ)
    → EachFrom (IsTableData false size (page_at size image) owner) 0 ns → Has ns n
    → n < length image
page_within size image owner ns n tested here = within (cases_lt n (length image))
  where
    data_kind : byte (page_at size image n) 0 ≡ DATA_KIND
    data_kind = kind_part (page_at size image n) n DATA_KIND owner (place_in ns n)
        (data_there size (page_at size image) owner ns tested n here).wanted.fields

    none : page_at size image n ≡ blank size → ⊥
    none is =
        let same : byte (page_at size image n) 0 ≡ byte (blank size) 0 =
        ap (λ (b : List ℕ). byte b 0) is in
        let nothing = blank_kind size in
        absurd (omega (arith, data_kind, same, nothing))

    within : (n < length image) ⊎ (length image ≤ n) → n < length image
    within (inl inside) = inside
    within (inr past) = absurd (none (get_or_past image n (blank size) past))
