-- Lines, and two numbers with a separator between them.
use Rattle.std.proofs.Common.{◌≡◌, ◌≢◌, ◌⊎◌, inl, inr, ◌≤◌, ◌<◌, ◌+◌, ℕ, ℤ, pos, negsuc, zero, suc, Bool, true, false, List, [], ◌∷◌, ◌++◌, length, take, drop, get_or, refl, sym, ap, ◌∙◌, arith, add-one, FitsSigned}
use Rattle.std.specs.Prelude.{◌==◌}
use Rattle.std.proofs.lemmas.Str.Parse.{digit_from_value}
use Rattle.std.specs.Fmt.{decimal, signed_decimal}
use Rattle.std.specs.List.{slice_split, onto_first}
use Rattle.std.specs.Str.Lines.{lines, lines_of_parts, strip_carriage_return}
use Rattle.std.specs.Str.Parse.{AllDigits}
use Rattle.std.specs.Cmp.Lexicographic.{pointwise, same_text, other_text}
use Rattle.std.specs.Int.{w64}
use Rattle.std.proofs.lemmas.Bool.{eq-eqb, ne_eqb, cases_lt}
use Rattle.std.proofs.lemmas.Fmt.{decimal_is_IsNumeral}
use Rattle.std.proofs.lemmas.List.{take-append-drop, get_or_append_left, length-append}
use Rattle.std.proofs.Math.Seq.{get_or-append_seam, take-append_seam, drop-append_seam}
use Rattle.std.proofs.lemmas.List.Splits.{slice_split-cons_yes, slice_split-cons_no}
use Rattle.mg_script.specs.Spelling.{AreSpelled, IsFirst, StandsNowhere}

abbrev newline : ℕ → Bool
newline b = b == 10

-- there is always a first part
record Parts (parts : List (List ℕ)) : Type 0 where
  first : List ℕ
  more : List (List ℕ)
  are : parts ≡ first ∷ more

split_cons : (bs : List ℕ) → Parts (slice_split newline bs)
split_cons [] = record { first = []; more = []; are = refl }
split_cons (x ∷ bs) = at (newline x) refl (split_cons bs)
  where
    at : (p : Bool) → newline x ≡ p → Parts (slice_split newline bs) → Parts (slice_split newline (x ∷ bs))
    at true is rest = record { first = []; more = slice_split newline bs; are = slice_split-cons_yes newline x bs is }
    at false is rest = record { first = x ∷ rest.first; more = rest.more; are = slice_split-cons_no newline x bs is ∙ ap (onto_first x) rest.are }

-- the first part ends at the first newline
split_at : (bs : List ℕ) (i : ℕ) → i < length bs → get_or bs i 0 ≡ 10 → ((k : ℕ) → k < i → get_or bs k 0 ≢ 10)
    → slice_split newline bs ≡ take i bs ∷ slice_split newline (drop (suc i) bs)
split_at [] i below here before = absurd (omega arith)
split_at (x ∷ bs) zero below here before = slice_split-cons_yes newline x bs (eq-eqb x 10 here)
split_at (x ∷ bs) (suc i) below here before =
    slice_split-cons_no newline x bs (ne_eqb x 10 (before 0 (omega arith))) ∙ ap (onto_first x) (split_at bs i (omega arith) here (λ k lt. before (suc k) (omega arith)))

split_none : (bs : List ℕ) → StandsNowhere bs 10 → slice_split newline bs ≡ bs ∷ []
split_none [] none = refl
split_none (x ∷ bs) none = slice_split-cons_no newline x bs (ne_eqb x 10 (none 0 (omega arith))) ∙ ap (onto_first x) (split_none bs (λ k lt. none (suc k) (omega arith)))

-- the first line ends at the first newline, and the others are those of what stands behind it
pub lines_at : (bs : List ℕ) (i : ℕ) → IsFirst bs 10 i → lines bs ≡ strip_carriage_return (take i bs) ∷ lines (drop (i + 1) bs)
lines_at bs i found =
    let rest = split_cons (drop (suc i) bs) in
    let parts : slice_split newline bs ≡ take i bs ∷ slice_split newline (drop (suc i) bs) = split_at bs i found.below found.here found.before in
    rw add-one (ap lines_of_parts parts ∙ with_more (take i bs) (slice_split newline (drop (suc i) bs)) rest)
  where
    with_more : (line : List ℕ) (parts : List (List ℕ)) → Parts parts → lines_of_parts (line ∷ parts) ≡ strip_carriage_return line ∷ lines_of_parts parts
    with_more line [] rest = absurd (let h = rest.are in cc)
    with_more line (y ∷ ys) rest = refl

-- a script without a newline is one line
pub lines_none : (bs : List ℕ) → StandsNowhere bs 10 → 0 < length bs → lines bs ≡ bs ∷ []
lines_none [] none some = absurd (omega arith)
lines_none (x ∷ bs) none some = ap lines_of_parts (split_none (x ∷ bs) none) ∙ rw (ne_eqb (length (x ∷ bs)) 0 (omega arith)) refl

-- ---- two numbers with a separator between them

-- a text that begins with a front
pub front_stands : (text front rest : List ℕ)
    → pointwise (λ a b. a == b) (take (length front) text) front ≡ true
    → rest ≡ drop (length front) text → text ≡ front ++ rest
front_stands text front rest same is =
    let its : take (length front) text ≡ front = same_text (take (length front) text) front (sym same) in
    sym (take-append-drop (length front) text)
    ∙ (ap (λ (xs : List ℕ). xs ++ drop (length front) text) its ∙ ap (λ (xs : List ℕ). front ++ xs) (sym is))

pub front_differs : (text front rest : List ℕ)
    → pointwise (λ a b. a == b) (take (length front) text) front ≡ false
    → text ≡ front ++ rest → ⊥
front_differs text front rest differs is =
    other_text (take (length front) text) front (sym differs)
    (ap (λ (xs : List ℕ). take (length front) xs) is ∙ take-append_seam front rest)

-- no number's spelling has a byte below that of `-`
digits_apart : (b : ℕ) → b < 45 → (ds : List ℕ) → AllDigits 10 ds → StandsNowhere ds b
digits_apart b low [] all k lt = absurd (omega arith)
digits_apart b low (d ∷ ds) all zero lt = λ is.
    let range = digit_from_value d all.0 in absurd (omega arith)
digits_apart b low (d ∷ ds) all (suc k) lt = digits_apart b low ds all.1 k (omega arith)

sign_apart : (b : ℕ) → b < 45 → (ds : List ℕ) → StandsNowhere ds b → StandsNowhere (45 ∷ ds) b
sign_apart b low ds none zero lt = λ is. absurd (omega arith)
sign_apart b low ds none (suc k) lt = none k (omega arith)

pub number_apart : (b : ℕ) → b < 45 → (z : ℤ) → FitsSigned w64 z → StandsNowhere (signed_decimal z) b
number_apart b low (pos n) fits =
    digits_apart b low (decimal n) (decimal_is_IsNumeral n (let f = fits.sfits in omega arith)).0.1
number_apart b low (negsuc n) fits =
    sign_apart b low (decimal (suc n)) (digits_apart b low (decimal (suc n))
    (decimal_is_IsNumeral (suc n) (let f = fits.sfits in omega arith)).0.1)

module _ (text separator : List ℕ) (some : 0 < length separator)
    (apart : get_or separator 0 0 < 45) where
  -- behind the first number the separator's first byte stands
  pub seam : (first second : List ℕ) (separator : List ℕ) → 0 < length separator
      → get_or (first ++ (separator ++ second)) (length first) 0 ≡ get_or separator 0 0
  seam first second [] some = absurd (omega arith)
  seam first second (s ∷ more) some = get_or-append_seam first s (more ++ second) 0

  -- it stands there
  pub no_numbers_without : (first second : ℤ) → StandsNowhere text (get_or separator 0 0)
      → AreSpelled text separator first second → ⊥
  no_numbers_without first second none are =
      let its : List ℕ = signed_decimal first in
      none (length its)
      (rw are.spelled (omega (arith, length-append {A = ℕ})))
      (ap (λ (xs : List ℕ). get_or xs (length its) 0) are.spelled
      ∙ seam its (signed_decimal second) separator some)

  -- and nowhere before
  first_cut : (first second : ℤ) (end : ℕ) → IsFirst text (get_or separator 0 0) end
      → AreSpelled text separator first second → end ≡ length (signed_decimal first)
  first_cut first second end found are =
      at (cases_lt end (length its)) (cases_lt (length its) end)
    where
      its : List ℕ
      its = signed_decimal first

      at : (end < length its) ⊎ (length its ≤ end) → (length its < end) ⊎ (end ≤ length its)
          → end ≡ length its
      at (inl early) other =
          absurd (number_apart (get_or separator 0 0) apart first are.first_fits end early
          (sym (get_or_append_left its (separator ++ signed_decimal second) 0 end early)
          ∙ (ap (λ (xs : List ℕ). get_or xs end 0) (sym are.spelled) ∙ found.here)))
      at (inr late) (inl behind) =
          absurd (found.before (length its) behind
          (ap (λ (xs : List ℕ). get_or xs (length its) 0) are.spelled
          ∙ seam its (signed_decimal second) separator some))
      at (inr late) (inr within) = omega arith

  pub first_spelled : (first second : ℤ) (end : ℕ) → IsFirst text (get_or separator 0 0) end
      → AreSpelled text separator first second → signed_decimal first ≡ take end text
  first_spelled first second end found are =
      rw (first_cut first second end found are, are.spelled)
      (sym (take-append_seam (signed_decimal first) (separator ++ signed_decimal second)))

  pub rest_spelled : (first second : ℤ) (end : ℕ) → IsFirst text (get_or separator 0 0) end
      → AreSpelled text separator first second
      → drop end text ≡ separator ++ signed_decimal second
  rest_spelled first second end found are =
      rw (first_cut first second end found are, are.spelled)
      (drop-append_seam (signed_decimal first) (separator ++ signed_decimal second))

-- the same behind the same front
pub same_rest : (front a b : List ℕ) → front ++ a ≡ front ++ b → a ≡ b
same_rest front a b is =
    sym (drop-append_seam front a)
    ∙ (ap (λ (xs : List ℕ). drop (length front) xs) is ∙ drop-append_seam front b)
