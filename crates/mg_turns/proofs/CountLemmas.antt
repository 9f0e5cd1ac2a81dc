-- How many statements are released, and how often one may go on still.
use Rattle.std.proofs.Common.{◌≡◌, ◌<◌, ◌≤◌, ◌+◌, arith, ℕ, zero, suc, Bool, true, false, List, [], ◌∷◌, ◌++◌, length, get_or, Option, refl, sym, ap, ◌∙◌}
use Rattle.std.specs.Prelude.{if◌then◌else◌}
use Rattle.std.specs.List.{remove}
use Rattle.mg_pending.specs.declared.pending.Pending.{Pending}
use Rattle.mg_pending.specs.declared.transactions.Transaction.{Transaction}
use Rattle.mg_pending.specs.Statements.{is_released, released_count}
use Rattle.mg_turns.specs.Turns.{sum_to, turns_left}

-- one more, if it is released
counted : (b : Bool) (n m : ℕ) → n ≡ m → (if b then n + 1 else n) ≡ (if b then m + 1 else m)
counted b n m same = ap (λ (k : ℕ). if b then k + 1 else k) same

module _ {Run : Type 0} (all : List (Option Transaction)) where
  pub count_most : (ps : List (Pending Run)) → released_count all ps ≤ length ps
  count_most [] = omega arith
  count_most (p ∷ ps) = at (is_released all p) (count_most ps)
    where
      at : (b : Bool) → released_count all ps ≤ length ps
          → (if b then released_count all ps + 1 else released_count all ps) ≤ suc (length ps)
      at true more = omega (arith, more)
      at false more = omega (arith, more)

  -- one that is not released comes behind the others
  pub count_behind : (ps : List (Pending Run)) (q : Pending Run) → is_released all q ≡ false
      → released_count all (ps ++ q ∷ []) ≡ released_count all ps
  count_behind [] q not_ = rw not_ refl
  count_behind (p ∷ ps) q not_ = counted (is_released all p) (released_count all (ps ++ q ∷ []))
      (released_count all ps) (count_behind ps q not_)

  -- one that is released is taken out
  pub count_without : (ps : List (Pending Run)) (place : ℕ) (d : Pending Run) → place < length ps
      → is_released all (get_or ps place d) ≡ true
      → released_count all ps ≡ released_count all (remove ps place) + 1
  count_without [] place d inside is = absurd (omega (arith, inside))
  count_without (p ∷ ps) zero d inside is = rw is refl
  count_without (p ∷ ps) (suc place) d inside is =
      at (is_released all p) (count_without ps place d (omega (arith, inside)) is)
    where
      at : (b : Bool) → released_count all ps ≡ released_count all (remove ps place) + 1
          → (if b then released_count all ps + 1 else released_count all ps)
          ≡ (if b then released_count all (remove ps place) + 1 else released_count all (remove ps place)) + 1
      at true more = ap (λ (n : ℕ). n + 1) more
      at false more = more

pub length_without : {A : Type 0} (xs : List A) (place : ℕ) → place < length xs
    → length xs ≡ suc (length (remove xs place))
length_without [] place inside = absurd (omega (arith, inside))
length_without (x ∷ xs) zero inside = refl
length_without (x ∷ xs) (suc place) inside = ap (λ (n : ℕ). suc n) (length_without xs place (omega (arith, inside)))

pub length_behind : {A : Type 0} (xs : List A) (x : A) → length (xs ++ x ∷ []) ≡ suc (length xs)
length_behind [] x = refl
length_behind (y ∷ ys) x = ap (λ (n : ℕ). suc n) (length_behind ys x)

-- one that has come to its end is gone
pub ended_nearer : {Run : Type 0} (all all' : List (Option Transaction)) (ps ps' : List (Pending Run)) (place : ℕ)
    → place < length ps → ps' ≡ remove ps place → turns_left all' ps' < turns_left all ps
ended_nearer {Run} all all' ps ps' place inside is =
    let size : length ps ≡ suc (length ps') = length_without ps place inside
    ∙ ap (λ (xs : List (Pending Run)). suc (length xs)) (sym is) in
    let sums : sum_to (length ps) ≡ sum_to (length ps') + suc (length ps') = ap sum_to size in
    let most = count_most all' ps' in
    omega (arith, sums, most)

-- one that waits again is no longer released
pub again_nearer : {Run : Type 0} (all : List (Option Transaction)) (ps : List (Pending Run)) (place : ℕ)
    (again d : Pending Run) → place < length ps → is_released all (get_or ps place d) ≡ true
    → is_released all again ≡ false
    → turns_left all (remove ps place ++ again ∷ []) < turns_left all ps
again_nearer all ps place again d inside was not_ =
    let size : length (remove ps place ++ again ∷ []) ≡ length ps =
    length_behind (remove ps place) again ∙ sym (length_without ps place inside) in
    let sums : sum_to (length (remove ps place ++ again ∷ [])) ≡ sum_to (length ps) = ap sum_to size in
    let count = count_without all ps place d inside was in
    let behind = count_behind all (remove ps place) again not_ in
    omega (arith, sums, count, behind)
