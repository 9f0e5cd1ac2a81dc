-- Rows that ascend strictly can be sorted in one way alone.
use Rattle.std.proofs.Common.{◌≡◌, ℕ, suc, ◌+◌, ◌≤◌, Bool, true, false, List, [], ◌∷◌, filter, cond, is_lt, add-one, refl, sym, ap, subst, ◌∙◌, ◌⊎◌, inl, inr, arith}
use Rattle.std.specs.List.{AllByRecursion, sum_by}
use Rattle.std.specs.List.Sorted.{IsPermutation, IsSorted}
use Rattle.std.specs.Cmp.{IsTotalOrder}
use Rattle.std.specs.Cmp.Lexicographic.{slice_cmp}
use Rattle.std.specs.FinMap.{slice_cmp-IsAntisymmetric}
use Rattle.std.specs.Ordering.{is_eq}
use Rattle.std.specs.declared.cmp.Ordering.{Ordering}
use Rattle.std.specs.declared.cmp.Ordering.TheVariants.{Less, Equal, Greater}
use Rattle.std.proofs.lemmas.Bool.{false≢true}
use Rattle.std.proofs.lemmas.Cmp.{tied_itself, lists_total}
use Rattle.std.proofs.lemmas.List.Elements.{recursion_from_All}
use Rattle.std.proofs.lemmas.List.Sorted.{ranks_by, sorted_far, sum_by-IsPermutation}
use Rattle.std.proofs.lemmas.List.Sums.{sum_by-cons}
use Rattle.mg_value.specs.Values.{value_cmp}
use Rattle.mg_value.specs.OrderLaws.{value_cmp_total, same_from_value_cmp}
use Rattle.mg_model.specs.Changes.{Cells}
use Rattle.mg_rows.specs.Orders.{ComesBefore, Ascend}

-- ---- the same rows, whatever their order

-- two lists have the same elements, each as often: every sum over them is the same
abbrev pub HaveSame : {A : Type 0} → List A → List A → Type 0
HaveSame {A = A} xs ys = (f : A → ℕ) → sum_by f xs ≡ sum_by f ys

pub same_from_moved : {A : Type 0} (xs ys : List A) → IsPermutation xs ys → HaveSame xs ys
same_from_moved xs ys moved f = sym (sum_by-IsPermutation f xs ys moved)

abbrev if_passed : Bool → ℕ → ℕ
if_passed passed n = cond passed n 0

filtered_cons : {A : Type 0} (p : A → Bool) (f : A → ℕ) (x : A) (xs : List A) (passed : Bool)
    → sum_by f (filter p xs) ≡ sum_by (λ y. if_passed (p y) (f y)) xs
    → sum_by f (cond passed (x ∷ filter p xs) (filter p xs))
    ≡ if_passed passed (f x) + sum_by (λ y. if_passed (p y) (f y)) xs
filtered_cons p f x xs true same =
    sum_by-cons f x (filter p xs) ∙ ap (λ (n : ℕ). f x + n) same
filtered_cons p f x xs false same = same ∙ omega arith

sum_filtered : {A : Type 0} (p : A → Bool) (f : A → ℕ) (xs : List A)
    → sum_by f (filter p xs) ≡ sum_by (λ y. if_passed (p y) (f y)) xs
sum_filtered p f [] = refl
sum_filtered p f (x ∷ xs) =
    filtered_cons p f x xs (p x) (sum_filtered p f xs)
    ∙ sym (sum_by-cons (λ y. if_passed (p y) (f y)) x xs)

-- of the same elements the same ones pass a test
pub same_filtered : {A : Type 0} (p : A → Bool) (xs ys : List A) → HaveSame xs ys
    → HaveSame (filter p xs) (filter p ys)
same_filtered p xs ys same f =
    sum_filtered p f xs ∙ same (λ y. if_passed (p y) (f y)) ∙ sym (sum_filtered p f ys)

-- ---- a row among others

abbrev IsIn : Cells → List Cells → Type 0
IsIn x [] = ⊥
IsIn x (y ∷ ys) = (x ≡ y) ⊎ IsIn x ys

-- 1 for an equal row, 0 for another
abbrev counts : Cells → Cells → ℕ
counts x y = if_passed (is_eq (slice_cmp value_cmp x y)) 1

equal_from_is_eq : (order : Ordering) → is_eq order ≡ true → order ≡ Equal
equal_from_is_eq Less is = absurd (false≢true is)
equal_from_is_eq Equal is = refl
equal_from_is_eq Greater is = absurd (false≢true is)

in_cons : (x y : Cells) (ys : List Cells) (equal : Bool)
    → is_eq (slice_cmp value_cmp x y) ≡ equal → (1 ≤ sum_by (counts x) ys → IsIn x ys)
    → 1 ≤ if_passed equal 1 + sum_by (counts x) ys → IsIn x (y ∷ ys)
in_cons x y ys true is more some =
    inl (slice_cmp-IsAntisymmetric same_from_value_cmp x y (equal_from_is_eq _ is))
in_cons x y ys false is more some = inr (more (omega (arith, some)))

counted_in : (x : Cells) (ys : List Cells) → 1 ≤ sum_by (counts x) ys → IsIn x ys
counted_in x [] some = absurd (omega (arith, some))
counted_in x (y ∷ ys) some =
    in_cons x y ys (is_eq (slice_cmp value_cmp x y)) refl (counted_in x ys)
    (omega (arith, some, sum_by-cons (counts x) y ys))

counts_itself : (x : Cells) → counts x x ≡ 1
counts_itself x =
    ap (λ (o : Ordering). if_passed (is_eq o) 1) (tied_itself (lists_total value_cmp_total) x)

-- the first of some rows is among the same rows
first_in : (x : Cells) (xs ys : List Cells) → HaveSame (x ∷ xs) ys → IsIn x ys
first_in x xs ys same =
    counted_in x ys
    (omega (arith, same (counts x), sum_by-cons (counts x) x xs, counts_itself x))

-- the others are the same too, where the first ones are
others_same : (x y : Cells) (xs ys : List Cells) → x ≡ y → HaveSame (x ∷ xs) (y ∷ ys)
    → HaveSame xs ys
others_same x y xs ys is same f =
    omega (arith, same f, sum_by-cons f x xs, sum_by-cons f y ys, ap f is)

-- ---- in order

module _ (cmp : Cells → Cells → Ordering) (total : IsTotalOrder cmp) where
  before_in : (x y : Cells) (xs : List Cells) → ComesBefore cmp x xs → IsIn y xs → cmp x y ≡ Less
  before_in x y [] before in_ = absurd in_
  before_in x y (z ∷ zs) before (inl is) = ap (cmp x) is ∙ before.0
  before_in x y (z ∷ zs) before (inr rest) = before_in x y zs before.1 rest

  all_in : (P : Cells → Type 0) (y : Cells) (xs : List Cells) → AllByRecursion P xs → IsIn y xs → P y
  all_in P y [] all in_ = absurd in_
  all_in P y (x ∷ xs) all (inl is) = subst P (sym is) all.0
  all_in P y (x ∷ xs) all (inr rest) = all_in P y xs all.1 rest

  -- no row behind the first of sorted ones is less
  first_least : (y : Cells) (ys : List Cells) → IsSorted cmp (y ∷ ys)
      → AllByRecursion (λ z. is_lt (cmp z y) ≡ false) ys
  first_least y ys sorted =
      recursion_from_All (λ z. is_lt (cmp z y) ≡ false) ys (λ k d below.
      sorted_far (λ a b. is_lt (cmp a b)) (ranks_by total (λ row. row)) (y ∷ ys) sorted 0 (suc k) d
      (omega arith) (omega (arith, below)))

  rest_sorted : (y : Cells) (ys : List Cells) → IsSorted cmp (y ∷ ys) → IsSorted cmp ys
  rest_sorted y ys sorted k d low high =
      let next = sorted (suc k) d (omega arith) (omega (arith, high)) in
      rw (add-one k) (rw (add-one (suc k)) at next)

  not_less : (x y : Cells) → cmp x y ≡ Less → is_lt (cmp x y) ≡ false → ⊥
  not_less x y less not = false≢true (sym not ∙ ap is_lt less)

  firsts_same : (x y : Cells) (xs ys : List Cells) → ComesBefore cmp x xs → IsSorted cmp (y ∷ ys)
      → IsIn x (y ∷ ys) → IsIn y (x ∷ xs) → x ≡ y
  firsts_same x y xs ys before sorted (inl is) other = is
  firsts_same x y xs ys before sorted (inr later) (inl is) = sym is
  firsts_same x y xs ys before sorted (inr later) (inr behind) =
      absurd (not_less x y (before_in x y xs before behind)
      (all_in (λ z. is_lt (cmp z y) ≡ false) x ys (first_least y ys sorted) later))

  -- the same rows, of which some ascend strictly and the others are sorted, are the same list
  pub sorted_one : (xs ys : List Cells) → Ascend cmp xs → IsSorted cmp ys → HaveSame xs ys → xs ≡ ys
  sorted_one [] [] ascend sorted same = refl
  sorted_one [] (y ∷ ys) ascend sorted same =
      absurd (omega (arith, same (λ row. 1), sum_by-cons (λ row. 1) y ys))
  sorted_one (x ∷ xs) [] ascend sorted same =
      absurd (omega (arith, same (λ row. 1), sum_by-cons (λ row. 1) x xs))
  sorted_one (x ∷ xs) (y ∷ ys) ascend sorted same =
      let is : x ≡ y =
      firsts_same x y xs ys ascend.0 sorted (first_in x xs (y ∷ ys) same)
      (first_in y ys (x ∷ xs) (λ f. sym (same f))) in
      let rest = sorted_one xs ys ascend.1 (rest_sorted y ys sorted)
      (others_same x y xs ys is same) in
      ap (λ (row : Cells). row ∷ xs) is ∙ ap (λ (rows : List Cells). y ∷ rows) rest
