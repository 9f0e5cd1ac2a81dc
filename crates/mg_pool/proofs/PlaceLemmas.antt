-- Loops that look at one place after another.
use Rattle.std.proofs.Common.{◌≡◌, ◌⊎◌, inl, inr, ℕ, ◌+◌, ◌<◌, ◌≤◌, Bool, true, false, List, [], ◌∷◌, ◌++◌, length, take, get_or, replicate, IsTrue, ◌↔◌, arith, sym, ap, subst, ◌∙◌}
use Rattle.std.specs.Prelude.{count_by}
use Rattle.std.proofs.lemmas.Bool.{cases_lt, both_ways}
use Rattle.std.proofs.lemmas.List.{get_or_append_left, get_or_push, get_or_read, length-replicate, length_push, take_all}
use Rattle.std.proofs.lemmas.List.Sums.{count_by_more_no, count_by_more_yes}
use Rattle.mg_pool.specs.declared.batch.BatchPage.{BatchPage}
use Rattle.mg_pool.specs.Dirty.{IsSpare}
use Rattle.mg_pool.specs.Lawful.{page_in}

-- what is true of each place before one, and of that one
pub place_more : (P : ℕ → Type 0) (n : ℕ) → ((i : ℕ) → i < n → P i) → P n → (i : ℕ) → i < n + 1 → P i
place_more P n each here i below = at (cases_lt i n)
  where
    at : (i < n) ⊎ (n ≤ i) → P i
    at (inl less) = each i less
    at (inr more) = let same : n ≡ i = omega arith in subst P same here

-- every place was looked at
pub place_all : (P : ℕ → Type 0) (n most : ℕ) → ((i : ℕ) → i < n → P i) → most ≤ n → (i : ℕ) → i < most → P i
place_all P n most each past i below = each i (omega arith)

-- a test that is true is not false
pub not_both : (b : Bool) (P : Type 0) → b ≡ true → b ≡ false → P
not_both b P yes_ no_ = absurd (both_ways b no_ yes_)

-- a place that a loop is at stands in a list, and one where it ended is past it
pub inside : (i n m : ℕ) → i < n → n ≡ m → i < m
inside i n m below is = subst (λ (k : ℕ). i < k) is below

pub outside : (i n m : ℕ) → n ≤ i → n ≡ m → m ≤ i
outside i n m past is = subst (λ (k : ℕ). k ≤ i) is past

pub inside_all : (i count n m : ℕ) → i < count → count ≤ n → m ≡ n → i < m
inside_all i count n m below most same = omega arith

-- what a test tells of a number, told of the same number
pub tested : (r : Bool) (F : ℕ → Type 0) (x y : ℕ) → x ≡ y → IsTrue r ↔ F x → r ≡ true → F y
tested r F x y same told yes_ = subst F same (told.0 yes_)

pub refuted : (r : Bool) (F : ℕ → Type 0) (x y : ℕ) → x ≡ y → IsTrue r ↔ F x → r ≡ false → F y → ⊥
refuted r F x y same told no_ holds = both_ways r no_ (told.1 (subst F (sym same) holds))

-- the page of an entry that was read
pub page_read : (pages : List BatchPage) (i : ℕ) (x : BatchPage) → i < length pages → x ≡ get_or pages i x
    → x.page ≡ page_in pages i
page_read pages i x below is = ap (λ (y : BatchPage). y.page) (get_or_read pages i x below is (record {
  page = 0;
  bytes = [];
}))

-- a buffer of zeros that was pushed
pub pushed_len : (spare new : List (List ℕ)) (b : List ℕ) (n : ℕ) → length spare ≡ n → new ≡ spare ++ b ∷ []
    → length new ≡ n + 1
pushed_len spare new b n is put =
    ap (length {A = List ℕ}) put ∙ length_push spare b ∙ ap (λ (k : ℕ). k + 1) is

pub zeros_len : (b : List ℕ) (size : ℕ) → b ≡ replicate size 0 → length b ≡ size
zeros_len b size is = ap (length {A = ℕ}) is ∙ length-replicate size 0

pub le_through : (a b c : ℕ) → a ≤ b → b ≤ c → a ≤ c
le_through a b c one two = omega arith

-- ---- a count

-- one place more passes, or does not
pub counted_more : {X : Type 0} (p : X → Bool) (xs : List X) (i start n : ℕ) (d : X) → i < length xs
    → n ≡ start + count_by p (take i xs) → p (get_or xs i d) ≡ true
    → n + 1 ≡ start + count_by p (take (i + 1) xs)
counted_more p xs i start n d below so_far passes =
    let more = count_by_more_yes p xs i d below passes in omega (arith, more, so_far)

pub counted_same : {X : Type 0} (p : X → Bool) (xs : List X) (i start n : ℕ) (d : X) → i < length xs
    → n ≡ start + count_by p (take i xs) → p (get_or xs i d) ≡ false
    → n ≡ start + count_by p (take (i + 1) xs)
counted_same p xs i start n d below so_far fails =
    let same = count_by_more_no p xs i d below fails in omega (arith, same, so_far)

pub counted_all : {X : Type 0} (p : X → Bool) (xs : List X) (i start n : ℕ) → length xs ≤ i
    → n ≡ start + count_by p (take i xs) → n ≡ start + count_by p xs
counted_all {X} p xs i start n past so_far =
    so_far ∙ ap (λ (ys : List X). start + count_by p ys) (take_all i xs past)

-- ---- buffers

-- one buffer more
pub spare_more : (size : ℕ) (spare new : List (List ℕ)) (b : List ℕ) → IsSpare size spare → length b ≡ size
    → new ≡ spare ++ b ∷ [] → IsSpare size new
spare_more size spare new b is long put =
    let all : IsSpare size (spare ++ b ∷ []) = record {
      whole = λ i d below. at i d below (cases_lt i (length spare));
    } in
    subst (λ (xs : List (List ℕ)). IsSpare size xs) (sym put) all
  where
    at : (i : ℕ) (d : List ℕ) → i < length (spare ++ b ∷ []) → (i < length spare) ⊎ (length spare ≤ i)
        → length (get_or (spare ++ b ∷ []) i d) ≡ size
    at i d below (inl less) = ap (length {A = ℕ}) (get_or_append_left spare (b ∷ []) d i less) ∙ is.whole i d less
    at i d below (inr more) =
        let last : length spare ≡ i = omega (arith, below, length_push spare b) in
        ap (length {A = ℕ}) (get_or_push spare b d i last) ∙ long
