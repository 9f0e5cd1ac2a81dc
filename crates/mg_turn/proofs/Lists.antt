-- Lists by place, histories, and what stands in a list.
use Rattle.std.proofs.Common.{◌≡◌, ◌≢◌, ◌⊎◌, ℕ, zero, suc, ◌-◌, ◌<◌, ◌≤◌, if◌then◌else◌, List, [], ◌∷◌, ◌++◌, length, get_or, replicate, sym, refl, ap, ◌∙◌, subst, inl, inr, ⊎_elim, append_assoc, length-append, eq-eqb, ne_eqb, arith}
use mathlib.Core.Option.{some, some-injective, some-ne-none}
use lib.ListN.{get_elem?}
use Rattle.mg_turn.specs.declared.rule.Entry.{Entry}
use Rattle.mg_turn.specs.declared.served.End.{End}
use Rattle.mg_turn.specs.Histories.{Has, calls_by, EndIn}
use Rattle.mg_turn.specs.Views.{longer, longer_by}

module _ {A : Type 0} where
  pub at_in : (l : List A) (i : ℕ) (a : A) → get_elem? l i ≡ some a → i < length l
  at_in [] i a e = absurd (some-ne-none a (sym e))
  at_in (x ∷ xs) zero a e = omega arith
  at_in (x ∷ xs) (suc i) a e = let q = at_in xs i a e in omega arith

  pub same_at : (l : List A) (i : ℕ) (a b : A) → get_elem? l i ≡ some a → get_elem? l i ≡ some b → a ≡ b
  same_at l i a b p q = some-injective a b (sym p ∙ q)

  -- an element of a list with one more behind
  pub at_snoc : (l : List A) (a b : A) (j : ℕ) → get_elem? (l ++ a ∷ []) j ≡ some b → (get_elem? l j ≡ some b) ⊎ ((j ≡ length l) × (a ≡ b))
  at_snoc [] a b zero e = inr (refl, some-injective a b e)
  at_snoc [] a b (suc j) e = absurd (some-ne-none b (sym e))
  at_snoc (x ∷ xs) a b zero e = inl e
  at_snoc (x ∷ xs) a b (suc j) e = ⊎_elim (λ (t : get_elem? xs j ≡ some b). inl t) (λ (t : (j ≡ length xs) × (a ≡ b)). inr (ap suc t.0, t.1)) (at_snoc xs a b j e)

  pub has_split : (x : A) (xs ys : List A) → Has x (xs ++ ys) → Has x xs ⊎ Has x ys
  has_split x [] ys h = inr h
  has_split x (z ∷ zs) ys (inl e) = inl (inl e)
  has_split x (z ∷ zs) ys (inr h) = ⊎_elim (λ (t : Has x zs). inl (inr t)) (λ (t : Has x ys). inr t) (has_split x zs ys h)

  pub has_left : (x : A) (xs ys : List A) → Has x xs → Has x (xs ++ ys)
  has_left x [] ys h = absurd h
  has_left x (z ∷ zs) ys (inl e) = inl e
  has_left x (z ∷ zs) ys (inr h) = inr (has_left x zs ys h)

  pub has_right : (x : A) (xs ys : List A) → Has x ys → Has x (xs ++ ys)
  has_right x [] ys h = h
  has_right x (z ∷ zs) ys h = inr (has_right x zs ys h)

  -- one log begins with another
  abbrev pub Begins : List A → List A → Type 0
  Begins log seen = (between : List A) × (log ≡ between ++ seen)

  pub begins_on : (newer log seen : List A) → Begins newer log → Begins log seen → Begins newer seen
  begins_on newer log seen a b = (a.0 ++ b.0, a.1 ∙ ap (λ l. a.0 ++ l) b.1 ∙ sym (append_assoc a.0 b.0 seen))

  pub begins_short : (log seen : List A) → Begins log seen → length seen ≤ length log
  begins_short log seen b = let q = ap length b.1 in let r = length-append b.0 seen in omega arith

  pub begins_whole : (log seen : List A) → Begins log seen → length log ≤ length seen → seen ≡ log
  begins_whole log seen b l = whole b.0 b.1
    where
      whole : (between : List A) → log ≡ between ++ seen → seen ≡ log
      whole [] e = sym e
      whole (x ∷ xs) e = absurd (let q = ap length e in let r = length-append xs seen in omega arith)

  longer_begins_by : (n : ℕ) (log xs ys : List A) → Begins log xs → Begins log ys → Begins log (longer_by n xs ys)
  longer_begins_by zero log xs ys a b = a
  longer_begins_by (suc n) log xs ys a b = b

  pub longer_begins : (log xs ys : List A) → Begins log xs → Begins log ys → Begins log (longer xs ys)
  longer_begins log xs ys a b = longer_begins_by (length ys - length xs) log xs ys a b

  longer_left_by : (n : ℕ) (log xs ys : List A) → xs ≡ log → n ≡ 0 → longer_by n xs ys ≡ log
  longer_left_by zero log xs ys e z = e
  longer_left_by (suc n) log xs ys e z = absurd (omega arith)

  -- where one of two is the whole log, the longer is
  pub longer_left : (log xs ys : List A) → xs ≡ log → Begins log ys → longer xs ys ≡ log
  longer_left log xs ys e b = longer_left_by (length ys - length xs) log xs ys e (let q = ap length e in let r = begins_short log ys b in omega arith)

  longer_right_by : (n : ℕ) (log xs ys : List A) → Begins log xs → ys ≡ log → n ≡ length ys - length xs → longer_by n xs ys ≡ log
  longer_right_by zero log xs ys a e z = begins_whole log xs a (let q = ap length e in omega arith)
  longer_right_by (suc n) log xs ys a e z = e

  pub longer_right : (log xs ys : List A) → Begins log xs → ys ≡ log → longer xs ys ≡ log
  longer_right log xs ys a e = longer_right_by (length ys - length xs) log xs ys a e refl

pub zeros : (n i : ℕ) → let z : ℕ = 0 in get_or (replicate n z) i z ≡ z
zeros zero i = refl
zeros (suc n) zero = refl
zeros (suc n) (suc i) = zeros n i

module _ {C R : Type 0} where
  pub calls_same : (n : ℕ) (e : Entry C R) (es : List (Entry C R)) → e.by ≡ n → calls_by n (e ∷ es) ≡ e ∷ calls_by n es
  calls_same n e es is = ap (λ b. if b then (e ∷ calls_by n es) else (calls_by n es)) (eq-eqb e.by n is)

  pub calls_else : (n : ℕ) (e : Entry C R) (es : List (Entry C R)) → e.by ≢ n → calls_by n (e ∷ es) ≡ calls_by n es
  calls_else n e es ne = ap (λ b. if b then (e ∷ calls_by n es) else (calls_by n es)) (ne_eqb e.by n ne)

  pub end_later : (ends : C → R → ℕ → End → Type 0) (newer log : List (Entry C R)) (t : ℕ) (end : End) → Begins newer log → EndIn ends log t end → EndIn ends newer t end
  end_later ends newer log t end b it = (it.0, subst (Has it.0) (sym b.1) (has_right it.0 b.0 log it.1), it.2)
