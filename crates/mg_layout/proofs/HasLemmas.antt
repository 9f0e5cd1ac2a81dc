-- Numbers that a list has, and the test of it.
use Rattle.std.proofs.Common.{◌≡◌, ◌≢◌, ◌⊎◌, inl, inr, refl, ◌==◌, ◌||◌, ℕ, Bool, true, false, List, [], ◌∷◌, ◌++◌}
use Rattle.std.proofs.lemmas.Bool.{cases_eq, eq-eqb, ne_eqb}
use Rattle.mg_image.specs.Tables.{Has, has}

or_true : (b : Bool) → (b || true) ≡ true
or_true true = refl
or_true false = refl

-- the test of a number that a list has
pub has_true : (ns : List ℕ) (n : ℕ) → Has ns n → has ns n ≡ true
has_true [] n none = absurd none
has_true (m ∷ ms) n (inl is) = rw (eq-eqb n m is) refl
has_true (m ∷ ms) n (inr later) = rw (has_true ms n later) (or_true (n == m))

-- what a test of a list finds is in it
pub has_back : (ns : List ℕ) (n : ℕ) → has ns n ≡ true → Has ns n
has_back [] n is = absurd cc
has_back (m ∷ ms) n is = at (cases_eq n m) (λ e. has_back ms n e)
  where
    at : (n ≡ m) ⊎ (n ≢ m) → (has ms n ≡ true → Has ms n) → Has (m ∷ ms) n
    at (inl same) later = inl same
    at (inr other) later = inr (later (rw (ne_eqb n m other) at is))

-- a number that a list does not have
pub has_false : (ns : List ℕ) (n : ℕ) → (Has ns n → ⊥) → has ns n ≡ false
has_false ns n none = at (has ns n) refl
  where
    at : (b : Bool) → has ns n ≡ b → has ns n ≡ false
    at true e = absurd (none (has_back ns n e))
    at false e = e

-- a list with one number more has those that it had, and that one
pub has_more : (ns : List ℕ) (m n : ℕ) → Has ns n → Has (ns ++ m ∷ []) n
has_more [] m n none = absurd none
has_more (k ∷ ns) m n (inl is) = inl is
has_more (k ∷ ns) m n (inr later) = inr (has_more ns m n later)

pub has_last : (ns : List ℕ) (m n : ℕ) → n ≡ m → Has (ns ++ m ∷ []) n
has_last [] m n is = inl is
has_last (k ∷ ns) m n is = inr (has_last ns m n is)

-- and no others
pub has_pushed : (ns : List ℕ) (m n : ℕ) → Has (ns ++ m ∷ []) n → Has ns n ⊎ (n ≡ m)
has_pushed [] m n (inl is) = inr is
has_pushed [] m n (inr none) = absurd none
has_pushed (k ∷ ns) m n (inl is) = inl (inl is)
has_pushed (k ∷ ns) m n (inr later) = at (has_pushed ns m n later)
  where
    at : Has ns n ⊎ (n ≡ m) → Has (k ∷ ns) n ⊎ (n ≡ m)
    at (inl there) = inl (inr there)
    at (inr same) = inr same
