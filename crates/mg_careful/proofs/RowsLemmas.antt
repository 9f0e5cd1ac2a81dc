-- Tables of bits while a loop goes down their rows.
use Rattle.std.proofs.Common.{◌≡◌, ◌<◌, ◌≤◌, ℕ, ◌+◌, Bool, true, false, ◌||◌, ◌&&◌, ◌==◌, not, inl, inr, List, [], length, get_or, arith, refl, nat_lt}
use Rattle.std.proofs.lemmas.List.{get_or_past}
use Rattle.std.proofs.lemmas.Bool.{cases_lt, eq-eqb, eqb-true, or_cases, or_left, or_right, and_parts, and_from, both_ways, false_from_ne_true, ltb-true, lt-ltb}
use Rattle.mg_careful.specs.Precedence.{Orders, Precedes, directly, through}
use Rattle.mg_careful.specs.Rows.{bit, IsSquare, IsClosure, with_order, orders_until}
use Rattle.mg_careful.proofs.ClosureLemmas.{same_test}

-- the rows of a table from some row on are those of another one
pub record RestIs (size i : ℕ) (rows start : List (List Bool)) : Type 0 where
  pub rows_long : length rows ≡ size
  pub rest : (a : ℕ) → i ≤ a → get_or rows a [] ≡ get_or start a []

-- a row with a column unset
pub record Unset (old new : List Bool) (gone : ℕ) : Type 0 where
  pub long : length new ≡ length old
  pub bits : (b : ℕ) → get_or new b false ≡ (get_or old b false && not (b == gone))

-- a row into which another one is joined, if a test says so
pub record Joined (old row new : List Bool) (test : Bool) : Type 0 where
  pub long : length new ≡ length old
  pub bits : (b : ℕ) → get_or new b false ≡ (get_or old b false || (test && get_or row b false))

-- a row whose bits are unset
pub record Cleared (old new : List Bool) : Type 0 where
  pub long : length new ≡ length old
  pub bits : (b : ℕ) → get_or new b false ≡ false

-- a bit that is set lies inside the table
pub bit_inside : (size : ℕ) (rows : List (List Bool)) → IsSquare size rows → (a b : ℕ) → bit rows a b ≡ true → (a < size) × (b < size)
bit_inside size rows square a b holds = elim (cases_lt a size) [ inl in_rows ↦ column in_rows | inr past ↦ absurd (below past) ]
  where
    column : a < size → (a < size) × (b < size)
    column in_rows =
        elim (cases_lt b size) [
          | inl in_row ↦ (in_rows, in_row)
          | inr past ↦ absurd (both_ways (bit rows a b) (get_or_past (get_or rows a []) b false (omega (arith, square.row_long a in_rows))) holds)
        ]

    below : size ≤ a → ⊥
    below past = let gone : get_or rows a [] ≡ [] = get_or_past rows a [] (omega (arith, square.rows_long)) in both_ways (bit rows a b) (rw gone refl) holds

data Until (before : List (List Bool)) (later first a b : ℕ) : Type 0 where
  above : bit before b a ≡ true → b < later → Until before later first a b
  here : bit before b a ≡ true → b ≡ later → a < first → Until before later first a b

until : (before : List (List Bool)) (later first a b : ℕ) → orders_until before later first a b ≡ true → Until before later first a b
until before later first a b holds =
    let parts = and_parts (bit before b a) _ holds in
    elim (or_cases (nat_lt b later) _ parts.1) [
      | inl x ↦ above parts.0 (ltb-true b later x)
      | inr y ↦ let more = and_parts _ _ y in here parts.0 (eqb-true b later more.0) (ltb-true a first more.1)
    ]

is_until : (before : List (List Bool)) (later first a b : ℕ) → Until before later first a b → orders_until before later first a b ≡ true
is_until before later first a b (above x y) = and_from _ _ x (or_left (nat_lt b later) _ (lt-ltb b later y))
is_until before later first a b (here x y z) = and_from _ _ x (or_right (nat_lt b later) _ (and_from _ _ (eq-eqb b later y) (lt-ltb a first z)))

-- no order is taken yet
pub until_none : (before : List (List Bool)) (a b : ℕ) → orders_until before 0 0 a b ≡ false
until_none before a b = false_from_ne_true _ (λ holds. at (until before 0 0 a b holds))
  where
    at : Until before 0 0 a b → ⊥
    at (above x y) = omega arith
    at (here x y z) = omega arith

-- a bit that is not set is no order
pub until_skip : (before : List (List Bool)) (later first : ℕ) → bit before later first ≡ false → (a b : ℕ) → orders_until before later (first + 1) a b ≡ orders_until before later first a b
until_skip before later first unset a b =
    same_test _ _ (λ holds. is_until before later first a b (less (until before later (first + 1) a b holds))) (λ holds. is_until before later (first + 1) a b (more (until before later first a b holds)))
  where
    less : Until before later (first + 1) a b → Until before later first a b
    less (above x y) = above x y
    less (here x y z) =
        elim (cases_lt a first) [
          | inl w ↦ here x y w
          | inr w ↦ let e : a ≡ first = omega arith in absurd (both_ways (bit before b a) (rw (y, e) unset) x)
        ]

    more : Until before later first a b → Until before later (first + 1) a b
    more (above x y) = above x y
    more (here x y z) = here x y (omega arith)

-- a bit that is set is one order more
pub until_take : (before : List (List Bool)) (later first : ℕ) → bit before later first ≡ true → (a b : ℕ) → orders_until before later (first + 1) a b ≡ with_order (orders_until before later first) first later a b
until_take before later first is_set a b =
    same_test _ _ (λ holds. less (until before later (first + 1) a b holds)) (λ holds. elim (or_cases (orders_until before later first a b) _ holds) [ inl x ↦ is_until before later (first + 1) a b (more (until before later first a b x)) | inr y ↦ let parts = and_parts _ _ y in is_until before later (first + 1) a b (new (eqb-true a first parts.0) (eqb-true b later parts.1)) ])
  where
    less : Until before later (first + 1) a b → with_order (orders_until before later first) first later a b ≡ true
    less (above x y) = or_left _ _ (is_until before later first a b (above x y))
    less (here x y z) =
        elim (cases_lt a first) [
          | inl w ↦ or_left _ _ (is_until before later first a b (here x y w))
          | inr w ↦ or_right (orders_until before later first a b) _ (and_from _ _ (eq-eqb a first (omega arith)) (eq-eqb b later y))
        ]

    more : Until before later first a b → Until before later (first + 1) a b
    more (above x y) = above x y
    more (here x y z) = here x y (omega arith)

    new : a ≡ first → b ≡ later → Until before later (first + 1) a b
    new e f = here (rw (e, f) is_set) f (omega arith)

-- at the end of a row the row is taken
pub until_row : (size : ℕ) (before : List (List Bool)) → IsSquare size before → (later a b : ℕ) → orders_until before (later + 1) 0 a b ≡ orders_until before later size a b
until_row size before square later a b =
    same_test _ _ (λ holds. is_until before later size a b (less (until before (later + 1) 0 a b holds))) (λ holds. is_until before (later + 1) 0 a b (more (until before later size a b holds)))
  where
    less : Until before (later + 1) 0 a b → Until before later size a b
    less (above x y) = elim (cases_lt b later) [ inl w ↦ above x w | inr w ↦ here x (omega arith) (bit_inside size before square b a x).1 ]
    less (here x y z) = absurd (omega arith)

    more : Until before later size a b → Until before (later + 1) 0 a b
    more (above x y) = above x (omega arith)
    more (here x y z) = above x (omega arith)

-- at the end of the table every order is taken
pub until_all : (size : ℕ) (before : List (List Bool)) → IsSquare size before → (a b : ℕ) → bit before b a ≡ orders_until before size 0 a b
until_all size before square a b =
    same_test _ _ (λ holds. is_until before size 0 a b (above holds (bit_inside size before square b a holds).0)) (λ holds. (and_parts (bit before b a) _ holds).0)

-- no order at all is closed by a blank table
pub closure_none : (ordered after : Orders) → ((a b : ℕ) → ordered a b ≡ false) → ((a b : ℕ) → after a b ≡ false) → IsClosure ordered after
closure_none ordered after no_order blank = record {
  sound = λ a b holds. absurd (both_ways (after a b) (blank a b) holds);
  whole = λ a b chain. absurd (no_chain a b chain);
}
  where
    no_chain : (a b : ℕ) → Precedes ordered a b → ⊥
    no_chain a b (directly o) = both_ways (ordered a b) (no_order a b) o
    no_chain a c (through {b = b} x y) = no_chain a b x
