-- Pages at their places: a page is entered where a place has it, and two pages are ordered where
-- their places are.
use Rattle.std.proofs.Common.{◌≡◌, ◌≢◌, ◌<◌, ℕ, suc, zero, ◌+◌, Bool, true, false, inl, inr, List, [], ◌∷◌, length, get_or, set, Option, Some, None, arith, ap, refl, cond, add-one, is_some}
use Rattle.std.specs.Prelude.{count_by, sum_by}
use Rattle.std.proofs.lemmas.List.Sums.{sum_by-set, sum_by-cons}
use Rattle.std.proofs.lemmas.Bool.{cases_lt, ltb-true, lt-ltb, and_parts, and_from, eqb-true, eq-eqb, false_from_ne_true}
use Rattle.std.proofs.lemmas.List.{get_or_past}
use Rattle.mg_careful.specs.Precedence.{Precedes, directly, through}
use Rattle.mg_careful.specs.Rows.{bit}
use Rattle.mg_careful.specs.Graph.{PageGraph, has_page, place_of, is_entered, is_ordered}

-- a page stands at one place at most
abbrev pub Once : List (Option ℕ) → Type 0
Once pages = (i j page : ℕ) → get_or pages i None ≡ Some page → get_or pages j None ≡ Some page → i ≡ j

-- orders are between places that have pages
abbrev pub Used : List (Option ℕ) → List (List Bool) → Type 0
Used pages before = (a b : ℕ) → bit before b a ≡ true → (is_some (get_or pages a None) ≡ true) × (is_some (get_or pages b None) ≡ true)

abbrev pub graph : List (Option ℕ) → List (List Bool) → PageGraph
graph pages before = record { pages = pages; before = before }

has_is : (page : ℕ) (at : Option ℕ) → has_page page at ≡ true → at ≡ Some page
has_is page None holds = absurd cc
has_is page (Some p) holds = ap Some (eqb-true p page holds)

is_has : (page : ℕ) → has_page page (Some page) ≡ true
is_has page = eq-eqb page page refl

pub some_page : (at : Option ℕ) → is_some at ≡ true → (page : ℕ) × (at ≡ Some page)
some_page None holds = absurd cc
some_page (Some page) holds = (page, refl)

pub is_some_of : (at : Option ℕ) (page : ℕ) → at ≡ Some page → is_some at ≡ true
is_some_of at page is = ap is_some is

pub at_inside : (pages : List (Option ℕ)) (i page : ℕ) → get_or pages i None ≡ Some page → i < length pages
at_inside pages i page at =
    elim (cases_lt i (length pages)) [ inl inside ↦ inside | inr past ↦ let gone : get_or pages i None ≡ None = get_or_past pages i None past in absurd cc ]

-- the place of a page has it, if any does
place_has : (pages : List (Option ℕ)) (page : ℕ) → place_of pages page < length pages → get_or pages (place_of pages page) None ≡ Some page
place_has [] page below = absurd (omega arith)
place_has (x ∷ xs) page below = at (has_page page x) refl (place_has xs page) below
  where
    at : (b : Bool) → has_page page x ≡ b → (place_of xs page < length xs → get_or xs (place_of xs page) None ≡ Some page) → cond b 0 (place_of xs page + 1) < suc (length xs) → get_or (x ∷ xs) (cond b 0 (place_of xs page + 1)) None ≡ Some page
    at true here more low = has_is page x here
    at false here more low = rw add-one (more (omega arith))

place_inside : (pages : List (Option ℕ)) (i page : ℕ) → get_or pages i None ≡ Some page → place_of pages page < length pages
place_inside [] i page at = absurd cc
place_inside (x ∷ xs) zero page at = let e : x ≡ Some page = at in rw (e, is_has page) (omega arith)
place_inside (x ∷ xs) (suc i) page at = both (has_page page x) (place_inside xs i page at)
  where
    both : (b : Bool) → place_of xs page < length xs → cond b 0 (place_of xs page + 1) < suc (length xs)
    both true low = omega arith
    both false low = omega arith

pub entered_at : (pages : List (Option ℕ)) (before : List (List Bool)) (i page : ℕ) → get_or pages i None ≡ Some page → is_entered (graph pages before) page ≡ true
unfolding is_entered
entered_at pages before i page at = lt-ltb (place_of pages page) (length pages) (place_inside pages i page at)

pub at_entered : (pages : List (Option ℕ)) (before : List (List Bool)) (page : ℕ) → is_entered (graph pages before) page ≡ true → (i : ℕ) × (get_or pages i None ≡ Some page)
unfolding is_entered
at_entered pages before page entered = (place_of pages page, place_has pages page (ltb-true (place_of pages page) (length pages) entered))

pub not_entered : (pages : List (Option ℕ)) (before : List (List Bool)) (page : ℕ) → ((i : ℕ) → get_or pages i None ≢ Some page) → is_entered (graph pages before) page ≡ false
not_entered pages before page nowhere = false_from_ne_true _ (λ entered. let at = at_entered pages before page entered in nowhere at.0 at.1)

-- one page is ordered before another: where they stand, and the bit that says so
pub record Link (pages : List (Option ℕ)) (before : List (List Bool)) (a b : ℕ) : Type 0 where
  pub from : ℕ
  pub to : ℕ
  pub at_from : get_or pages from None ≡ Some a
  pub at_to : get_or pages to None ≡ Some b
  pub linked : bit before to from ≡ true

pub link_of : (pages : List (Option ℕ)) (before : List (List Bool)) (a b : ℕ) → is_ordered (graph pages before) a b ≡ true → Link pages before a b
unfolding is_ordered is_entered
link_of pages before a b ordered =
    let parts = and_parts _ _ ordered in
    let more = and_parts _ _ parts.1 in
    record {
      from = place_of pages a;
      to = place_of pages b;
      at_from = place_has pages a (ltb-true _ _ parts.0);
      at_to = place_has pages b (ltb-true _ _ more.0);
      linked = more.1;
    }

pub link_is : (pages : List (Option ℕ)) (before : List (List Bool)) → Once pages → (a b : ℕ) → Link pages before a b → is_ordered (graph pages before) a b ≡ true
unfolding is_ordered is_entered
link_is pages before once a b link =
    let low_a = place_inside pages link.from a link.at_from in
    let low_b = place_inside pages link.to b link.at_to in
    let same_a : place_of pages a ≡ link.from = once _ _ a (place_has pages a low_a) link.at_from in
    let same_b : place_of pages b ≡ link.to = once _ _ b (place_has pages b low_b) link.at_to in
    and_from _ _ (lt-ltb _ _ low_a) (and_from _ _ (lt-ltb _ _ low_b) (rw (same_a, same_b) link.linked))

-- precedence between pages is precedence between their places
module _ (pages : List (Option ℕ)) (before : List (List Bool)) (once : Once pages) (used : Used pages before) where
  pub places_of : (a b : ℕ) → Precedes (is_ordered (graph pages before)) a b → (i j : ℕ) → get_or pages i None ≡ Some a → get_or pages j None ≡ Some b → Precedes (λ x y. bit before y x) i j
  places_of a b (directly o) i j at_a at_b =
      let link = link_of pages before a b o in
      let e : link.from ≡ i = once _ _ a link.at_from at_a in
      let f : link.to ≡ j = once _ _ b link.at_to at_b in
      directly (rw (← e, ← f) link.linked)
  places_of a c (through {b = b} x y) i j at_a at_c =
      let middle = middle_of a b x in
      through (places_of a b x i middle.0 at_a middle.1) (places_of b c y middle.0 j middle.1 at_c)
    where
      middle_of : (a b : ℕ) → Precedes (is_ordered (graph pages before)) a b → (k : ℕ) × (get_or pages k None ≡ Some b)
      middle_of a b (directly o) = let link = link_of pages before a b o in (link.to, link.at_to)
      middle_of a c (through {b = b} x y) = middle_of b c y

  pub pages_of : (i j : ℕ) → Precedes (λ x y. bit before y x) i j → (a b : ℕ) → get_or pages i None ≡ Some a → get_or pages j None ≡ Some b → Precedes (is_ordered (graph pages before)) a b
  pages_of i j (directly o) a b at_a at_b = directly (link_is pages before once a b (record { from = i; to = j; at_from = at_a; at_to = at_b; linked = o }))
  pages_of i k (through {b = j} x y) a c at_a at_c =
      let middle = middle_at i j x in
      through (pages_of i j x a middle.0 at_a middle.1) (pages_of j k y middle.0 c middle.1 at_c)
    where
      middle_at : (i j : ℕ) → Precedes (λ x y. bit before y x) i j → (b : ℕ) × (get_or pages j None ≡ Some b)
      middle_at i j (directly o) = some_page (get_or pages j None) (used i j o).1
      middle_at i k (through {b = j} x y) = middle_at j k y

-- how many places have a page
abbrev counted : Option ℕ → ℕ
counted at = cond (is_some at) 1 0

pub count_enter : (pages : List (Option ℕ)) (i page : ℕ) → i < length pages → get_or pages i (Some 0) ≡ None → count_by is_some (set pages i (Some page)) ≡ count_by is_some pages + 1
count_enter pages i page below free =
    let e : sum_by counted (set pages i (Some page)) + counted (get_or pages i (Some 0)) ≡ sum_by counted pages + 1 = sum_by-set counted pages i (Some page) (Some 0) below in
    let f : counted (get_or pages i (Some 0)) ≡ 0 = ap counted free in
    omega (arith, e, f)

pub count_clear : (pages : List (Option ℕ)) (i page : ℕ) → get_or pages i None ≡ Some page → count_by is_some pages ≡ count_by is_some (set pages i None) + 1
count_clear pages i page at =
    let e : sum_by counted (set pages i None) + counted (get_or pages i None) ≡ sum_by counted pages + 0 = sum_by-set counted pages i None None (at_inside pages i page at) in
    let f : counted (get_or pages i None) ≡ 1 = ap counted at in
    omega (arith, e, f)

pub count_full : (pages : List (Option ℕ)) → ((i : ℕ) → i < length pages → get_or pages i None ≢ None) → count_by is_some pages ≡ length pages
count_full [] full = refl
count_full (None ∷ xs) full = absurd (full 0 (omega arith) refl)
count_full (Some p ∷ xs) full =
    let more = count_full xs (λ i below. full (suc i) (omega arith)) in
    let e : sum_by counted (Some p ∷ xs) ≡ 1 + sum_by counted xs = sum_by-cons counted (Some p) xs in
    omega (arith, more, e)
