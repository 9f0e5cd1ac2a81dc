-- Orders of a batch, and its pages as viewed.
use Rattle.std.specs.Prelude.{◌≡◌, ◌⊎◌, ◌&&◌, ◌==◌, ◌++◌, ℕ, Bool, true, false, List, [], ◌∷◌, unwrap_or, if◌then◌else◌}
use Rattle.std.proofs.Common.{inl, inr, refl, sym, ap, subst, ◌∙◌}
use Rattle.std.proofs.lemmas.Bool.{and_from, eq-eqb, eqb-true, or_cases, or_left, or_right}
use Rattle.mg_base.specs.Image.{Image}
use Rattle.mg_careful.specs.Precedence.{Orders}
use Rattle.mg_careful.specs.declared.graph.Order.{Order}
use Rattle.mg_chain.specs.Orders.{before_page}
use Rattle.mg_heap.specs.Growth.{AddsOrders, before, orders_to}
use Rattle.mg_image.specs.Tables.{Has}
use Rattle.mg_image.specs.Inventory.{inventory_page}
use Rattle.mg_pool.specs.Batch.{Changed, content_in, lists}
use Rattle.mg_pool.specs.Pool.{shown}
use Rattle.mg_pool.specs.declared.batch.BatchPage.{BatchPage}
use Rattle.mg_pool.specs.declared.pool.Pool.{Pool}
use Rattle.mg_space.specs.Taking.{region_of}
use Rattle.mg_space.specs.View.{viewed}

-- these orders have all those of a batch
abbrev pub HaveOrders : Orders → Changed → Type 0
HaveOrders orders b = (a c : ℕ) → lists b.orders a c ≡ true → orders a c ≡ true

pub lists_later : (first later : List Order) (a c : ℕ) → lists later a c ≡ true
    → lists (first ++ later) a c ≡ true
lists_later [] later a c is = is
lists_later (o ∷ os) later a c is = or_right (o.first == a && o.later == c) _ (lists_later os later a c is)

pub lists_sooner : (first later : List Order) (a c : ℕ) → lists first a c ≡ true
    → lists (first ++ later) a c ≡ true
lists_sooner [] later a c is = absurd cc
lists_sooner (o ∷ os) later a c is = elim (or_cases (o.first == a && o.later == c) (lists os a c) is) [
  | inl here ↦ or_left _ _ here
  | inr more ↦ or_right (o.first == a && o.later == c) _ (lists_sooner os later a c more)
]

-- what a batch has of orders at its end, it has in all
pub have_sooner : (orders : Orders) (old new : Changed) (os : List Order) → AddsOrders old new os
    → HaveOrders orders new → HaveOrders orders old
have_sooner orders old new os adds have a c is = have a c
    (subst (λ (l : List Order). lists l a c ≡ true) (sym adds.added) (lists_sooner old.orders os a c is))

pub have_added : (orders : Orders) (old new : Changed) (os : List Order) → AddsOrders old new os
    → HaveOrders orders new → (a c : ℕ) → lists os a c ≡ true → orders a c ≡ true
have_added orders old new os adds have a c is = have a c
    (subst (λ (l : List Order). lists l a c ≡ true) (sym adds.added) (lists_later old.orders os a c is))

pub have_same : (orders : Orders) (old new : Changed) → new.orders ≡ old.orders → HaveOrders orders new
    → HaveOrders orders old
have_same orders old new same have a c is =
    have a c (subst (λ (l : List Order). lists l a c ≡ true) (sym same) is)

pub lists_head : (a c : ℕ) (rest : List Order) → lists (before a c ∷ rest) a c ≡ true
lists_head a c rest = or_left _ _ (and_from _ _ (eq-eqb a a refl) (eq-eqb c c refl))

-- each of these pages is another page, or is ordered before it
pub before_in : (ns : List ℕ) (k later : ℕ) → Has ns k
    → (k ≡ later) ⊎ (lists (before_page ns later) k later ≡ true)
before_in [] k later h = absurd h
before_in (n ∷ ns) k later h = at (n == later) refl h (before_in ns k later)
  where
    at : (b : Bool) → (n == later) ≡ b → Has (n ∷ ns) k
        → (Has ns k → (k ≡ later) ⊎ (lists (before_page ns later) k later ≡ true))
        → (k ≡ later) ⊎ (lists (if b then before_page ns later else before n later ∷ before_page ns later) k later ≡ true)
    at true is (inl here) more = inl (here ∙ eqb-true n later is)
    at true is (inr there) more = more there
    at false is (inl here) more = inr (or_left _ _ (and_from _ _ (eq-eqb n k (sym here)) (eq-eqb later later refl)))
    at false is (inr there) more = elim (more there) [
      | inl same ↦ inl same
      | inr order ↦ inr (or_right (n == k && later == later) _ order)
    ]

-- a batch whose orders alone have changed is viewed as it was
pub viewed_same : {D L : Type 0} (store : Pool D L) (image : Image) (old new : Changed)
    → new.pages ≡ old.pages → viewed store image new ≡ viewed store image old
viewed_same store image old new same = ap (λ (pages : List BatchPage). λ (n : ℕ).
    unwrap_or (content_in pages n) (shown store.dirty image n)) same

-- the orders of a page that comes to name another one
pub page_before : (size n later : ℕ) → lists (orders_to size n later) n later ≡ true
page_before size n later = or_right (inventory_page size (region_of size n) == n && later == later) _
    (lists_head n later [])

pub bit_before : (size n later : ℕ)
    → lists (orders_to size n later) (inventory_page size (region_of size n)) later ≡ true
bit_before size n later = lists_head (inventory_page size (region_of size n)) later (before n later ∷ [])
