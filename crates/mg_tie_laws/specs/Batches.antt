-- A batch as it grows: what it has of pages and orders stays in the whole of it.
use Rattle.std.proofs.Common.{◌≡◌, ◌≢◌, ◌⊎◌, inl, inr, ap, sym, ◌∙◌, refl, ℕ, Bool, true, false, List, [], ◌∷◌, ◌++◌, Option, None, Some}
use Rattle.std.specs.Prelude.{◌||◌, ◌&&◌, ◌==◌, unwrap_or}
use Rattle.std.proofs.lemmas.Bool.{cases_eq, eq-eqb}
use Rattle.mg_base.specs.Image.{Image}
use Rattle.mg_careful.specs.Precedence.{Orders}
use Rattle.mg_careful.specs.declared.graph.Order.{Order}
use Rattle.mg_pool.specs.Batch.{Changed, PutsPage, content_in, lists}
use Rattle.mg_pool.specs.declared.batch.BatchPage.{BatchPage}
use Rattle.mg_pool.specs.Pool.{shown}
use Rattle.mg_pool.specs.declared.pool.Pool.{Pool}
use Rattle.mg_space.specs.View.{viewed}
use Rattle.mg_heap.specs.Growth.{before}

-- a batch has a content of a page
abbrev pub HasContent : Changed → ℕ → Type 0
HasContent b m = (bytes : List ℕ) × (content_in b.pages m ≡ Some bytes)

-- The whole of a batch has these pages and these orders.
pub record IsWithin (batch : ℕ → Option (List ℕ)) (orders : Orders) (b : Changed) : Type 0 where
  pub pages : (m : ℕ) → HasContent b m → batch m ≢ None
  pub listed : (a c : ℕ) → lists b.orders a c ≡ true → orders a c ≡ true

or_right : (a : Bool) → (a || true) ≡ true
or_right true = refl
or_right false = refl

-- orders that come to a list are in it
pub lists_later : (first later : List Order) (a c : ℕ) → lists later a c ≡ true
    → lists (first ++ later) a c ≡ true
lists_later [] later a c is = is
lists_later (o ∷ os) later a c is =
    rw (lists_later os later a c is) (or_right (o.first == a && o.later == c))

pub lists_sooner : (first later : List Order) (a c : ℕ) → lists first a c ≡ true
    → lists (first ++ later) a c ≡ true
lists_sooner [] later a c is = absurd cc
lists_sooner (o ∷ os) later a c is =
    at (o.first == a && o.later == c) is (λ more. lists_sooner os later a c more)
  where
    at : (b : Bool) → (b || lists os a c) ≡ true
        → (lists os a c ≡ true → lists (os ++ later) a c ≡ true)
        → (b || lists (os ++ later) a c) ≡ true
    at true is_ more = refl
    at false is_ more = more is_

pub lists_head : (a c : ℕ) (rest : List Order) → lists (before a c ∷ rest) a c ≡ true
lists_head a c rest = rw (eq-eqb a a refl, eq-eqb c c refl) refl

pub lists_tail : (o : Order) (rest : List Order) (a c : ℕ) → lists rest a c ≡ true
    → lists (o ∷ rest) a c ≡ true
lists_tail o rest a c is = rw is (or_right (o.first == a && o.later == c))

-- a page that is put comes to a batch, and no other goes
pub has_here : (old new : Changed) (page : ℕ) (bytes : List ℕ) → PutsPage old new page bytes
    → HasContent new page
has_here old new page bytes puts = (bytes, puts.here)

pub has_on : (old new : Changed) (page : ℕ) (bytes : List ℕ) → PutsPage old new page bytes → (m : ℕ)
    → HasContent old m → HasContent new m
has_on old new page bytes puts m has = at (cases_eq m page) has
  where
    at : (m ≡ page) ⊎ (m ≢ page) → HasContent old m → HasContent new m
    at (inl same) was = (bytes, ap (content_in new.pages) same ∙ puts.here)
    at (inr ne) (content, is) = (content, puts.others m ne ∙ is)

pub has_same : (old new : Changed) (m : ℕ) → new.pages ≡ old.pages → HasContent old m
    → HasContent new m
has_same old new m same (content, is) =
    (content, ap (λ (pages : List BatchPage). content_in pages m) same ∙ is)

-- orders alone come to a batch: one sees the same pages
pub viewed_same : {D L : Type 0} (store : Pool D L) (image : Image) (old new : Changed)
    → new.pages ≡ old.pages → viewed store image new ≡ viewed store image old
viewed_same store image old new same = ap (λ (pages : List BatchPage). λ (n : ℕ).
    unwrap_or (content_in pages n) (shown store.dirty image n)) same

-- a batch is within itself
pub within_self : (b : Changed) → IsWithin (content_in b.pages) (lists b.orders) b
within_self b = record { pages = λ m has. at m has; listed = λ a c is. is }
  where
    at : (m : ℕ) → HasContent b m → content_in b.pages m ≢ None
    at m (bytes, is) none_ = let both : Some bytes ≡ None = sym is ∙ none_ in absurd cc
