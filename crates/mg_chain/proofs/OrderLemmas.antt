-- Orders that a batch gets one after another.
use Rattle.std.proofs.Common.{◌≡◌, ◌≢◌, ◌++◌, ◌∷◌, [], ◌∙◌, ℕ, true, false, List, Option, None, Some, append-nil, append_assoc, arith, length, refl, sym, ap, subst}
use Rattle.std.proofs.lemmas.Bool.{cases_eq, eq-eqb, ne_eqb}
use Rattle.std.specs.Prelude.{◌⊎◌, ◌==◌}
use Rattle.std.proofs.Common.{inl, inr}
use Rattle.mg_careful.specs.declared.graph.Order.{Order}
use Rattle.mg_heap.specs.Growth.{AddsOrders, before}
use Rattle.mg_pool.specs.Batch.{Changed, is_in}
use Rattle.mg_pool.specs.declared.batch.BatchPage.{BatchPage}
use Rattle.mg_version.specs.declared.cell.Link.{Link}
use Rattle.mg_chain.specs.Orders.{before_page, unchanged_page}

-- no orders
pub no_orders : (batch : Changed) (orders : List Order) → orders ≡ [] → AddsOrders batch batch orders
no_orders batch orders none = subst (λ (os : List Order). AddsOrders batch batch os) (sym none) (record {
  same_pages = refl;
  added = sym (append-nil batch.orders);
})

-- orders behind orders
pub orders_then : (old mid new : Changed) (first second : List Order) → AddsOrders old mid first
    → AddsOrders mid new second → AddsOrders old new (first ++ second)
orders_then old mid new first second one two = record {
  same_pages = two.same_pages ∙ one.same_pages;
  added = two.added ∙ (ap (λ (orders : List Order). orders ++ second) one.added
      ∙ append_assoc old.orders first second);
}

pub itself : (first later : ℕ) → first ≡ later → before_page (first ∷ []) later ≡ []
itself first later same = let is : (first == later) ≡ true = eq-eqb first later same in rw is refl

pub another : (first later : ℕ) → first ≢ later
    → before_page (first ∷ []) later ≡ before first later ∷ []
another first later other = let is : (first == later) ≡ false = ne_eqb first later other in rw is refl

pub one_order : (old new : Changed) (first later : ℕ) → first ≢ later → new.pages ≡ old.pages
    → new.orders ≡ old.orders ++ before first later ∷ []
    → AddsOrders old new (before_page (first ∷ []) later)
one_order old new first later other pages orders = record {
  same_pages = pages;
  added = orders ∙ ap (λ (os : List Order). old.orders ++ os) (sym (another first later other));
}

-- the first of some pages, and then the others
pub before_more : (first later : ℕ) (more : List ℕ)
    → before_page (first ∷ more) later ≡ before_page (first ∷ []) later ++ before_page more later
before_more first later more = at (cases_eq first later)
  where
    at : (first ≡ later) ⊎ (first ≢ later)
        → before_page (first ∷ more) later ≡ before_page (first ∷ []) later ++ before_page more later
    at (inl same) = let is : (first == later) ≡ true = eq-eqb first later same in rw is refl
    at (inr other) = let is : (first == later) ≡ false = ne_eqb first later other in rw is refl

-- one page more has been ordered
pub before_further : (mid new : Changed) (start all rest more : List ℕ) (orders : List Order)
    (first later : ℕ) → rest ≡ first ∷ more → mid.orders ++ before_page rest later ≡ orders
    → AddsOrders mid new (before_page (first ∷ []) later)
    → new.orders ++ before_page more later ≡ orders
before_further mid new start all rest more orders first later opens before_ adds =
    ap (λ (os : List Order). os ++ before_page more later) adds.added
    ∙ (append_assoc mid.orders (before_page (first ∷ []) later) (before_page more later)
    ∙ (ap (λ (os : List Order). mid.orders ++ os)
    (sym (ap (λ (ns : List ℕ). before_page ns later) opens ∙ before_more first later more)) ∙ before_))

pub empty_list : (ns : List ℕ) → length ns ≡ 0 → ns ≡ []
empty_list [] none = refl
empty_list (n ∷ ns) none = absurd (omega (arith, none))

pub before_done : (old new : Changed) (all rest : List ℕ) (later : ℕ) → rest ≡ []
    → new.pages ≡ old.pages
    → new.orders ++ before_page rest later ≡ old.orders ++ before_page all later
    → AddsOrders old new (before_page all later)
before_done old new all rest later empty pages orders = record {
  same_pages = pages;
  added = sym (append-nil new.orders)
      ∙ (ap (λ (ns : List ℕ). new.orders ++ before_page ns later) (sym empty) ∙ orders);
}

-- ---- the page of a link

pub unchanged_none : (batch : Changed) (back : Option Link) (later : ℕ) → back ≡ None
    → AddsOrders batch batch (before_page (unchanged_page batch.pages back) later)
unchanged_none batch back later none = no_orders batch (before_page (unchanged_page batch.pages back) later)
    (ap (λ (o : Option Link). before_page (unchanged_page batch.pages o) later) none)

pub unchanged_in : (batch : Changed) (back : Option Link) (link : Link) (later : ℕ) → back ≡ Some link
    → is_in batch.pages link.rec.page.0 ≡ true
    → AddsOrders batch batch (before_page (unchanged_page batch.pages back) later)
unchanged_in batch back link later some is = no_orders batch
    (before_page (unchanged_page batch.pages back) later)
    (ap (λ (o : Option Link). before_page (unchanged_page batch.pages o) later) some ∙ rw is refl)

pub unchanged_out : (old new : Changed) (back : Option Link) (link : Link) (later : ℕ)
    → back ≡ Some link → is_in old.pages link.rec.page.0 ≡ false
    → AddsOrders old new (before_page (link.rec.page.0 ∷ []) later)
    → AddsOrders old new (before_page (unchanged_page old.pages back) later)
unchanged_out old new back link later some is adds =
    subst (λ (ns : List ℕ). AddsOrders old new (before_page ns later)) (sym page) adds
  where
    page : unchanged_page old.pages back ≡ link.rec.page.0 ∷ []
    page = ap (unchanged_page old.pages) some ∙ rw is refl

pub unchanged_as : (mid new : Changed) (pages : List BatchPage) (back : Option Link) (later : ℕ)
    → mid.pages ≡ pages → AddsOrders mid new (before_page (unchanged_page mid.pages back) later)
    → AddsOrders mid new (before_page (unchanged_page pages back) later)
unchanged_as mid new pages back later same adds = subst (λ (ps : List BatchPage).
    AddsOrders mid new (before_page (unchanged_page ps back) later)) same adds
