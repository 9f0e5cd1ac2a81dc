-- A batch is lawful whose orders lead upward by a rank of the pages, and which has the later page of each.
use Rattle.std.proofs.Common.{◌≡◌, ◌≢◌, ◌⊎◌, inl, inr, ◌∙◌, ◌≤◌, ◌<◌, ◌+◌, ◌++◌, ◌∷◌, [], ℕ, Bool, true, false, List, Option, None, Some, length, refl, sym, ap, subst, arith, is_some}
use Rattle.std.specs.Prelude.{◌||◌, ◌&&◌, ◌==◌, if◌then◌else◌}
use Rattle.std.proofs.lemmas.Bool.{and_parts, cases_eq, eqb-true, eqb-false, or_cases}
use Rattle.mg_careful.specs.Precedence.{Precedes, directly, through}
use Rattle.mg_careful.specs.declared.graph.Order.{Order}
use Rattle.mg_chain.specs.Orders.{before_page}
use Rattle.mg_heap.specs.Growth.{AddsOrders, before, orders_to}
use Rattle.mg_image.specs.Inventory.{inventory_page}
use Rattle.mg_image.specs.Tables.{Has}
use Rattle.mg_pool.specs.Batch.{Changed, IsLawful, PutsPage, content_in, is_in, lists}
use Rattle.mg_pool.specs.declared.batch.BatchPage.{BatchPage}
use Rattle.mg_space.specs.Taking.{region_of}

-- A batch has so many pages at most, each as long as a page; the later page of each order is in it, and has a
-- higher rank than the first.
pub record IsGood (size : ℕ) (rank : ℕ → ℕ) (most : ℕ) (b : Changed) : Type 0 where
  pub few : length b.pages ≤ most
  pub whole : (page : ℕ) (bytes : List ℕ) → content_in b.pages page ≡ Some bytes → length bytes ≡ size
  pub rises : (x y : ℕ) → lists b.orders x y ≡ true → rank x < rank y
  pub later_in : (x y : ℕ) → lists b.orders x y ≡ true → is_in b.pages y ≡ true

-- so it is lawful
rises_far : (b : Changed) (rank : ℕ → ℕ) → ((x y : ℕ) → lists b.orders x y ≡ true → rank x < rank y) → (x y : ℕ)
    → Precedes (lists b.orders) x y → rank x < rank y
rises_far b rank each x y (directly is) = each x y is
rises_far b rank each x y (through {b = z} first later) =
    let left = rises_far b rank each x z first in
    let right = rises_far b rank each z y later in omega (arith, left, right)

pub good_lawful : (size : ℕ) (rank : ℕ → ℕ) (most : ℕ) (b : Changed) → IsGood size rank most b → most ≤ 256
    → IsLawful size b.pages b.orders
good_lawful size rank most b good short = record {
  few = let few = good.few in omega (arith, few, short);
  whole = good.whole;
  acyclic = λ page cycle. let up = rises_far b rank good.rises page page cycle in omega (arith, up);
  later_in = good.later_in;
}

pub good_more : (size : ℕ) (rank : ℕ → ℕ) (some most : ℕ) (b : Changed) → IsGood size rank some b → some ≤ most
    → IsGood size rank most b
good_more size rank some most b good less = record {
  few = let few = good.few in omega (arith, few, less);
  whole = good.whole;
  rises = good.rises;
  later_in = good.later_in;
}

-- a batch that has nothing
pub good_none : (size : ℕ) (rank : ℕ → ℕ) → IsGood size rank 0 (record { pages = []; orders = [] })
good_none size rank = record {
  few = omega arith;
  whole = λ page bytes is. none bytes is;
  rises = λ x y is. absurd (let no : false ≡ true = is in cc);
  later_in = λ x y is. absurd (let no : false ≡ true = is in cc);
}
  where
    none : (bytes : List ℕ) → None ≡ Some bytes → length bytes ≡ size
    none bytes is = absurd cc

-- ---- a page is put

module _ (old new : Changed) (page : ℕ) (bytes : List ℕ) (puts : PutsPage old new page bytes) where
  pub in_here : is_in new.pages page ≡ true
  in_here = ap (λ (c : Option (List ℕ)). is_some c) puts.here

  pub in_still : (y : ℕ) → is_in old.pages y ≡ true → is_in new.pages y ≡ true
  in_still y was = at (cases_eq y page)
    where
      at : (y ≡ page) ⊎ (y ≢ page) → is_in new.pages y ≡ true
      at (inl same) = ap (is_in new.pages) same ∙ in_here
      at (inr other) = ap (λ (c : Option (List ℕ)). is_some c) (puts.others y other) ∙ was

  count_most : (most : ℕ) (b : Bool) → length new.pages ≡ (if b then length old.pages else (length old.pages + 1))
      → length old.pages ≤ most → length new.pages ≤ most + 1
  count_most most true is few = omega (arith, is, few)
  count_most most false is few = omega (arith, is, few)

  pub good_puts : (size : ℕ) (rank : ℕ → ℕ) (most : ℕ) → IsGood size rank most old → length bytes ≡ size
      → IsGood size rank (most + 1) new
  good_puts size rank most good len = record {
    few = count_most most (is_in old.pages page) puts.count good.few;
    whole = λ other content is. whole_at other content is (cases_eq other page);
    rises = λ x y is. good.rises x y (listed x y is);
    later_in = λ x y is. in_still y (good.later_in x y (listed x y is));
  }
    where
      listed : (x y : ℕ) → lists new.orders x y ≡ true → lists old.orders x y ≡ true
      listed x y is = subst (λ (os : List Order). lists os x y ≡ true) puts.same_orders is

      one : (content : List ℕ) → Some bytes ≡ Some content → length content ≡ size
      one content is = let same : bytes ≡ content = cc in subst (λ (c : List ℕ). length c ≡ size) same len

      whole_at : (other : ℕ) (content : List ℕ) → content_in new.pages other ≡ Some content
          → (other ≡ page) ⊎ (other ≢ page) → length content ≡ size
      whole_at other content is (inl same) = one content (sym puts.here ∙ (ap (content_in new.pages) (sym same) ∙ is))
      whole_at other content is (inr ne) = good.whole other content (sym (puts.others other ne) ∙ is)

-- ---- orders are added

pub lists_split : (first later : List Order) (x y : ℕ) → lists (first ++ later) x y ≡ true
    → (lists first x y ≡ true) ⊎ (lists later x y ≡ true)
lists_split [] later x y is = inr is
lists_split (o ∷ os) later x y is = at (o.first == x && o.later == y) is (λ more. lists_split os later x y more)
  where
    at : (b : Bool) → (b || lists (os ++ later) x y) ≡ true
        → (lists (os ++ later) x y ≡ true → (lists os x y ≡ true) ⊎ (lists later x y ≡ true))
        → ((b || lists os x y) ≡ true) ⊎ (lists later x y ≡ true)
    at true is_ more = inl refl
    at false is_ more = more is_

-- each of these orders leads upward, and its later page is in a batch
pub record AreGood (rank : ℕ → ℕ) (b : Changed) (orders : List Order) : Type 0 where
  pub rise : (x y : ℕ) → lists orders x y ≡ true → rank x < rank y
  pub are_in : (x y : ℕ) → lists orders x y ≡ true → is_in b.pages y ≡ true

pub good_both : (rank : ℕ → ℕ) (b : Changed) (first later : List Order) → AreGood rank b first
    → AreGood rank b later → AreGood rank b (first ++ later)
good_both rank b first later one two = record {
  rise = λ x y is. elim (lists_split first later x y is) [ inl l ↦ one.rise x y l | inr r ↦ two.rise x y r ];
  are_in = λ x y is. elim (lists_split first later x y is) [ inl l ↦ one.are_in x y l | inr r ↦ two.are_in x y r ];
}

pub good_orders : (size : ℕ) (rank : ℕ → ℕ) (most : ℕ) (old new : Changed) (orders : List Order)
    → IsGood size rank most old → AddsOrders old new orders → AreGood rank old orders → IsGood size rank most new
good_orders size rank most old new orders good adds are = record {
  few = subst (λ (ps : List BatchPage). length ps ≤ most) (sym adds.same_pages) good.few;
  whole = λ page bytes is. good.whole page bytes
      (subst (λ (ps : List BatchPage). content_in ps page ≡ Some bytes) adds.same_pages is);
  rises = λ x y is. elim (parts x y is) [ inl was ↦ good.rises x y was | inr now ↦ are.rise x y now ];
  later_in = λ x y is. subst (λ (ps : List BatchPage). is_in ps y ≡ true) (sym adds.same_pages)
      (elim (parts x y is) [ inl was ↦ good.later_in x y was | inr now ↦ are.are_in x y now ]);
}
  where
    parts : (x y : ℕ) → lists new.orders x y ≡ true → (lists old.orders x y ≡ true) ⊎ (lists orders x y ≡ true)
    parts x y is = lists_split old.orders orders x y (subst (λ (os : List Order). lists os x y ≡ true) adds.added is)

-- ---- which orders are listed

-- an order to a page that comes to name another one, which was taken
pub record IsOrderTo (size n later x y : ℕ) : Type 0 where
  pub at_last : y ≡ later
  pub first : (x ≡ inventory_page size (region_of size n)) ⊎ (x ≡ n)

listed_once : (a c x y : ℕ) (rest : List Order) → lists (before a c ∷ rest) x y ≡ true
    → ((x ≡ a) × (y ≡ c)) ⊎ (lists rest x y ≡ true)
listed_once a c x y rest is = elim (or_cases (a == x && c == y) (lists rest x y) is) [
  | inl here ↦ inl (
    sym (eqb-true a x (and_parts (a == x) (c == y) here).0),
    sym (eqb-true c y (and_parts (a == x) (c == y) here).1),
  )
  | inr more ↦ inr more
]

listed_none : (x y : ℕ) → lists [] x y ≡ true → ⊥
listed_none x y is = let no : false ≡ true = is in cc

pub order_to : (size n later x y : ℕ) → lists (orders_to size n later) x y ≡ true → IsOrderTo size n later x y
order_to size n later x y is = elim (listed_once (inventory_page size (region_of size n)) later x y
    (before n later ∷ []) is) [
      | inl bit ↦ record { at_last = bit.1; first = inl bit.0 }
      | inr more ↦ elim (listed_once n later x y [] more) [
        | inl page ↦ record { at_last = page.1; first = inr page.0 }
        | inr none ↦ absurd (listed_none x y none)
      ]
    ]

-- an order of one of these pages before another page
pub record IsBefore (ns : List ℕ) (later x y : ℕ) : Type 0 where
  pub at_last : y ≡ later
  pub apart : x ≢ later
  pub listed : Has ns x

pub before_is : (ns : List ℕ) (later x y : ℕ) → lists (before_page ns later) x y ≡ true → IsBefore ns later x y
before_is [] later x y is = absurd (listed_none x y is)
before_is (n ∷ ns) later x y is = at (n == later) refl is (before_is ns later x y)
  where
    further : IsBefore ns later x y → IsBefore (n ∷ ns) later x y
    further it = record { at_last = it.at_last; apart = it.apart; listed = inr it.listed }

    at : (b : Bool) → (n == later) ≡ b
        → lists (if b then before_page ns later else before n later ∷ before_page ns later) x y ≡ true
        → (lists (before_page ns later) x y ≡ true → IsBefore ns later x y) → IsBefore (n ∷ ns) later x y
    at true same is_ more = further (more is_)
    at false other is_ more = elim (listed_once n later x y (before_page ns later) is_) [
      | inl here ↦ record {
        at_last = here.1;
        apart = λ e. eqb-false n later other (sym here.0 ∙ e);
        listed = inl here.0;
      }
      | inr there ↦ further (more there)
    ]

-- orders before a page that is in a batch, each from a page of a lower rank
pub good_before : (rank : ℕ → ℕ) (b : Changed) (ns : List ℕ) (later : ℕ) → is_in b.pages later ≡ true
    → ((x : ℕ) → Has ns x → x ≢ later → rank x < rank later) → AreGood rank b (before_page ns later)
good_before rank b ns later there less = record {
  rise = λ x y is. let it = before_is ns later x y is in
      subst (λ (k : ℕ). rank x < rank k) (sym it.at_last) (less x it.listed it.apart);
  are_in = λ x y is. subst (λ (k : ℕ). is_in b.pages k ≡ true) (sym (before_is ns later x y is).at_last) there;
}

-- orders to a page that is in a batch
pub good_to : (rank : ℕ → ℕ) (b : Changed) (size n later : ℕ) → is_in b.pages later ≡ true
    → rank (inventory_page size (region_of size n)) < rank later → rank n < rank later
    → AreGood rank b (orders_to size n later)
good_to rank b size n later there bit page = record {
  rise = λ x y is. let it = order_to size n later x y is in
      subst (λ (k : ℕ). rank x < rank k) (sym it.at_last) (elim it.first [
        | inl same ↦ subst (λ (k : ℕ). rank k < rank later) (sym same) bit
        | inr same ↦ subst (λ (k : ℕ). rank k < rank later) (sym same) page
      ]);
  are_in = λ x y is. subst (λ (k : ℕ). is_in b.pages k ≡ true) (sym (order_to size n later x y is).at_last) there;
}
