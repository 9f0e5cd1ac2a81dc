-- Marks of a batch: a page that is marked doesn't precede itself; where no other page is free, all are
-- marked, or some page precedes itself.
use Rattle.std.proofs.Common.{◌≡◌, ◌<◌, ◌≤◌, ℕ, suc, zero, Bool, true, false, ◌⊎◌, inl, inr, List, [], ◌∷◌, length, get_or, set, replicate, Option, Some, None, is_some, arith, sym, ◌∙◌, ap, refl, subst}
use Rattle.std.proofs.lemmas.Bool.{cases_Bool, cases_eq, cases_lt, eq-eqb, ne_eqb}
use Rattle.std.specs.Prelude.{IsTrue, ◌↔◌}
use Rattle.std.proofs.lemmas.List.{get_or-set_other, get_or-replicate, get_or_past, length-replicate}
use Rattle.mg_careful.specs.declared.graph.Order.{Order}
use Rattle.mg_careful.specs.Precedence.{Orders, Precedes, directly, through}
use Rattle.mg_careful.specs.PrecedenceLaws.{precedes_later}
use Rattle.mg_pool.specs.declared.batch.BatchPage.{BatchPage}
use Rattle.mg_pool.specs.declared.batch.TheConstants.{BATCH_PAGES}
use Rattle.mg_pool.specs.Batch.{Changed, IsLawful, IsOnce, content_in, is_in, lists, order_at}
use Rattle.mg_pool.specs.Lawful.{page_in, AreLong, HasLater, HasNoCycle, IsWaiting, IsFree, MarksFree}
use Rattle.mg_pool.proofs.BatchLemmas.{content_at}
use Rattle.mg_pool.proofs.OrderLemmas.{listed_at, at_listed}

-- the content of a page stands at some place
pub content_place : (pages : List BatchPage) (page : ℕ) (bytes : List ℕ) → content_in pages page ≡ Some bytes → (i : ℕ) × (i < length pages) × ((d : BatchPage) → (get_or pages i d).page ≡ page) × ((d : BatchPage) → (get_or pages i d).bytes ≡ bytes)
content_place [] page bytes there = absurd cc
content_place (x ∷ xs) page bytes there = elim (cases_eq x.page page) [
  | inl e ↦ (0, omega arith, λ d. e, λ d. some (rw (eq-eqb x.page page e) at there))
  | inr apart ↦
      let found = content_place xs page bytes (rw (ne_eqb x.page page apart) at there) in
      (suc found.0, omega (arith, found.1), found.2, found.3)
]
  where
    some : Some x.bytes ≡ Some bytes → x.bytes ≡ bytes
    some e = cc

-- a page of the batch stands at some place
pub page_place : (pages : List BatchPage) (page : ℕ) → is_in pages page ≡ true → (i : ℕ) × (i < length pages) × (page_in pages i ≡ page)
page_place pages page there = at (content_in pages page) refl there
  where
    at : (o : Option (List ℕ)) → content_in pages page ≡ o → is_some o ≡ true → (i : ℕ) × (i < length pages) × (page_in pages i ≡ page)
    at None is some = absurd cc
    at (Some bytes) is some = let found = content_place pages page bytes is in (found.0, found.1, found.2 (record { page = 0; bytes = [] }))

-- the tests of a batch make it lawful
pub lawful_from : (size : ℕ) (pages : List BatchPage) (orders : List Order) → length pages ≤ BATCH_PAGES → AreLong size pages → HasLater pages orders → HasNoCycle orders → IsLawful size pages orders
lawful_from size pages orders few long later acyclic = record {
  few = few;
  whole = λ page bytes there.
      let found = content_place pages page bytes there in
      let d : BatchPage = record { page = 0; bytes = [] } in
      ap (length {A = ℕ}) (sym (found.3 d)) ∙ long found.0 d found.1;
  acyclic = acyclic;
  later_in = later;
}

pub long_from : (size : ℕ) (pages : List BatchPage) (orders : List Order) → IsOnce pages → IsLawful size pages orders → AreLong size pages
long_from size pages orders once lawful i d inside = lawful.whole (get_or pages i d).page (get_or pages i d).bytes (content_at pages i d once inside)

-- the last order of a chain
last_order : (ordered : Orders) (p q : ℕ) → Precedes ordered p q → (a : ℕ) × (ordered a q ≡ true) × ((p ≡ a) ⊎ Precedes ordered p a)
last_order ordered p q (directly o) = (p, o, inl refl)
last_order ordered p r (through {b = q} x y) =
    let last = last_order ordered q r y in
    (last.0, last.1, inr (on last.0 last.2))
  where
    on : (a : ℕ) → (q ≡ a) ⊎ Precedes ordered q a → Precedes ordered p a
    on a (inl e) = subst (Precedes ordered p) e x
    on a (inr chain) = through x chain

-- before a page that precedes itself another such page is ordered
before_cycle : (ordered : Orders) (p : ℕ) → Precedes ordered p p → (a : ℕ) × (ordered a p ≡ true) × Precedes ordered a a
before_cycle ordered p chain =
    let last = last_order ordered p p chain in
    (last.0, last.1, at last.0 last.1 last.2)
  where
    at : (a : ℕ) → ordered a p ≡ true → (p ≡ a) ⊎ Precedes ordered p a → Precedes ordered a a
    at a o (inl e) = directly (subst (λ (x : ℕ). ordered a x ≡ true) e o)
    at a o (inr chain) = through (directly o) chain

-- a page that precedes itself is the later page of an order
cycle_in : (pages : List BatchPage) (orders : List Order) → HasLater pages orders → (page : ℕ) → Precedes (lists orders) page page → is_in pages page ≡ true
cycle_in pages orders later page chain = precedes_later (lists orders) (is_in pages) later page page chain

module _ (pages : List BatchPage) (orders : List Order) (marks : List Bool) where
  -- a page of the batch waits, or its place is marked
  waits_or_marked : (page : ℕ) → is_in pages page ≡ true → IsWaiting pages marks page ⊎ ((i : ℕ) × (page_in pages i ≡ page) × (get_or marks i false ≡ true))
  waits_or_marked page there =
      let found = page_place pages page there in
      elim (cases_Bool (get_or marks found.0 false)) [
        | inl marked ↦ inr (found.0, found.2, marked)
        | inr not_marked ↦ inl (found.0, found.1, found.2, not_marked)
      ]

  -- a free page doesn't precede itself, if no marked one does
  free_safe : HasLater pages orders → ((i : ℕ) → get_or marks i false ≡ true → Precedes (lists orders) (page_in pages i) (page_in pages i) → ⊥) → (page : ℕ) → IsFree pages orders marks page → Precedes (lists orders) page page → ⊥
  free_safe later safe page free chain =
      let before = before_cycle (lists orders) page chain in
      elim (waits_or_marked before.0 (cycle_in pages orders later before.0 before.2)) [
        | inl waits ↦
            let at = listed_at orders before.0 page before.1 in
            free at.0 at.1 at.3 (subst (IsWaiting pages marks) (sym at.2) waits)
        | inr marked ↦ safe marked.0 marked.2 (subst (λ (a : ℕ). Precedes (lists orders) a a) (sym marked.1) before.2)
      ]

  -- one mark more
  pub mark_more : HasLater pages orders → ((i : ℕ) → get_or marks i false ≡ true → Precedes (lists orders) (page_in pages i) (page_in pages i) → ⊥) → (place : ℕ) → place < length marks → IsFree pages orders marks (page_in pages place) → (i : ℕ) → get_or (set marks place true) i false ≡ true → Precedes (lists orders) (page_in pages i) (page_in pages i) → ⊥
  mark_more later safe place inside free i marked chain = elim (cases_eq i place) [
    | inl e ↦ free_safe later safe (page_in pages place) free (subst (λ (k : ℕ). Precedes (lists orders) (page_in pages k) (page_in pages k)) e chain)
    | inr apart ↦ safe i (sym (get_or-set_other marks place i true false apart) ∙ marked) chain
  ]

  -- where all pages are marked, none precedes itself
  pub all_marked : HasLater pages orders → MarksFree pages orders marks → ((i : ℕ) → i < length pages → get_or marks i false ≡ true) → HasNoCycle orders
  all_marked later marked all page chain =
      let found = page_place pages page (cycle_in pages orders later page chain) in
      marked.safe found.0 (all found.0 found.1) (subst (λ (x : ℕ). Precedes (lists orders) x x) (sym found.2) chain)

  -- a place without mark
  abbrev IsLeft : ℕ → Type 0
  IsLeft i = (i < length pages) × (get_or marks i false ≡ false)

  -- of the places without mark below a number there is one that none of the others precedes
  abbrev HasLeast : ℕ → Type 0
  HasLeast n = ((m : ℕ) → m < n → IsLeft m → ((y : ℕ) → y < n → IsLeft y → Precedes (lists orders) (page_in pages y) (page_in pages m) → ⊥) → ⊥) → (i : ℕ) → i < n → IsLeft i → ⊥

  -- one place more
  next_left : HasNoCycle orders → (n : ℕ) → HasLeast n → HasLeast (suc n)
  next_left acyclic n below none i low left = elim (cases_eq i n) [
    | inl e ↦ none n (omega arith) (subst IsLeft e left) at_n
    | inr apart ↦ below (λ m mlow mleft least. none m (omega arith) mleft (λ z zlow zleft chain. elim (cases_eq z n) [
      | inl e ↦ none n (omega arith) (subst IsLeft e zleft) at_n
      | inr off ↦ least z (omega arith) zleft chain
    ])) i (omega arith) left
  ]
    where
      at_n : (y : ℕ) → y < suc n → IsLeft y → Precedes (lists orders) (page_in pages y) (page_in pages n) → ⊥
      at_n y ylow yleft chain = elim (cases_eq y n) [
        | inl e ↦ acyclic (page_in pages n) (subst (λ (k : ℕ). Precedes (lists orders) (page_in pages k) (page_in pages n)) e chain)
        | inr off ↦ below (λ m mlow mleft least. none m (omega arith) mleft (λ z zlow zleft on. elim (cases_eq z n) [
          | inl e ↦ least y (omega arith) yleft (through chain (subst (λ (k : ℕ). Precedes (lists orders) (page_in pages k) (page_in pages m)) e on))
          | inr apart ↦ least z (omega arith) zleft on
        ])) y (omega arith) yleft
      ]

  -- where no page precedes itself
  least_left : HasNoCycle orders → (n : ℕ) → HasLeast n
  least_left acyclic zero none i low left = absurd (omega arith)
  least_left acyclic (suc n) none i low left = next_left acyclic n (least_left acyclic n) none i low left

  -- where a page is left, some page precedes itself
  pub one_left : MarksFree pages orders marks → HasNoCycle orders → (i : ℕ) → i < length pages → get_or marks i false ≡ true
  one_left marked acyclic i inside = elim (cases_Bool (get_or marks i false)) [
    | inl there ↦ there
    | inr left ↦ absurd (least_left acyclic (length pages) (λ m mlow mleft least. marked.most m mlow mleft.1 (λ k low later waits. least waits.0 waits.1 (waits.1, waits.3) (directly (step k m low later waits.0 waits.2)))) i inside (inside, left))
  ]
    where
      step : (k m : ℕ) → k < length orders → (order_at orders k).later ≡ page_in pages m → (y : ℕ) → page_in pages y ≡ (order_at orders k).first → lists orders (page_in pages y) (page_in pages m) ≡ true
      step k m low later y first = subst (λ (b : ℕ). lists orders (page_in pages y) b ≡ true) later (subst (λ (a : ℕ). lists orders a (order_at orders k).later ≡ true) (sym first) (at_listed orders k low))

-- the later pages of the orders are in the batch, place by place
pub later_placed : (pages : List BatchPage) (orders : List Order) → ((k : ℕ) → k < length orders → is_in pages (order_at orders k).later ≡ true) → HasLater pages orders
later_placed pages orders each a b listed =
    let found = listed_at orders a b listed in
    subst (λ (x : ℕ). is_in pages x ≡ true) found.3 (each found.0 found.1)

-- a row of marks that was made blank has none
pub blank_marks : (n i : ℕ) → get_or (replicate n false) i false ≡ false
blank_marks n i = elim (cases_lt i n) [
  | inl low ↦ get_or-replicate n i false false low
  | inr high ↦ get_or_past (replicate n false) i false (omega (arith, high, length-replicate n false))
]

-- the answer of the test, for the batch as its fields have it
pub lawful_view : (size : ℕ) (fields now : Changed) (result : Bool) → fields ≡ now → (IsTrue result ↔ IsLawful size fields.pages fields.orders) → IsTrue result ↔ IsLawful size now.pages now.orders
lawful_view size fields now result same is = subst (λ (b : Changed). IsTrue result ↔ IsLawful size b.pages b.orders) same is

-- a test that failed
pub not_lawful : (P : Type 0) → (P → ⊥) → IsTrue false ↔ P
not_lawful P refuted = (λ is. absurd cc, λ holds. absurd (refuted holds))
