-- A batch of two pages with one order is lawful.
use Rattle.std.proofs.Common.{◌≡◌, ◌≢◌, ◌≤◌, ◌<◌, ℕ, ◌+◌, Bool, true, false, ◌&&◌, ◌||◌, ◌==◌, inl, inr, List, [], ◌∷◌, ◌++◌, length, Some, None, is_some, sym, ◌∙◌, ap, refl, cond, arith, subst}
use Rattle.std.proofs.lemmas.Bool.{cases_eq, and_parts, eqb-true}
use Rattle.mg_careful.specs.declared.graph.Order.{Order}
use Rattle.mg_careful.specs.Precedence.{Precedes, directly, through}
use Rattle.mg_pool.specs.declared.batch.BatchPage.{BatchPage}
use Rattle.mg_pool.specs.Batch.{AreBelow, Changed, IsLawful, PutsPage, content_in, is_in, lists}

-- of one order, a chain is that order
one_chain : (o : Order) → o.first ≢ o.later → (a b : ℕ) → Precedes (lists (o ∷ [])) a b → (a ≡ o.first) × (b ≡ o.later)
one_chain o apart a b (directly listed) = at (o.first == a && o.later == b) refl listed
  where
    at : (t : Bool) → (o.first == a && o.later == b) ≡ t → (t || false) ≡ true → (a ≡ o.first) × (b ≡ o.later)
    at true is holds = let both = and_parts (o.first == a) _ is in (sym (eqb-true o.first a both.0), sym (eqb-true o.later b both.1))
    at false is holds = absurd cc
one_chain o apart a c (through {b = b} x y) =
    let left = one_chain o apart a b x in
    let right = one_chain o apart b c y in
    absurd (apart (sym right.0 ∙ left.1))

pub two_lawful : (size : ℕ) (o : Order) (bytes : List ℕ) (start one two last : Changed) → start.pages ≡ [] → start.orders ≡ [] → PutsPage start one o.first bytes → PutsPage one two o.later bytes → last.pages ≡ two.pages → last.orders ≡ two.orders ++ o ∷ [] → o.first ≢ o.later → length bytes ≡ size → IsLawful size last.pages last.orders
two_lawful size o bytes start one two last no_pages no_orders first later pages orders apart long = record {
  few =
      let zero_pages : length start.pages ≡ 0 = ap (length {A = BatchPage}) no_pages in
      let at_last : length last.pages ≡ length two.pages = ap (length {A = BatchPage}) pages in
      let low = at_most (is_in start.pages o.first) (length start.pages) (length one.pages) first.count in
      let high = at_most (is_in one.pages o.later) (length one.pages) (length two.pages) later.count in
      omega arith;
  whole = λ page b there.
      let in_two : content_in two.pages page ≡ Some b = ap (λ (xs : List BatchPage). content_in xs page) (sym pages) ∙ there in
      elim (cases_eq page o.later) [
        | inl e ↦ same b (sym in_two ∙ (ap (content_in two.pages) e ∙ later.here))
        | inr out ↦ elim (cases_eq page o.first) [
          | inl e ↦ same b (sym in_two ∙ (later.others page out ∙ (ap (content_in one.pages) e ∙ first.here)))
          | inr off ↦ absurd (let h : Some b ≡ None = sym in_two ∙ (later.others page out ∙ (first.others page off ∙ ap (λ (xs : List BatchPage). content_in xs page) no_pages)) in cc)
        ]
      ];
  acyclic = λ page chain.
      let alone = one_chain o apart page page (subst (λ (os : List Order). Precedes (lists os) page page) one_order chain) in
      apart (sym alone.0 ∙ alone.1);
  later_in = λ a b listed.
      let alone = one_chain o apart a b (directly (ap (λ (os : List Order). lists os a b) (sym one_order) ∙ listed)) in
      ap (λ (xs : List BatchPage). is_in xs b) pages ∙ (ap (is_in two.pages) alone.1 ∙ ap is_some later.here);
}
  where
    one_order : last.orders ≡ o ∷ []
    one_order = orders ∙ ap (λ (os : List Order). os ++ o ∷ []) (later.same_orders ∙ (first.same_orders ∙ no_orders))

    same : (b : List ℕ) → Some b ≡ Some bytes → length b ≡ size
    same b e = let f : b ≡ bytes = cc in ap length f ∙ long

    at_most : (t : Bool) (m n : ℕ) → n ≡ cond t m (m + 1) → n ≤ m + 1
    at_most true m n e = omega arith
    at_most false m n e = omega arith

-- and its pages lie below a limit, where the two do
pub two_below : (limit : ℕ) (o : Order) (bytes : List ℕ) (start one two last : Changed) → start.pages ≡ []
    → PutsPage start one o.first bytes → PutsPage one two o.later bytes → last.pages ≡ two.pages
    → o.first < limit → o.later < limit → AreBelow limit last.pages
two_below limit o bytes start one two last no_pages first later pages first_below later_below page b there =
    elim (cases_eq page o.later) [
      | inl e ↦ rw e later_below
      | inr out ↦ elim (cases_eq page o.first) [
        | inl e ↦ rw e first_below
        | inr off ↦ absurd (let h : Some b ≡ None = sym in_two ∙ (later.others page out ∙ (first.others page off ∙ ap (λ (xs : List BatchPage). content_in xs page) no_pages)) in cc)
      ]
    ]
  where
    in_two : content_in two.pages page ≡ Some b
    in_two = ap (λ (xs : List BatchPage). content_in xs page) (sym pages) ∙ there
