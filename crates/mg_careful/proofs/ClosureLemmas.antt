-- Closures of orders: with one more order, without a member that nothing precedes, and the members
-- from which a goal is reached.
use Rattle.std.proofs.Common.{◌≡◌, ◌≢◌, ℕ, Bool, true, false, ◌||◌, ◌&&◌, ◌==◌, not, ◌⊎◌, inl, inr, sym, ◌∙◌, refl, subst}
use Rattle.std.proofs.lemmas.Bool.{eq-eqb, ne_eqb, eqb-true, or_cases, or_left, or_right, and_parts, and_from, both_ways, false_from_ne_true, not-true, not_from_false}
use Rattle.mg_careful.specs.Precedence.{Orders, Precedes, directly, through}
use Rattle.mg_careful.specs.PrecedenceLaws.{precedes_in}
use Rattle.mg_careful.specs.Rows.{IsClosure, with_order, with_closed, without}

-- two tests that hold at the same time are equal
pub same_test : (x y : Bool) → (x ≡ true → y ≡ true) → (y ≡ true → x ≡ true) → x ≡ y
same_test true y to from = sym (to refl)
same_test false true to from = from refl
same_test false false to from = refl

pub not_same : (a b : ℕ) → a ≢ b → not (a == b) ≡ true
not_same a b differ = not_from_false _ (ne_eqb a b differ)

pub differ : (a b : ℕ) → not (a == b) ≡ true → a ≢ b
differ a b apart same = both_ways (a == b) (not-true _ apart) (eq-eqb a b same)

-- a closure of the same orders, by equal tests
pub closure_same : (ordered more after reach : Orders) → IsClosure ordered after → ((a b : ℕ) → more a b ≡ ordered a b) → ((a b : ℕ) → reach a b ≡ after a b) → IsClosure more reach
closure_same ordered more after reach closure orders reaches = record {
  sound = λ a b holds. precedes_in ordered more (λ x y o. orders x y ∙ o) a b (closure.sound a b (sym (reaches a b) ∙ holds));
  whole = λ a b chain. reaches a b ∙ closure.whole a b (precedes_in more ordered (λ x y o. sym (orders x y) ∙ o) a b chain);
}

pub closure_trans : (ordered after : Orders) → IsClosure ordered after → (a b c : ℕ) → after a b ≡ true → after b c ≡ true → after a c ≡ true
closure_trans ordered after closure a b c x y = closure.whole a c (through (closure.sound a b x) (closure.sound b c y))

-- what one more order closes, as a case
data Closes (after : Orders) (first later a b : ℕ) : Type 0 where
  already : after a b ≡ true → Closes after first later a b
  newly : (a ≡ first) ⊎ (after a first ≡ true) → (b ≡ later) ⊎ (after later b ≡ true) → Closes after first later a b

is_or : (after : Orders) (a b : ℕ) (test : Bool) → (a == b || test) ≡ true → (a ≡ b) ⊎ (test ≡ true)
is_or after a b test holds = elim (or_cases (a == b) test holds) [ inl e ↦ inl (eqb-true a b e) | inr t ↦ inr t ]

or_is : (a b : ℕ) (test : Bool) → (a ≡ b) ⊎ (test ≡ true) → (a == b || test) ≡ true
or_is a b test (inl e) = or_left (a == b) test (eq-eqb a b e)
or_is a b test (inr t) = or_right (a == b) test t

closes : (after : Orders) (first later a b : ℕ) → with_closed after first later a b ≡ true → Closes after first later a b
closes after first later a b holds =
    elim (or_cases (after a b) _ holds) [
      | inl x ↦ already x
      | inr y ↦ let parts = and_parts _ _ y in newly (is_or after a first (after a first) parts.0) (is_or after b later (after later b) parts.1)
    ]

closed_by : (after : Orders) (first later a b : ℕ) → Closes after first later a b → with_closed after first later a b ≡ true
closed_by after first later a b (already x) = or_left (after a b) _ x
closed_by after first later a b (newly x y) = or_right (after a b) _ (and_from _ _ (or_is a first (after a first) x) (or_is b later (after later b) y))

module _ (ordered more after reach : Orders) (first later : ℕ) (closure : IsClosure ordered after) (orders : (a b : ℕ) → more a b ≡ with_order ordered first later a b) (reaches : (a b : ℕ) → reach a b ≡ with_closed after first later a b) where
  grows : (a b : ℕ) → ordered a b ≡ true → more a b ≡ true
  grows a b o = orders a b ∙ or_left (ordered a b) _ o

  chain_of : (a b : ℕ) → after a b ≡ true → Precedes more a b
  chain_of a b x = precedes_in ordered more grows a b (closure.sound a b x)

  new_order : Precedes more first later
  new_order = directly (orders first later ∙ or_right (ordered first later) _ (and_from _ _ (eq-eqb first first refl) (eq-eqb later later refl)))

  from_first : (b : ℕ) → (b ≡ later) ⊎ (after later b ≡ true) → Precedes more first b
  from_first b (inl e) = subst (λ (x : ℕ). Precedes more first x) (sym e) new_order
  from_first b (inr y) = through new_order (chain_of later b y)

  sound_more : (a b : ℕ) → Closes after first later a b → Precedes more a b
  sound_more a b (already x) = chain_of a b x
  sound_more a b (newly (inl e) y) = subst (λ (x : ℕ). Precedes more x b) (sym e) (from_first b y)
  sound_more a b (newly (inr x) y) = through (chain_of a first x) (from_first b y)

  towards : (a b : ℕ) → after a b ≡ true → (b ≡ first) ⊎ (after b first ≡ true) → (a ≡ first) ⊎ (after a first ≡ true)
  towards a b x (inl e) = inr (subst (λ (z : ℕ). after a z ≡ true) e x)
  towards a b x (inr y) = inr (closure_trans ordered after closure a b first x y)

  onwards : (b c : ℕ) → after b c ≡ true → (b ≡ later) ⊎ (after later b ≡ true) → (c ≡ later) ⊎ (after later c ≡ true)
  onwards b c x (inl e) = inr (subst (λ (z : ℕ). after z c ≡ true) e x)
  onwards b c x (inr y) = inr (closure_trans ordered after closure later b c y x)

  closes_through : (a b c : ℕ) → Closes after first later a b → Closes after first later b c → Closes after first later a c
  closes_through a b c (already x) (already y) = already (closure_trans ordered after closure a b c x y)
  closes_through a b c (already x) (newly y z) = newly (towards a b x y) z
  closes_through a b c (newly x y) (already z) = newly x (onwards b c z y)
  closes_through a b c (newly x y) (newly z w) = newly x w

  whole_more : (a b : ℕ) → Precedes more a b → Closes after first later a b
  whole_more a b (directly o) =
      elim (or_cases (ordered a b) _ (sym (orders a b) ∙ o)) [
        | inl x ↦ already (closure.whole a b (directly x))
        | inr y ↦ let parts = and_parts _ _ y in newly (inl (eqb-true a first parts.0)) (inl (eqb-true b later parts.1))
      ]
  whole_more a c (through {b = b} x y) = closes_through a b c (whole_more a b x) (whole_more b c y)

  -- a closure with what one more order closes is the closure with that order
  pub closure_more : IsClosure more reach
  closure_more = record {
    sound = λ a b holds. sound_more a b (closes after first later a b (sym (reaches a b) ∙ holds));
    whole = λ a b chain. reaches a b ∙ closed_by after first later a b (whole_more a b chain);
  }

  no_cycle : (a : ℕ) → first ≢ later → after later first ≡ false → after a a ≡ false → Closes after first later a a → ⊥
  no_cycle a apart no_way_back fine (already x) = both_ways (after a a) fine x
  no_cycle a apart no_way_back fine (newly (inl e) (inl f)) = apart (sym e ∙ f)
  no_cycle a apart no_way_back fine (newly (inl e) (inr y)) = both_ways (after later first) no_way_back (subst (λ (z : ℕ). after later z ≡ true) e y)
  no_cycle a apart no_way_back fine (newly (inr x) (inl f)) = both_ways (after later first) no_way_back (subst (λ (z : ℕ). after z first ≡ true) f x)
  no_cycle a apart no_way_back fine (newly (inr x) (inr y)) = both_ways (after later first) no_way_back (closure_trans ordered after closure later a first y x)

  -- an order whose later member doesn't lead to its first one closes no cycle
  pub acyclic_more : first ≢ later → after later first ≡ false → ((a : ℕ) → after a a ≡ false) → (a : ℕ) → reach a a ≡ false
  acyclic_more apart no_way_back fine a = false_from_ne_true (reach a a) (λ holds. no_cycle a apart no_way_back (fine a) (closes after first later a a (sym (reaches a a) ∙ holds)))

-- fewer orders close no more cycles
pub acyclic_fewer : (ordered after fewer reach : Orders) → IsClosure ordered after → IsClosure fewer reach → ((a b : ℕ) → fewer a b ≡ true → ordered a b ≡ true) → ((a : ℕ) → after a a ≡ false) → (a : ℕ) → reach a a ≡ false
acyclic_fewer ordered after fewer reach closure smaller sub fine a =
    false_from_ne_true (reach a a) (λ holds. both_ways (after a a) (fine a) (closure.whole a a (precedes_in fewer ordered sub a a (smaller.sound a a holds))))

module _ (ordered fewer after reach : Orders) (gone : ℕ) (closure : IsClosure ordered after) (free : (q : ℕ) → ordered q gone ≡ false) (orders : (a b : ℕ) → fewer a b ≡ without ordered gone a b) (reaches : (a b : ℕ) → reach a b ≡ (after a b && not (a == gone))) where
  fewer_in : (a b : ℕ) → fewer a b ≡ true → ordered a b ≡ true
  fewer_in a b o = (and_parts (ordered a b) _ (sym (orders a b) ∙ o)).0

  -- a chain that begins elsewhere never comes to a member that nothing precedes
  chain_apart : (a b : ℕ) → a ≢ gone → Precedes ordered a b → Precedes fewer a b × (b ≢ gone)
  chain_apart a b apart (directly o) =
      let there : b ≢ gone = λ e. both_ways (ordered a gone) (free a) (subst (λ (z : ℕ). ordered a z ≡ true) e o) in
      (directly (orders a b ∙ and_from _ _ o (and_from _ _ (not_same a gone apart) (not_same b gone there))), there)
  chain_apart a c apart (through {b = b} x y) =
      let left = chain_apart a b apart x in
      let right = chain_apart b c left.1 y in
      (through left.0 right.0, right.1)

  first_apart : (a b : ℕ) → Precedes fewer a b → a ≢ gone
  first_apart a b (directly o) = differ a gone (and_parts _ _ (and_parts (ordered a b) _ (sym (orders a b) ∙ o)).1).0
  first_apart a c (through {b = b} x y) = first_apart a b x

  -- the closure without a member that nothing precedes: its row is unset
  pub closure_without : IsClosure fewer reach
  closure_without = record {
    sound = λ a b holds. let parts = and_parts (after a b) _ (sym (reaches a b) ∙ holds) in (chain_apart a b (differ a gone parts.1) (closure.sound a b parts.0)).0;
    whole = λ a b chain. reaches a b ∙ and_from _ _ (closure.whole a b (precedes_in fewer ordered fewer_in a b chain)) (not_same a gone (first_apart a b chain));
  }
