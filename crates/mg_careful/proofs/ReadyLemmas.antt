-- The least ready page: it is found, and there is always one.
use Rattle.std.proofs.Common.{◌≡◌, ◌<◌, ◌≤◌, ℕ, suc, zero, ◌+◌, Bool, true, false, ◌⊎◌, inl, inr, Option, Some, None, nat_lt, arith, sym, ◌∙◌, ap, refl, cond, subst}
use Rattle.std.proofs.lemmas.Bool.{cases_lt, both_ways, ltb-true, ltb-false}
use Rattle.mg_careful.specs.Precedence.{Orders, directly}
use Rattle.mg_careful.specs.Rows.{IsClosure, IsLeast, lesser_of}
use Rattle.mg_careful.proofs.ClosureLemmas.{closure_trans}

-- nothing is least among nothing
pub least_none : (given : ℕ → Option ℕ) → IsLeast given 0 None
least_none given = record { found = λ m same. absurd cc; least_of = λ k n below here. absurd (omega arith) }

-- the lesser of the least number and the next one is the least
pub least_more : (given : ℕ → Option ℕ) (i : ℕ) (least next : Option ℕ) → IsLeast given i least → given i ≡ next → IsLeast given (i + 1) (lesser_of least next)
least_more given i None None old here = record {
  found = λ m same. absurd cc;
  least_of = λ k n below at. elim (cases_lt k i) [ inl less ↦ old.least_of k n less at | inr past ↦ let e : k ≡ i = omega arith in absurd (let f : given i ≡ Some n = ap given (sym e) ∙ at in cc) ];
}
least_more given i (Some m) None old here = record {
  found = λ x same. let f = old.found x same in (f.0, omega arith, f.2);
  least_of = λ k n below at. elim (cases_lt k i) [ inl less ↦ old.least_of k n less at | inr past ↦ let e : k ≡ i = omega arith in absurd (let f : given i ≡ Some n = ap given (sym e) ∙ at in cc) ];
}
least_more given i None (Some b) old here = record {
  found = λ x same. (i, omega arith, here ∙ same);
  least_of = λ k n below at. elim (cases_lt k i) [ inl less ↦ let f = old.least_of k n less at in absurd (let g : None ≡ Some f.0 = f.1 in cc) | inr past ↦ let e : k ≡ i = omega arith in let f : given i ≡ Some n = ap given (sym e) ∙ at in let g : b ≡ n = cc in (b, refl, omega arith) ];
}
least_more given i (Some a) (Some b) old here = at (nat_lt a b) refl
  where
    from_old : a < b → IsLeast given (i + 1) (Some a)
    from_old less = record {
      found = λ x same. let f = old.found x same in (f.0, omega arith, f.2);
      least_of = λ k n below there. elim (cases_lt k i) [ inl low ↦ old.least_of k n low there | inr past ↦ let e : k ≡ i = omega arith in let f : given i ≡ Some n = ap given (sym e) ∙ there in let g : b ≡ n = cc in (a, refl, omega arith) ];
    }

    from_new : b ≤ a → IsLeast given (i + 1) (Some b)
    from_new more = record {
      found = λ x same. (i, omega arith, here ∙ same);
      least_of = λ k n below there. elim (cases_lt k i) [ inl low ↦ let f = old.least_of k n low there in let g : a ≡ f.0 = (let h : Some a ≡ Some f.0 = f.1 in cc) in let w : f.0 ≤ n = f.2 in (b, refl, omega arith) | inr past ↦ let e : k ≡ i = omega arith in let f : given i ≡ Some n = ap given (sym e) ∙ there in let g : b ≡ n = cc in (b, refl, omega arith) ];
    }

    at : (t : Bool) → nat_lt a b ≡ t → IsLeast given (i + 1) (cond t (Some a) (Some b))
    at true less = from_old (ltb-true a b less)
    at false more = from_new (ltb-false a b more)

-- how many numbers below n pass a test
abbrev tally : (ℕ → Bool) → ℕ → ℕ
tally test zero = 0
tally test (suc n) = cond (test n) (suc (tally test n)) (tally test n)

tally_le : (f g : ℕ → Bool) → ((x : ℕ) → f x ≡ true → g x ≡ true) → (n : ℕ) → tally f n ≤ tally g n
tally_le f g sub zero = omega arith
tally_le f g sub (suc n) = at (f n) (g n) refl refl (tally_le f g sub n)
  where
    at : (s t : Bool) → f n ≡ s → g n ≡ t → tally f n ≤ tally g n → cond s (suc (tally f n)) (tally f n) ≤ cond t (suc (tally g n)) (tally g n)
    at true true p q h = omega arith
    at true false p q h = absurd (both_ways (g n) q (sub n p))
    at false true p q h = omega arith
    at false false p q h = h

-- a test that one number fails more is passed by fewer numbers
tally_less : (f g : ℕ → Bool) → ((x : ℕ) → f x ≡ true → g x ≡ true) → (y : ℕ) → f y ≡ false → g y ≡ true → (n : ℕ) → y < n → tally f n < tally g n
tally_less f g sub y out is_in zero below = absurd (omega arith)
tally_less f g sub y out is_in (suc n) below =
    elim (cases_lt y n) [
      | inl less ↦ at (f n) (g n) refl refl (tally_less f g sub y out is_in n less)
      | inr past ↦ let e : n ≡ y = omega arith in here (ap f e ∙ out) (ap g e ∙ is_in) (tally_le f g sub n)
    ]
  where
    at : (s t : Bool) → f n ≡ s → g n ≡ t → tally f n < tally g n → cond s (suc (tally f n)) (tally f n) < cond t (suc (tally g n)) (tally g n)
    at true true p q h = omega arith
    at true false p q h = absurd (both_ways (g n) q (sub n p))
    at false true p q h = omega arith
    at false false p q h = h

    here : f n ≡ false → g n ≡ true → tally f n ≤ tally g n → cond (f n) (suc (tally f n)) (tally f n) < cond (g n) (suc (tally g n)) (tally g n)
    here p q h = rw (p, q) (omega arith)

-- some number below n passes a test, or none does
some_or_none : (test : ℕ → Bool) (n : ℕ) → ((x : ℕ) × (test x ≡ true)) ⊎ ((x : ℕ) → x < n → test x ≡ false)
some_or_none test zero = inr (λ x below. absurd (omega arith))
some_or_none test (suc n) = at (test n) refl (some_or_none test n)
  where
    at : (b : Bool) → test n ≡ b → ((x : ℕ) × (test x ≡ true)) ⊎ ((x : ℕ) → x < n → test x ≡ false) → ((x : ℕ) × (test x ≡ true)) ⊎ ((x : ℕ) → x < suc n → test x ≡ false)
    at true p h = inl (n, p)
    at false p (inl h) = inl h
    at false p (inr h) = inr (λ x below. elim (cases_lt x n) [ inl less ↦ h x less | inr past ↦ let e : x ≡ n = omega arith in ap test e ∙ p ])

-- what stands at a goal or leads to it, with nothing before it
pub record Start (ordered after : Orders) (goal : ℕ) : Type 0 where
  pub place : ℕ
  pub due : (place ≡ goal) ⊎ (after place goal ≡ true)
  pub free : (q : ℕ) → ordered q place ≡ false

module _ (ordered after : Orders) (size : ℕ) (closure : IsClosure ordered after) (acyclic : (a : ℕ) → after a a ≡ false) (inside : (a b : ℕ) → ordered a b ≡ true → a < size) where
  start_below : (bound : ℕ) (goal : ℕ) → tally (λ x. after x goal) size < bound → Start ordered after goal
  start_below zero goal few = absurd (omega arith)
  start_below (suc bound) goal few = at (some_or_none (λ x. ordered x goal) size) (start_below bound)
    where
      at : ((x : ℕ) × (ordered x goal ≡ true)) ⊎ ((x : ℕ) → x < size → ordered x goal ≡ false) → ((next : ℕ) → tally (λ x. after x next) size < bound → Start ordered after next) → Start ordered after goal
      at (inr none) more = record {
        place = goal;
        due = inl refl;
        free = λ q. at_q q (ordered q goal) refl;
      }
        where
          at_q : (q : ℕ) (b : Bool) → ordered q goal ≡ b → ordered q goal ≡ false
          at_q q true p = absurd (both_ways (ordered q goal) (none q (inside q goal p)) p)
          at_q q false p = p
      at (inl (x, before)) more =
          let leads : after x goal ≡ true = closure.whole x goal (directly before) in
          let fewer : tally (λ y. after y x) size < tally (λ y. after y goal) size = tally_less (λ y. after y x) (λ y. after y goal) (λ y p. closure_trans ordered after closure y x goal p leads) x (acyclic x) leads size (inside x goal before) in
          let start = more x (omega arith) in
          record {
            place = start.place;
            due = inr (elim start.due [ inl e ↦ subst (λ (z : ℕ). after z goal ≡ true) (sym e) leads | inr p ↦ closure_trans ordered after closure start.place x goal p leads ]);
            free = start.free;
          }

  -- a goal has a start: without a cycle, whatever leads to it has fewer that lead to it
  pub start_of : (goal : ℕ) → Start ordered after goal
  start_of goal = start_below (suc (tally (λ x. after x goal) size)) goal (omega arith)
