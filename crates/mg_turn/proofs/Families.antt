-- Seats, those split from them, and those joined to them.
use Rattle.std.proofs.Common.{◌≡◌, ◌≢◌, ℕ, zero, suc, ◌+◌, ◌<◌, ◌≤◌, if◌then◌else◌, ◌==◌, List, [], ◌∷◌, ◌++◌, length, set, sym, refl, ap, ◌∙◌, subst, inl, inr, ⊎_elim, eq-eqb, ne_eqb, length-set, arith}
use mathlib.Core.Option.{some, some-injective, some-ne-none}
use mathlib.Core.Logic.{dite}
use native.Mathlib.Decide.{ℕ_discrete}
use lib.ListN.{get_elem?}
use Rattle.atomic_table.proofs.Lists.{set_here, set_else}
use Rattle.mg_turn.specs.declared.rule.Entry.{Entry}
use Rattle.mg_turn.specs.declared.rule.Gathered.{Gathered}
use Rattle.mg_turn.specs.declared.rule.View.{View}
use Rattle.mg_turn.specs.Histories.{Has, calls_by}
use Rattle.mg_turn.specs.Keeping.{is_child, children_of, Lives, IsGathered, IsCovered}
use Rattle.mg_turn.proofs.Lists.{at_in, same_at}

swapped : (a b x c d : ℕ) → a + c ≡ b + d → (x + a) + c ≡ (x + b) + d
swapped a b x c d e = omega arith

turn : (a b c t : ℕ) → a ≡ b → (c + t) + b ≡ (a + t) + c
turn a b c t e = omega arith

left : (a b c d : ℕ) → a + c ≡ b + d → d ≡ c → a ≡ b
left a b c d e f = omega arith

zero_last : (a : ℕ) → a + 0 ≡ 0 + a
zero_last a = omega arith

assoc : (a b c d : ℕ) → b ≡ c + d → a + b ≡ (a + c) + d
assoc a b c d e = omega arith

one_of : (a t : ℕ) → a ≡ 1 → 1 ≤ a + t
one_of a t e = omega arith

more : (a t : ℕ) → 1 ≤ t → 1 ≤ a + t
more a t l = omega arith

none_more : (a t : ℕ) → a ≡ 0 → t ≡ 0 → a + t ≡ 0
none_more a t e f = omega arith

module _ {V C R : Type 0} where
  pub child_here : (n : ℕ) (v : View V C R) → v.parent ≡ n → is_child n v ≡ 1
  child_here n v e = ap (λ b. if b then 1 else 0) (eq-eqb v.parent n e)

  pub child_else : (n : ℕ) (v : View V C R) → v.parent ≢ n → is_child n v ≡ 0
  child_else n v ne = ap (λ b. if b then 1 else 0) (ne_eqb v.parent n ne)

  pub child_same : (n : ℕ) (v w : View V C R) → w.parent ≡ v.parent → is_child n w ≡ is_child n v
  child_same n v w e = ap (λ (p : ℕ). if p == n then 1 else 0) e

  pub children_set : (n : ℕ) (vs : List (View V C R)) (i : ℕ) (v w : View V C R) → get_elem? vs i ≡ some v → children_of n (set vs i w) + is_child n v ≡ children_of n vs + is_child n w
  children_set n [] i v w e = absurd (some-ne-none v (sym e))
  children_set n (x ∷ xs) zero v w e =
      let q : is_child n x ≡ is_child n v = ap (is_child n) (some-injective x v e) in
      turn (is_child n x) (is_child n v) (is_child n w) (children_of n xs) q
    where
      turn : (a b c t : ℕ) → a ≡ b → (c + t) + b ≡ (a + t) + c
      turn a b c t e = omega arith
  children_set n (x ∷ xs) (suc i) v w e = swapped (children_of n (set xs i w)) (children_of n xs) (is_child n x) (is_child n v) (is_child n w) (children_set n xs i v w e)

  pub children_same : (n : ℕ) (vs : List (View V C R)) (i : ℕ) (v w : View V C R) → get_elem? vs i ≡ some v → w.parent ≡ v.parent → children_of n (set vs i w) ≡ children_of n vs
  children_same n vs i v w at e = left (children_of n (set vs i w)) (children_of n vs) (is_child n v) (is_child n w) (children_set n vs i v w at) (child_same n v w e)

  pub children_snoc : (n : ℕ) (vs : List (View V C R)) (w : View V C R) → children_of n (vs ++ w ∷ []) ≡ children_of n vs + is_child n w
  children_snoc n [] w = zero_last (is_child n w)
    where
      zero_last : (a : ℕ) → a + 0 ≡ 0 + a
      zero_last a = omega arith
  children_snoc n (x ∷ xs) w = assoc (is_child n x) (children_of n (xs ++ w ∷ [])) (children_of n xs) (is_child n w) (children_snoc n xs w)

  pub child_counts : (n : ℕ) (vs : List (View V C R)) (i : ℕ) (v : View V C R) → get_elem? vs i ≡ some v → v.parent ≡ n → 1 ≤ children_of n vs
  child_counts n [] i v e p = absurd (some-ne-none v (sym e))
  child_counts n (x ∷ xs) zero v e p = one_of (is_child n x) (children_of n xs) (child_here n x (ap (λ (u : View V C R). u.parent) (some-injective x v e) ∙ p))
    where
      one : (a t : ℕ) → a ≡ 1 → 1 ≤ a + t
      one a t e = omega arith
  child_counts n (x ∷ xs) (suc i) v e p = more (is_child n x) (children_of n xs) (child_counts n xs i v e p)

  pub no_children : (n : ℕ) (vs : List (View V C R)) → ((i : ℕ) (v : View V C R) → get_elem? vs i ≡ some v → v.parent ≢ n) → children_of n vs ≡ 0
  no_children n [] none = refl
  no_children n (x ∷ xs) none = none_more (is_child n x) (children_of n xs) (child_else n x (none 0 x refl)) (no_children n xs (λ i v e. none (suc i) v e))

  -- one seat's view changes, and it lives on
  pub lives_still : (vs : List (View V C R)) (id : ℕ) (w : View V C R) (p : ℕ) → id < length vs → 0 < w.live → Lives vs p → Lives (set vs id w) p
  lives_still vs id w p in_list live lives = dite (ℕ_discrete p id)
      (λ e. (w, subst (λ (k : ℕ). get_elem? (set vs id w) k ≡ some w) (sym e) (set_here vs id w in_list), live))
      (λ ne. (lives.0, set_else vs id p w ne ∙ lives.1, lives.2))

  pub gathered_still : (vs : List (View V C R)) (id : ℕ) (v w : View V C R) (log log' : List (Entry C R)) (g : Gathered C R) → get_elem? vs id ≡ some v → 0 < v.live
      → ((n : ℕ) → n ≢ id → calls_by (n + 1) log' ≡ calls_by (n + 1) log) → IsGathered vs log g → IsGathered (set vs id w) log' g
  gathered_still vs id v w log log' g at live others it =
      let apart : it.seat ≢ id = λ e. (let q = it.spent v (subst (λ (k : ℕ). get_elem? vs k ≡ some v) (sym e) at) in omega arith) in record {
        seat = it.seat;
        name = it.name;
        there = subst (λ (k : ℕ). it.seat < k) (sym (length-set vs id w)) it.there;
        spent = λ u e. it.spent u (sym (set_else vs id it.seat w apart) ∙ e);
        own = ap (λ (k : ℕ). calls_by k log') it.name ∙ others it.seat apart ∙ ap (λ (k : ℕ). calls_by k log) (sym it.name) ∙ it.own;
      }

  pub covered_still : (vs : List (View V C R)) (id : ℕ) (v w : View V C R) (name : ℕ) → get_elem? vs id ≡ some v → 0 < w.live → w.gathered ≡ v.gathered → IsCovered vs name → IsCovered (set vs id w) name
  covered_still vs id v w name at live same it = dite (ℕ_discrete it.0 id)
      (λ e.
      let is : v ≡ it.1 = same_at vs id v it.1 at (subst (λ (k : ℕ). get_elem? vs k ≡ some it.1) e it.2) in (
        id,
        w,
        set_here vs id w (at_in vs id v at),
        live,
        ⊎_elim (λ (n : name ≡ it.0 + 1). inl (n ∙ ap (λ (k : ℕ). k + 1) e))
            (λ (g : (g : Gathered C R) × Has g it.1.gathered × (g.name ≡ name)). inr (g.0, subst (Has g.0) (sym (same ∙ ap (λ (u : View V C R). u.gathered) is)) g.1, g.2)) it.4,
      ))
      (λ ne. (it.0, it.1, set_else vs id it.0 w ne ∙ it.2, it.3, it.4))
