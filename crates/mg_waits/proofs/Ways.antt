-- A way without a turn leaves each transaction that waits once, so it has no more steps than there
-- are of those.
use Rattle.std.specs.Prelude.{◌≡◌, ◌⊎◌, ℕ, zero, suc, ◌<◌, ◌≤◌, ◌+◌, ◌-◌, ◌==◌, ◌||◌, Bool, true, false, List, [], ◌∷◌, length, Option, Some, None, IsSome, IsTrue, refl}
use Rattle.std.proofs.Common.{sym, ◌∙◌, ap, subst, inl, inr, arith}
use Rattle.std.proofs.lemmas.Bool.{false≢true, cases_eq, eq-eqb, ne_eqb, or_cases}
use Rattle.std.specs.List.{IsDistinct, list_any, AllByRecursion}
use Rattle.std.specs.Ordering.{is_eq, eq_by_cmp, nat_cmp}
use Rattle.std.specs.declared.cmp.Ordering.{Ordering}
use Rattle.std.specs.declared.cmp.Ordering.TheVariants.{Less, Equal, Greater}
use Rattle.std.proofs.lemmas.Cmp.{nat_cmp_total, eq_by_cmp_equiv}
use Rattle.std.proofs.lemmas.Map.Lookups.{exact_unsigned}
use Rattle.std.proofs.lemmas.Map.Steps.{length-le_from_keys}
use Rattle.mg_model.specs.Answers.{if_some, leads_to}
use Rattle.mg_model.specs.WaitLaws.{Leads, arrived, goes_on, First, leads_from_test}
use Rattle.mg_waits.specs.Waits.{edges_in}

-- the keys of the map of waits are told apart as numbers are
abbrev same : ℕ → ℕ → Bool
same = eq_by_cmp nat_cmp

equal_from_test : (order : Ordering) → is_eq order ≡ true → order ≡ Equal
equal_from_test Less is = absurd cc
equal_from_test Equal is = refl
equal_from_test Greater is = absurd cc

same_exact : (a b : ℕ) → same a b ≡ true → a ≡ b
same_exact a b is = exact_unsigned a b (equal_from_test (nat_cmp a b) is)

pub same_not : (a b : ℕ) → (a ≡ b → ⊥) → same a b ≡ false
same_not a b apart = at (same a b) refl
  where
    at : (it : Bool) → same a b ≡ it → same a b ≡ false
    at true is = absurd (apart (same_exact a b is))
    at false is = is

-- t is reached first after some number of steps
first_from_leads : (waits : ℕ → Option ℕ) (t u : ℕ) → Leads waits t u
    → (k : ℕ) × First waits t k u
first_from_leads waits t u (arrived is) = (0, is)
first_from_leads waits t u (goes_on v next rest) =
    at (first_from_leads waits t v rest) (cases_eq u t)
  where
    at : ((k : ℕ) × First waits t k v) → (u ≡ t) ⊎ (u ≡ t → ⊥) → (k : ℕ) × First waits t k u
    at more (inl same) = (0, same)
    at more (inr apart) = (suc more.0, (apart, (v, next, more.1)))

test_from_first : (waits : ℕ → Option ℕ) (t most k u : ℕ) → k ≤ most → First waits t k u
    → leads_to waits most u t ≡ true
test_from_first waits t zero zero u within first = eq-eqb u t first
test_from_first waits t zero (suc k) u within first = absurd (omega arith)
test_from_first waits t (suc most) zero u within first =
    let here : (u == t) ≡ true = eq-eqb u t first in rw here refl
test_from_first waits t (suc most) (suc k) u within first =
    let below : k ≤ most = omega arith in
    let apart : (u == t) ≡ false = ne_eqb u t first.0 in
    let next : waits u ≡ Some first.1.0 = first.1.1 in
    rw apart (rw next (test_from_first waits t most k first.1.0 below first.1.2))

one_first : (waits : ℕ → Option ℕ) (t j k u : ℕ) → First waits t j u → First waits t k u → j ≡ k
one_first waits t zero zero u a b = refl
one_first waits t zero (suc k) u a b = absurd (b.0 a)
one_first waits t (suc j) zero u a b = absurd (a.0 b)
one_first waits t (suc j) (suc k) u a b =
    let next : Some a.1.0 ≡ Some b.1.0 = sym a.1.1 ∙ b.1.1 in
    let same : a.1.0 ≡ b.1.0 = cc in
    let P : ℕ → Type 0 = λ v. First waits t j v in
    ap suc (one_first waits t j k b.1.0 (subst P same a.1.2) b.1.2)

-- those on the way who wait: all but the last one
abbrev waiters : (waits : ℕ → Option ℕ) (t k u : ℕ) → First waits t k u → List ℕ
waiters waits t zero u first = []
waiters waits t (suc k) u first = u ∷ waiters waits t k first.1.0 first.1.2

length-waiters : (waits : ℕ → Option ℕ) (t k u : ℕ) (first : First waits t k u)
    → length (waiters waits t k u first) ≡ k
length-waiters waits t zero u first = refl
length-waiters waits t (suc k) u first = ap suc (length-waiters waits t k first.1.0 first.1.2)

not_same : (waits : ℕ → Option ℕ) (t k w : ℕ) → First waits t k w → (m u : ℕ)
    → First waits t m u → k < m → same u w ≡ false
not_same waits t k w first m u farther less = same_not u w different
  where
    different : u ≡ w → ⊥
    different same =
        let P : ℕ → Type 0 = λ v. First waits t m v in
        let equal : m ≡ k = one_first waits t m k w (subst P same farther) first in
        absurd (omega arith)

apart_from_way : (waits : ℕ → Option ℕ) (t k w : ℕ) (first : First waits t k w) (m u : ℕ)
    → First waits t m u → k < m
    → AllByRecursion (λ y. same u y ≡ false) (waiters waits t k w first)
apart_from_way waits t zero w first m u farther less = tt
apart_from_way waits t (suc k) w first m u farther less =
    let below : k < m = omega arith in (
      not_same waits t (suc k) w first m u farther less,
      apart_from_way waits t k first.1.0 first.1.2 m u farther below,
    )

way_is_distinct : (waits : ℕ → Option ℕ) (t k u : ℕ) (first : First waits t k u)
    → IsDistinct same (waiters waits t k u first)
unfolding IsDistinct
way_is_distinct waits t zero u first = tt
way_is_distinct waits t (suc k) u first =
    let below : k < suc k = omega arith in (
      apart_from_way waits t k first.1.0 first.1.2 (suc k) u first below,
      way_is_distinct waits t k first.1.0 first.1.2,
    )

some_is : {A : Type 0} (it : Option A) (v : A) → it ≡ Some v → IsSome it
some_is {A = A} it v is = let P : Option A → Type 0 = λ o. IsSome o in subst P (sym is) refl

way_waits : (waits : ℕ → Option ℕ) (t k u : ℕ) (first : First waits t k u) (q : ℕ)
    → list_any (same q) (waiters waits t k u first) ≡ true → IsSome (waits q)
way_waits waits t zero u first q has = absurd (false≢true has)
way_waits waits t (suc k) u first q has =
    elim (or_cases (same q u) (list_any (same q) (waiters waits t k first.1.0 first.1.2)) has) [
      | inl alike ↦
          let is : waits q ≡ Some first.1.0 = ap waits (same_exact q u alike) ∙ first.1.1 in
          some_is (waits q) first.1.0 is
      | inr rest ↦ way_waits waits t k first.1.0 first.1.2 q rest
    ]

-- so many steps as there are waits are enough to follow them
pub test_from_leads : (entries : List (ℕ × ℕ)) (t u : ℕ)
    → Leads (edges_in entries) t u
    → leads_to (edges_in entries) (length entries) u t ≡ true
test_from_leads entries t u leads =
    let waits : ℕ → Option ℕ = edges_in entries in
    let first : (k : ℕ) × First waits t k u = first_from_leads waits t u leads in
    let short : length (waiters waits t first.0 u first.1) ≤ length entries =
    length-le_from_keys (eq_by_cmp_equiv nat_cmp_total) (waiters waits t first.0 u first.1) entries
    (way_is_distinct waits t first.0 u first.1) (way_waits waits t first.0 u first.1) in
    let long : length (waiters waits t first.0 u first.1) ≡ first.0 =
    length-waiters waits t first.0 u first.1 in
    let within : first.0 ≤ length entries = omega arith in
    test_from_first waits t (length entries) first.0 u within first.1

-- one step of following
pub leads_to-step : (waits : ℕ → Option ℕ) (most u t : ℕ) → 0 < most
    → leads_to waits most u t ≡ (u == t || if_some (λ v. leads_to waits (most - 1) v t) (waits u))
leads_to-step waits zero u t some = absurd (omega arith)
leads_to-step waits (suc most) u t some =
    let less : suc most - 1 ≡ most = omega arith in rw less refl

pub leads_to-here : (waits : ℕ → Option ℕ) (most u t : ℕ) → u ≡ t → leads_to waits most u t ≡ true
leads_to-here waits zero u t is = eq-eqb u t is
leads_to-here waits (suc most) u t is =
    let here : (u == t) ≡ true = eq-eqb u t is in rw here refl

pub leads_to-none : (waits : ℕ → Option ℕ) (most u t : ℕ) → (u ≡ t → ⊥) → waits u ≡ None
    → leads_to waits most u t ≡ false
leads_to-none waits zero u t apart none = ne_eqb u t apart
leads_to-none waits (suc most) u t apart none =
    let other : (u == t) ≡ false = ne_eqb u t apart in rw other (rw none refl)

pub leads_to-next : (waits : ℕ → Option ℕ) (most u t v : ℕ) → 0 < most → (u ≡ t → ⊥)
    → waits u ≡ Some v → leads_to waits most u t ≡ leads_to waits (most - 1) v t
leads_to-next waits most u t v some apart next =
    let other : (u == t) ≡ false = ne_eqb u t apart in
    leads_to-step waits most u t some ∙ rw other (rw next refl)

-- what following by so many steps tells
pub closes_iff : (entries : List (ℕ × ℕ)) (most : ℕ) (told : Bool) (t u : ℕ)
    → most ≡ length entries → told ≡ leads_to (edges_in entries) most u t
    → (IsTrue told → Leads (edges_in entries) t u) × (Leads (edges_in entries) t u → IsTrue told)
closes_iff entries most told t u many is = (
  λ yes. leads_from_test (edges_in entries) t most u (sym is ∙ yes),
  λ leads. is ∙ ap (λ n. leads_to (edges_in entries) n u t) many ∙ test_from_leads entries t u leads,
)

-- one step further on a way, with one step less to go
pub step_on : (entries : List (ℕ × ℕ)) (most step at to next : ℕ) (all : Bool) → step < most
    → (at ≡ to → ⊥) → edges_in entries at ≡ Some next
    → leads_to (edges_in entries) (most - step) at to ≡ all
    → leads_to (edges_in entries) (most - (step + 1)) next to ≡ all
step_on entries most step at to next all below apart edge so_far =
    let some : 0 < most - step = omega arith in
    let less : most - step - 1 ≡ most - (step + 1) = omega arith in
    ap (λ n. leads_to (edges_in entries) n next to) (sym less)
    ∙ sym (leads_to-next (edges_in entries) (most - step) at to next some apart edge) ∙ so_far
