-- Ways in a graph in which each number leads to one other at most: how long they are, and when a
-- new edge closes no cycle.
use Rattle.std.specs.Prelude.{◌≡◌, ◌⊎◌, ℕ, zero, suc, ◌<◌, ◌≤◌, ◌==◌, ◌||◌, Bool, true, false, List, [], ◌∷◌, length, Option, Some, None, refl}
use Rattle.std.proofs.Common.{sym, ◌∙◌, ap, subst, inl, inr, arith}
use Rattle.std.proofs.lemmas.Bool.{false≢true, cases_eq, eqb-true, eq-eqb, ne_eqb, or_cases}
use Rattle.std.specs.List.{IsDistinct, list_any, AllByRecursion}
use lib.Dec.{eqb}
use Rattle.std.proofs.lemmas.Map.Steps.{length-le_from_distinct_below}
use Rattle.mg_model.specs.Answers.{if_some, leads_to}

-- a number leads to t: it is t, or the next one on its way leads there
pub data Leads (waits : ℕ → Option ℕ) (t : ℕ) : ℕ → Type 0 where
  arrived : {u : ℕ} → u ≡ t → Leads waits t u
  goes_on : {u : ℕ} (v : ℕ) → waits u ≡ Some v → Leads waits t v → Leads waits t u

-- no number leads back to itself
abbrev pub IsAcyclic : (ℕ → Option ℕ) → Type 0
IsAcyclic waits = (t u : ℕ) → waits t ≡ Some u → Leads waits t u → ⊥

pub leads_from_test : (waits : ℕ → Option ℕ) (t most u : ℕ) → leads_to waits most u t ≡ true
    → Leads waits t u
leads_from_test waits t zero u is = arrived (eqb-true u t is)
leads_from_test waits t (suc most) u is =
    at (u == t) refl (waits u) refl (leads_from_test waits t most) is
  where
    at : (b : Bool) → (u == t) ≡ b → (it : Option ℕ) → waits u ≡ it
        → ((v : ℕ) → leads_to waits most v t ≡ true → Leads waits t v)
        → (b || if_some (λ v. leads_to waits most v t) it) ≡ true → Leads waits t u
    at true same it next more is = arrived (eqb-true u t same)
    at false apart None next more is = absurd (false≢true is)
    at false apart (Some v) next more is = goes_on v next (more v is)

-- ---- how long a way is

-- t is reached first after so many steps
abbrev pub First : (ℕ → Option ℕ) → ℕ → ℕ → ℕ → Type 0
First waits t zero u = u ≡ t
First waits t (suc k) u = (u ≡ t → ⊥) × ((v : ℕ) × (waits u ≡ Some v) × First waits t k v)

first_from_leads : (waits : ℕ → Option ℕ) (t u : ℕ) → Leads waits t u
    → (k : ℕ) × First waits t k u
first_from_leads waits t u (arrived is) = (0, is)
first_from_leads waits t u (goes_on v next rest) =
    at (first_from_leads waits t v rest) (cases_eq u t)
  where
    at : ((k : ℕ) × First waits t k v) → (u ≡ t) ⊎ (u ≡ t → ⊥) → (k : ℕ) × First waits t k u
    at more (inl same) = (0, same)
    at more (inr apart) = (suc more.0, (apart, (v, next, more.1)))

test_from_first : (waits : ℕ → Option ℕ) (t most k u : ℕ) → k ≤ most → First waits t k u
    → leads_to waits most u t ≡ true
test_from_first waits t zero zero u within first = eq-eqb u t first
test_from_first waits t zero (suc k) u within first = absurd (omega arith)
test_from_first waits t (suc most) zero u within first =
    let here : (u == t) ≡ true = eq-eqb u t first in rw here refl
test_from_first waits t (suc most) (suc k) u within first =
    let below : k ≤ most = omega arith in
    let apart : (u == t) ≡ false = ne_eqb u t first.0 in
    let next : waits u ≡ Some first.1.0 = first.1.1 in
    rw apart (rw next (test_from_first waits t most k first.1.0 below first.1.2))

one_first : (waits : ℕ → Option ℕ) (t j k u : ℕ) → First waits t j u → First waits t k u → j ≡ k
one_first waits t zero zero u a b = refl
one_first waits t zero (suc k) u a b = absurd (b.0 a)
one_first waits t (suc j) zero u a b = absurd (a.0 b)
one_first waits t (suc j) (suc k) u a b =
    let next : Some a.1.0 ≡ Some b.1.0 = sym a.1.1 ∙ b.1.1 in
    let same : a.1.0 ≡ b.1.0 = cc in
    let P : ℕ → Type 0 = λ v. First waits t j v in
    ap suc (one_first waits t j k b.1.0 (subst P same a.1.2) b.1.2)

-- the numbers on the way
abbrev on_way : (waits : ℕ → Option ℕ) (t k u : ℕ) → First waits t k u → List ℕ
on_way waits t zero u first = u ∷ []
on_way waits t (suc k) u first = u ∷ on_way waits t k first.1.0 first.1.2

length-on_way : (waits : ℕ → Option ℕ) (t k u : ℕ) (first : First waits t k u)
    → length (on_way waits t k u first) ≡ suc k
length-on_way waits t zero u first = refl
length-on_way waits t (suc k) u first = ap suc (length-on_way waits t k first.1.0 first.1.2)

not_same : (waits : ℕ → Option ℕ) (t k w : ℕ) → First waits t k w → (m u : ℕ)
    → First waits t m u → k < m → eqb u w ≡ false
not_same waits t k w first m u farther less = ne_eqb u w different
  where
    different : u ≡ w → ⊥
    different same =
        let P : ℕ → Type 0 = λ v. First waits t m v in
        let equal : m ≡ k = one_first waits t m k w (subst P same farther) first in
        absurd (omega arith)

-- whoever is farther away is none of those on the way
apart_from_way : (waits : ℕ → Option ℕ) (t k w : ℕ) (first : First waits t k w) (m u : ℕ)
    → First waits t m u → k < m
    → AllByRecursion (λ y. eqb u y ≡ false) (on_way waits t k w first)
apart_from_way waits t zero w first m u farther less =
    (not_same waits t zero w first m u farther less, tt)
apart_from_way waits t (suc k) w first m u farther less =
    let below : k < m = omega arith in (
      not_same waits t (suc k) w first m u farther less,
      apart_from_way waits t k first.1.0 first.1.2 m u farther below,
    )

way_is_distinct : (waits : ℕ → Option ℕ) (t k u : ℕ) (first : First waits t k u)
    → IsDistinct eqb (on_way waits t k u first)
unfolding IsDistinct
way_is_distinct waits t zero u first = (tt, tt)
way_is_distinct waits t (suc k) u first =
    let below : k < suc k = omega arith in (
      apart_from_way waits t k first.1.0 first.1.2 (suc k) u first below,
      way_is_distinct waits t k first.1.0 first.1.2,
    )

way_is_below : (waits : ℕ → Option ℕ) (t n : ℕ) → ((x v : ℕ) → waits x ≡ Some v → v < n)
    → (k u : ℕ) (first : First waits t k u) → u < n
    → (q : ℕ) → list_any (eqb q) (on_way waits t k u first) ≡ true → q < n
way_is_below waits t n bound zero u first below q has =
    elim (or_cases (eqb q u) false has) [
      | inl same ↦ let is : q ≡ u = eqb-true q u same in omega arith
      | inr none ↦ absurd (false≢true none)
    ]
way_is_below waits t n bound (suc k) u first below q has =
    elim (or_cases (eqb q u) (list_any (eqb q) (on_way waits t k first.1.0 first.1.2)) has) [
      | inl same ↦ let is : q ≡ u = eqb-true q u same in omega arith
      | inr rest ↦ way_is_below waits t n bound k first.1.0 first.1.2
          (bound u first.1.0 first.1.1) q rest
    ]

-- a way among numbers below n has fewer steps than n, so so many are enough to follow it
pub test_from_leads : (waits : ℕ → Option ℕ) (t n u : ℕ)
    → ((x v : ℕ) → waits x ≡ Some v → v < n) → u < n → Leads waits t u
    → leads_to waits n u t ≡ true
test_from_leads waits t n u bound below leads =
    let first : (k : ℕ) × First waits t k u = first_from_leads waits t u leads in
    let short : length (on_way waits t first.0 u first.1) ≤ n =
    length-le_from_distinct_below (on_way waits t first.0 u first.1) n
    (way_is_distinct waits t first.0 u first.1)
    (way_is_below waits t n bound first.0 u first.1 below) in
    let long : length (on_way waits t first.0 u first.1) ≡ suc first.0 =
    length-on_way waits t first.0 u first.1 in
    let within : first.0 ≤ n = omega arith in
    test_from_first waits t n first.0 u within first.1

-- ---- edges that go, and one that comes

-- a graph with fewer edges has no more ways
pub leads_in_more : (old new : ℕ → Option ℕ)
    → ((x v : ℕ) → new x ≡ Some v → old x ≡ Some v)
    → (t u : ℕ) → Leads new t u → Leads old t u
leads_in_more old new fewer t u (arrived same) = arrived same
leads_in_more old new fewer t u (goes_on v next rest) =
    goes_on v (fewer u v next) (leads_in_more old new fewer t v rest)

pub acyclic_with_fewer : (old new : ℕ → Option ℕ)
    → ((x v : ℕ) → new x ≡ Some v → old x ≡ Some v) → IsAcyclic old → IsAcyclic new
acyclic_with_fewer old new fewer acyclic t u next leads =
    acyclic t u (fewer t u next) (leads_in_more old new fewer t u leads)

leads_through : (waits : ℕ → Option ℕ) (t u v : ℕ) → Leads waits u v → Leads waits t u
    → Leads waits t v
leads_through waits t u v (arrived same) more =
    let P : ℕ → Type 0 = λ w. Leads waits t w in subst P (sym same) more
leads_through waits t u v (goes_on w next rest) more =
    goes_on w next (leads_through waits t u w rest more)

-- the edges of t are new ones to u alone, and the others are old ones
pub record GainsEdge (old new : ℕ → Option ℕ) (t u : ℕ) : Type 0 where
  pub others : (x v : ℕ) → (t == x) ≡ false → new x ≡ Some v → old x ≡ Some v
  pub only : (v : ℕ) → new t ≡ Some v → v ≡ u

module _ (old new : ℕ → Option ℕ) (t u : ℕ) (gains : GainsEdge old new t u) where
  -- a way to t that is new is an old one, up to where it first comes to t
  old_way : (x : ℕ) → Leads new t x → Leads old t x
  old_way x (arrived same) = arrived same
  old_way x (goes_on v next rest) = at (t == x) refl (old_way v rest)
    where
      at : (b : Bool) → (t == x) ≡ b → Leads old t v → Leads old t x
      at true same more = arrived (sym (eqb-true t x same))
      at false apart more = goes_on v (gains.others x v apart next) more

  -- any other new way is an old one, or comes through t and u
  split_way : (x y : ℕ) → Leads new x y → Leads old x y ⊎ (Leads new t y × Leads new x u)
  split_way x y (arrived same) = inl (arrived same)
  split_way x y (goes_on v next rest) = at (t == y) refl (split_way x v rest)
    where
      at : (b : Bool) → (t == y) ≡ b → Leads old x v ⊎ (Leads new t v × Leads new x u)
          → Leads old x y ⊎ (Leads new t y × Leads new x u)
      at true same more =
          let is : t ≡ y = eqb-true t y same in
          let to_u : v ≡ u = gains.only v (ap new is ∙ next) in
          let P : ℕ → Type 0 = λ w. Leads new x w in
          inr (arrived (sym is), subst P to_u rest)
      at false apart (inl more) = inl (goes_on v (gains.others y v apart next) more)
      at false apart (inr more) = inr (goes_on v next more.0, more.1)

  -- where u doesn't lead to t, the new edge closes no cycle
  pub acyclic_with_edge : (Leads old t u → ⊥) → IsAcyclic old → IsAcyclic new
  acyclic_with_edge apart acyclic x y next leads = at (t == x) refl
    where
      at : (b : Bool) → (t == x) ≡ b → ⊥
      at true same =
          let is : t ≡ x = eqb-true t x same in
          let to_u : y ≡ u = gains.only y (ap new is ∙ next) in
          let P : ℕ → Type 0 = λ w. Leads new w y in
          let Q : ℕ → Type 0 = λ w. Leads new t w in
          apart (old_way u (subst Q to_u (subst P (sym is) leads)))
      at false different =
          elim (split_way x y leads) [
            | inl before ↦ acyclic x y (gains.others x y different next) before
            | inr parts ↦ apart (old_way u
                (leads_through new t x u parts.1 (goes_on y next parts.0)))
          ]
