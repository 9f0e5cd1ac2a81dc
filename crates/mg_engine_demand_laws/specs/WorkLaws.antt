-- The works of transactions, one of which has asked for its commit, is new, or is gone.
use Rattle.std.specs.Prelude.{◌≡◌, ◌≢◌, ◌⊎◌, ◌==◌, ◌||◌, ◌-◌, ◌≤◌, ℕ, Bool, true, false, nat_lt, List, [], ◌∷◌, Option, None, Some, is_some}
use Rattle.std.proofs.Common.{inl, inr, refl, sym, ap, ◌∙◌, arith, cond}
use Rattle.std.proofs.lemmas.List.{get_or_past}
use Rattle.std.proofs.lemmas.Bool.{both_ways, cases_eq, eq-eqb, eqb-true, ltb-true, ne_eqb, or_left, or_right}
use Rattle.mg_base.specs.Disk.{Meaning}
use Rattle.mg_base.specs.declared.transaction.TxState.TheVariants.{Active, Committed, Dead}
use Rattle.mg_core.specs.Cores.{IsCore}
use Rattle.mg_core.specs.declared.parts.Core.{Core}
use Rattle.mg_image.specs.Inventory.{settled}
use Rattle.mg_txlist.specs.TxList.{bits_said, next_said, own_said, said}
use Rattle.mg_txlist.specs.declared.list.TxList.{TxList}
use Rattle.mg_works.specs.Works.{AreApart, Working, has_session, work_of}

-- the number that is drawn next is as a dead one's
pub next_dead : (list : TxList) (t : ℕ) → 1 ≤ list.first → t ≡ next_said list → said list t ≡ Dead
unfolding said
next_dead list t some next = at (t == 0) refl (nat_lt t list.first) refl
  where
    at : (z : Bool) → (t == 0) ≡ z → (b : Bool) → nat_lt t list.first ≡ b
        → cond z Committed (cond b (settled (bits_said list t)) (own_said list (t - list.first))) ≡ Dead
    at true nought b below = absurd (let is = eqb-true t 0 nought in omega (arith, is, some, next))
    at false nought true below = absurd (let low = ltb-true t list.first below in omega (arith, low, next))
    at false nought false below = get_or_past list.own.items (t - list.first) Dead (omega (arith, next))

-- so it has no work
pub next_none : {D : Type 0} (m : Meaning D) (core : Core D) (t : ℕ) → IsCore m core → t ≡ next_said core.list
    → work_of core.works t ≡ None
next_none m core t is next = at (work_of core.works t) refl
  where
    at : (found : Option Working) → work_of core.works t ≡ found → work_of core.works t ≡ None
    at None found = found
    at (Some w) found =
        let active : said core.list t ≡ Active = is.active.is_active t (ap is_some found) in
        let dead : said core.list t ≡ Dead = next_dead core.list t is.list.some next in
        let both : Active ≡ Dead = sym active ∙ dead in absurd cc

-- ---- sessions

-- the session of a work is there
session_there : (works : List Working) (u : ℕ) (a : Working) → work_of works u ≡ Some a
    → has_session works a.session ≡ true
session_there [] u a found = absurd cc
session_there (w ∷ works) u a found = at (w.number == u) found (session_there works u a)
  where
    some : (x y : Working) → ◌≡◌ {A = Option Working} (Some x) (Some y) → x ≡ y
    some x y same = cc

    at : (b : Bool) → cond b (Some w) (work_of works u) ≡ Some a
        → (work_of works u ≡ Some a → has_session works a.session ≡ true)
        → (w.session == a.session || has_session works a.session) ≡ true
    at true is more = or_left _ _ (eq-eqb w.session a.session (ap (λ (x : Working). x.session) (some w a is)))
    at false is more = or_right (w.session == a.session) _ (more is)

-- two transactions have two sessions
pub sessions_apart : (works : List Working) → AreApart works → (t u : ℕ) (a b : Working) → t ≢ u
    → work_of works t ≡ Some a → work_of works u ≡ Some b → a.session ≢ b.session
sessions_apart [] apart t u a b other first second = absurd cc
sessions_apart (w ∷ works) apart t u a b other first second =
    at (cases_eq w.number t) (cases_eq w.number u) first second (sessions_apart works apart.3 t u a b other)
  where
    some : (x y : Working) → ◌≡◌ {A = Option Working} (Some x) (Some y) → x ≡ y
    some x y same = cc

    -- the session of the first work is none of the others'
    alone : (v : ℕ) (c : Working) → work_of works v ≡ Some c → w.session ≢ c.session
    alone v c found same = both_ways (has_session works w.session) apart.1
        (ap (has_session works) same ∙ session_there works v c found)

    at : (w.number ≡ t) ⊎ (w.number ≢ t) → (w.number ≡ u) ⊎ (w.number ≢ u)
        → cond (w.number == t) (Some w) (work_of works t) ≡ Some a
        → cond (w.number == u) (Some w) (work_of works u) ≡ Some b
        → (work_of works t ≡ Some a → work_of works u ≡ Some b → a.session ≢ b.session) → a.session ≢ b.session
    at (inl one) (inl two) first_ second_ more same = absurd (other (sym one ∙ two))
    at (inl one) (inr off) first_ second_ more same =
        let its : Some w ≡ Some a = sym (ap (λ (c : Bool). cond c (Some w) (work_of works t)) (eq-eqb w.number t one)) ∙ first_ in
        let later : work_of works u ≡ Some b =
        sym (ap (λ (c : Bool). cond c (Some w) (work_of works u)) (ne_eqb w.number u off)) ∙ second_ in
        alone u b later (ap (λ (x : Working). x.session) (some w a its) ∙ same)
    at (inr off) (inl two) first_ second_ more same =
        let its : Some w ≡ Some b = sym (ap (λ (c : Bool). cond c (Some w) (work_of works u)) (eq-eqb w.number u two)) ∙ second_ in
        let later : work_of works t ≡ Some a =
        sym (ap (λ (c : Bool). cond c (Some w) (work_of works t)) (ne_eqb w.number t off)) ∙ first_ in
        alone t a later (ap (λ (x : Working). x.session) (some w b its) ∙ sym same)
    at (inr off) (inr apart_) first_ second_ more same = more
        (sym (ap (λ (c : Bool). cond c (Some w) (work_of works t)) (ne_eqb w.number t off)) ∙ first_)
        (sym (ap (λ (c : Bool). cond c (Some w) (work_of works u)) (ne_eqb w.number u apart_)) ∙ second_) same
