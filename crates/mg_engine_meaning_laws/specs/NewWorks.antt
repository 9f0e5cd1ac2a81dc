-- The works with that of a transaction that has begun.
use Rattle.std.proofs.Common.{◌≡◌, ◌≢◌, ◌⊎◌, inl, inr, ◌==◌, ◌||◌, ◌-◌, ◌<◌, ℕ, Bool, true, false, List, [], ◌∷◌, ◌++◌, length, Option, None, Some, refl, sym, ap, ◌∙◌, arith, cond, nat_lt}
use Rattle.std.specs.Prelude.{is_some}
use Rattle.std.proofs.Math.Path.{fun_ext}
use Rattle.std.proofs.lemmas.List.{get_or_past}
use Rattle.std.proofs.lemmas.Bool.{cases_eq, cases_lt, eq-eqb, false≢true, ltb-false, ltb-true}
use Rattle.mg_base.specs.Disk.{Meaning}
use Rattle.mg_base.specs.declared.transaction.TxState.TheVariants.{Active, Committed, Dead}
use Rattle.mg_model.specs.declared.event.Mode.{Mode}
use Rattle.mg_records.specs.Sessions.{SessionsStay}
use Rattle.mg_works.specs.Works.{Working, begun, given_by, given_to, has_session, work_of}
use Rattle.mg_works.specs.WorksLaws.{more_its, more_others, more_sessions}
use Rattle.mg_image.specs.Inventory.{settled}
use Rattle.mg_txlist.specs.TxList.{bits_said, next_said, own_said, said}
use Rattle.mg_txlist.specs.declared.list.TxList.{TxList}
use Rattle.mg_core.specs.declared.parts.Core.{Core}
use Rattle.mg_core.specs.Cores.{IsCore}
use Rattle.mg_engine_meaning_laws.specs.Meaning.{Places, WorksFor, means}
use Rattle.mg_engine_meaning_laws.specs.Standings.{asked_in, asked_kept, session_kept, sessions_in}

-- ---- the next number

-- an active transaction is one of those that were drawn
active_drawn : (list : TxList) (t : ℕ) → said list t ≡ Active → t < next_said list
unfolding said
active_drawn list t is = at (t == 0) refl (nat_lt t list.first) refl is
  where
    at : (z : Bool) → (t == 0) ≡ z → (b : Bool) → nat_lt t list.first ≡ b
        → cond z Committed (cond b (settled (bits_said list t)) (own_said list (t - list.first))) ≡ Active
        → t < next_said list
    at true nought b below is = absurd cc
    at false nought true below is = let low = ltb-true t list.first below in omega (arith, low)
    at false nought false below is = elim (cases_lt (t - list.first) (length list.own.items)) [
      | inl inside ↦ let high = ltb-false t list.first below in omega (arith, inside, high)
      | inr past ↦ absurd (let h : Dead ≡ Active = sym (get_or_past list.own.items (t - list.first) Dead past) ∙ is in cc)
    ]

-- the next one has no work
pub next_none : {D : Type 0} (m : Meaning D) (core : Core D) (t : ℕ) → IsCore m core → t ≡ next_said core.list
    → work_of core.works t ≡ None
next_none m core t is next = at (work_of core.works t) refl
  where
    at : (found : Option Working) → work_of core.works t ≡ found → work_of core.works t ≡ None
    at None found = found
    at (Some w) found = absurd (let low = active_drawn core.list t (is.active.is_active t (ap is_some found)) in
        omega (arith, low, next))

-- ---- its work

-- a session of a work is there
found_session : (works : List Working) (u : ℕ) (a : Working) → work_of works u ≡ Some a
    → has_session works a.session ≡ true
found_session [] u a found = absurd cc
found_session (w ∷ works) u a found = at (w.number == u) (found_session works u a) found
  where
    some : (x y : Working) → Some x ≡ Some y → x ≡ y
    some x y same = cc

    or_true : (b : Bool) → (b || true) ≡ true
    or_true true = refl
    or_true false = refl

    at : (b : Bool) → (work_of works u ≡ Some a → has_session works a.session ≡ true)
        → cond b (Some w) (work_of works u) ≡ Some a
        → (w.session == a.session || has_session works a.session) ≡ true
    at true more is = rw (eq-eqb w.session a.session (ap (λ (x : Working). x.session) (some w a is))) refl
    at false more is = ap (λ (b : Bool). w.session == a.session || b) (more is) ∙ or_true (w.session == a.session)

module _ (works : List Working) (t session : ℕ) (mode : Mode) (none : work_of works t ≡ None) where
  abbrev now : List Working
  now = works ++ begun t session mode ∷ []

  -- those of the others are as they were
  pub begun_others : (u : ℕ) → u ≢ t → work_of (works ++ begun t session mode ∷ []) u ≡ work_of works u
  begun_others u ne = more_others works (begun t session mode) u ne

  pub begun_its : work_of (works ++ begun t session mode ∷ []) t ≡ Some (begun t session mode)
  begun_its = more_its works (begun t session mode) none

  pub begun_asked : asked_in (works ++ begun t session mode ∷ []) ≡ asked_in works
  begun_asked = fun_ext (λ u. at u (cases_eq u t))
    where
      at : (u : ℕ) → (u ≡ t) ⊎ (u ≢ t) → asked_in (works ++ begun t session mode ∷ []) u ≡ asked_in works u
      at u (inl same) = ap (asked_in (works ++ begun t session mode ∷ [])) same ∙ (ap asked_kept begun_its
          ∙ (sym (ap asked_kept none) ∙ ap (asked_in works) (sym same)))
      at u (inr ne) = ap asked_kept (begun_others u ne)

  -- no table was given to it yet
  pub begun_given : (name : List ℕ) → given_to (works ++ begun t session mode ∷ []) t name ≡ None
  begun_given name = ap (λ (w : Option Working). given_by w name) begun_its

  -- it has not asked for its commit
  pub none_asked : asked_in works t ≡ false
  none_asked = ap asked_kept none

  -- its session had no other one
  pub begun_apart : has_session works session ≡ false → (u : ℕ) → u ≢ t → is_some (work_of works u) ≡ true
      → sessions_in (works ++ begun t session mode ∷ []) u ≢ session
  begun_apart free u ne has same = at (work_of works u) refl has
    where
      at : (found : Option Working) → work_of works u ≡ found → is_some found ≡ true → ⊥
      at None is has_ = false≢true has_
      at (Some w) is has_ = false≢true (sym free ∙ (ap (has_session works)
          (sym same ∙ (ap session_kept (begun_others u ne) ∙ ap session_kept is))
          ∙ found_session works u w is))

-- sessions go on as they were, but for that of the one that has begun
pub begun_sessions : {D P : Type 0} (m : Meaning D) (places : Places P) (old new : Core D) (t session : ℕ) (mode : Mode)
    → work_of old.works t ≡ None → new.works ≡ old.works ++ begun t session mode ∷ []
    → SessionsStay (means m places) old new (Some session) None
begun_sessions m places old new t session mode none is = record {
  free = λ s not_ free. ap (λ (ws : List Working). has_session ws s) is
      ∙ (more_sessions old.works (begun t session mode) s ∙ both (has_session old.works s) (session == s) free not_);
  works = λ u s not_ was. works_for u s was (cases_eq u t);
  ended = λ u s is_ was. absurd (false≢true is_);
}
  where
    both : (a b : Bool) → a ≡ false → b ≡ false → (a || b) ≡ false
    both a b first second = rw (first, second) refl

    works_for : (u s : ℕ) → WorksFor old u s → (u ≡ t) ⊎ (u ≢ t) → WorksFor new u s
    works_for u s was (inl same) =
        let wrong : None ≡ Some was.work = sym none ∙ (ap (work_of old.works) (sym same) ∙ was.its) in absurd cc
    works_for u s was (inr ne) = record {
      work = was.work;
      its = ap (λ (ws : List Working). work_of ws u) is ∙ (begun_others old.works t session mode none u ne ∙ was.its);
      by = was.by;
    }
