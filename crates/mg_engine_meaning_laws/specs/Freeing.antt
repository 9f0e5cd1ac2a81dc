-- The session of a transaction that ends is free then.
use Rattle.std.proofs.Common.{◌≡◌, ◌==◌, ◌||◌, cond, ℕ, Bool, true, false, not, List, [], ◌∷◌, None, Some, refl, sym, ap, ◌∙◌}
use Rattle.std.specs.Prelude.{if◌then◌else◌}
use Rattle.std.proofs.lemmas.Bool.{eq-eqb, eqb-true, false≢true}
use Rattle.mg_base.specs.Disk.{Meaning}
use Rattle.mg_records.specs.Sessions.{SessionsStay}
use Rattle.mg_works.specs.Works.{AreApart, Working, has_session, without_work, work_of}
use Rattle.mg_works.specs.WorksLaws.{without_free, without_others}
use Rattle.mg_core.specs.declared.parts.Core.{Core}
use Rattle.mg_engine_meaning_laws.specs.FrameLaws.{apart_from}
use Rattle.mg_engine_meaning_laws.specs.Meaning.{Places, means}

-- a work that is found has its session among the works
found_session : (works : List Working) (u : ℕ) (a : Working) → work_of works u ≡ Some a
    → has_session works a.session ≡ true
found_session [] u a found = absurd cc
found_session (w ∷ works) u a found = at (w.number == u) (found_session works u a) found
  where
    some : (x y : Working) → Some x ≡ Some y → x ≡ y
    some x y same = cc

    or_true : (b : Bool) → (b || true) ≡ true
    or_true true = refl
    or_true false = refl

    at : (b : Bool) → (work_of works u ≡ Some a → has_session works a.session ≡ true)
        → cond b (Some w) (work_of works u) ≡ Some a
        → (w.session == a.session || has_session works a.session) ≡ true
    at true more is = rw (eq-eqb w.session a.session (ap (λ (x : Working). x.session) (some w a is))) refl
    at false more is = ap (λ (b : Bool). w.session == a.session || b) (more is) ∙ or_true (w.session == a.session)

-- without the one work that a session has, the session is free
pub freed : (works : List Working) (t : ℕ) (a : Working) → AreApart works → work_of works t ≡ Some a
    → has_session (without_work t works) a.session ≡ false
freed [] t a apart found = absurd cc
freed (w ∷ works) t a apart found = at (w.number == t) (freed works t a apart.3) found
  where
    some : (x y : Working) → Some x ≡ Some y → x ≡ y
    some x y same = cc

    -- the first one's session is no other's
    other : (b : Bool) → (w.session == a.session) ≡ b → work_of works t ≡ Some a → b ≡ false
    other false is behind = refl
    other true is behind = absurd (false≢true (sym apart.1
        ∙ (ap (has_session works) (eq_of is) ∙ found_session works t a behind)))
      where
        eq_of : (w.session == a.session) ≡ true → w.session ≡ a.session
        eq_of is = eqb-true w.session a.session is

    at : (b : Bool) → (work_of works t ≡ Some a → has_session (without_work t works) a.session ≡ false)
        → cond b (Some w) (work_of works t) ≡ Some a
        → has_session (if not b then w ∷ without_work t works else without_work t works) a.session ≡ false
    at true more is = without_free works t a.session
        (ap (has_session works) (sym (ap (λ (x : Working). x.session) (some w a is))) ∙ apart.1)
    at false more is = ap (λ (b : Bool). b || has_session (without_work t works) a.session)
        (refl_of (w.session == a.session) refl is) ∙ more is
      where
        refl_of : (b : Bool) → (w.session == a.session) ≡ b → work_of works t ≡ Some a
            → (w.session == a.session) ≡ false
        refl_of b same behind = same ∙ other b same behind

-- the sessions after a transaction has ended
pub sessions_end : {D P : Type 0} (m : Meaning D) (places : Places P) (old new : Core D) (t : ℕ)
    → AreApart old.works → new.works ≡ without_work t old.works
    → SessionsStay (means m places) old new None (Some t)
sessions_end {D} m places old new t apart is = record {
  free = λ session not_ free. ap (λ (works : List Working). has_session works session) is
      ∙ without_free old.works t session free;
  works = λ u session not_ was. record {
    work = was.work;
    its = ap (λ (works : List Working). work_of works u) is
        ∙ (without_others old.works t u (apart_from u t not_) ∙ was.its);
    by = was.by;
  };
  ended = λ u session same was. ap (λ (works : List Working). has_session works session) is
      ∙ (ap (has_session (without_work t old.works)) (sym was.by)
      ∙ freed old.works t was.work apart (ap (work_of old.works) (eqb-true t u same) ∙ was.its));
}
