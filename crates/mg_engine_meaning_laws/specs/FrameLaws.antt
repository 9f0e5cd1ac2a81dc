-- What calls leave of an engine: its store, its works, and the walks of others.
use Rattle.std.proofs.Common.{◌≡◌, ◌≢◌, ◌⊎◌, inl, inr, ◌≤◌, ◌==◌, ◌||◌, cond, ℕ, Bool, true, false, List, [], ◌∷◌, Option, None, Some, refl, sym, ap, ◌∙◌, subst, arith}
use Rattle.std.specs.Prelude.{is_some}
use Rattle.std.proofs.Math.Path.{fun_ext}
use Rattle.std.proofs.lemmas.Bool.{cases_eq, eq-eqb, eqb-true, false≢true}
use Rattle.mg_base.specs.Disk.{Meaning}
use Rattle.mg_base.specs.Image.{Image}
use Rattle.mg_base.specs.declared.geometry.Geometry.{Geometry}
use Rattle.mg_model.specs.declared.opening.Opening.{Opening}
use Rattle.mg_model.specs.declared.refusal.Refusal.{Refusal}
use Rattle.mg_model.specs.History.{Entries}
use Rattle.mg_model.specs.Legal.{durable_count}
use Rattle.mg_model.specs.Machine.{is_of}
use Rattle.mg_pool.specs.Dirty.{is_marked}
use Rattle.mg_pool.specs.declared.pool.Pool.{Pool}
use Rattle.mg_records.specs.Crashing.{LeavesQuietly}
use Rattle.mg_records.specs.Keeping.{CommitsStay, Keeps, TablesStay}
use Rattle.mg_records.specs.Sessions.{SessionsStay}
use Rattle.mg_image.specs.Form.{packed_form}
use Rattle.mg_lasting_laws.specs.Crashes.{HoldsAcknowledged, HoldsFrom, LeavesSince, asked}
use Rattle.mg_works.specs.Works.{AreApart, Working, given_by, given_to, has_session, with_work, work_of}
use Rattle.mg_works.specs.WorksLaws.{with_its, with_none, with_others, with_sessions}
use Rattle.mg_core.specs.declared.parts.Core.{Core}
use Rattle.mg_engine_meaning_laws.specs.Frames.{MayAnswer, StoreGoesOn, WorksStay}
use Rattle.mg_engine_meaning_laws.specs.Meaning.{Places, WorksFor, means}
use Rattle.mg_engine_meaning_laws.specs.Standings.{StandsFor, asked_in, asked_kept, mode_kept, session_kept, sessions_in}

-- ---- who is another one

pub apart_from : (u t : ℕ) → is_of u (Some t) ≡ false → u ≢ t
apart_from u t not_ same = false≢true (sym not_ ∙ eq-eqb t u (sym same))

pub is_apart : (u t : ℕ) → u ≢ t → is_of u (Some t) ≡ false
is_apart u t ne = at (t == u) refl
  where
    at : (b : Bool) → (t == u) ≡ b → (t == u) ≡ false
    at true is = absurd (ne (sym (eqb-true t u is)))
    at false is = is

-- ---- the store

-- a store that was not called
pub store_stands : {D L : Type 0} (m : Meaning D) (store : Pool D L) → StoreGoesOn m store store
store_stands m store = record {
  time = record {
    tells = refl;
    most_writes = refl;
    never_falls = omega arith;
    failed_writes = omega arith;
    later = λ told. omega arith;
    keeps = λ told t c early left. left;
  };
  geometry = refl;
  size = refl;
}

module _ {D P : Type 0} (m : Meaning D) (places : Places P) (old new : Core D) where
  pub keeps_of : (refusal : Option Refusal) → StoreGoesOn m old.store new.store
      → old.damage ≤ new.damage → old.shortages ≤ new.shortages
      → MayAnswer m places old new refusal → Keeps (means m places) old new refusal
  keeps_of refusal goes damaged short may = record {
    faults = (goes.time.never_falls, goes.time.failed_writes);
    damage = damaged;
    shortages = short;
    cause = may.cause;
    offline = may.offline;
    down = may.down;
    tells = goes.time.tells;
    most_writes = goes.time.most_writes;
    time = λ told. record { later = goes.time.later told; keeps = goes.time.keeps told };
    page_limit = ap (λ (g : Geometry). g.limit) goes.geometry;
    sizes = λ size. ap (λ (g : Geometry). g.size == size) goes.geometry;
    holds = λ o h least c holds. subst (λ (n : ℕ). HoldsFrom packed_form n o (asked h) least c)
        (sym goes.size) holds;
    given = λ table was. was;
    places = λ table place was. was;
  }

  -- what a call leaves that adds no durable event, and lets none fail
  pub quiet_of : ((o : Opening) (h : Entries) → StandsFor m old o h → m.tells old.store.disk ≡ true
      → LeavesSince m old.store.disk new.store.disk
      (HoldsAcknowledged packed_form old.store.dirty.size o h))
      → new.store.dirty.size ≡ old.store.dirty.size → LeavesQuietly (means m places) old new
  quiet_of leaves size o h stands told = record {
    each = λ c left. turn c ((leaves o h stands told).since.each c left);
    before = λ t c early left. other t c ((leaves o h stands told).since.before t c early left);
  }
    where
      turn : (c : Image) → HoldsAcknowledged packed_form old.store.dirty.size o h c
          → HoldsFrom packed_form new.store.dirty.size o (asked h) (durable_count h) c
      turn c holds = subst (λ (n : ℕ). HoldsFrom packed_form n o (asked h) (durable_count h) c) (sym size) holds

      other : (t : ℕ) (c : Image)
          → m.left old.store.disk t c ⊎ HoldsAcknowledged packed_form old.store.dirty.size o h c
          → m.left old.store.disk t c
          ⊎ HoldsFrom packed_form new.store.dirty.size o (asked h) (durable_count h) c
      other t c (inl was) = inl was
      other t c (inr holds) = inr (turn c holds)

  -- ---- works

  pub tables_of : (who : Option ℕ) → ((u : ℕ) (name : List ℕ) → is_of u who ≡ false
      → given_to new.works u name ≡ given_to old.works u name)
      → TablesStay (means m places) old new who
  tables_of who same u name table not_ given = same u name not_ ∙ given

  pub commits_of : (who : Option ℕ)
      → ((u : ℕ) → is_of u who ≡ false → asked_in new.works u ≡ asked_in old.works u)
      → ((u : ℕ) → is_of u who ≡ false → sessions_in new.works u ≡ sessions_in old.works u)
      → ((u page : ℕ) → is_of u who ≡ false → asked_in old.works u ≡ true
      → is_marked old.store.dirty page (sessions_in old.works u) ≡ false
      → is_marked new.store.dirty page (sessions_in old.works u) ≡ false)
      → CommitsStay (means m places) old new who
  commits_of who same_asked same_session unmarked = record {
    asked = λ u not_ was. same_asked u not_ ∙ was;
    written = λ u not_ was. record {
      asked = same_asked u not_ ∙ was.asked;
      none = λ page. ap (is_marked new.store.dirty page) (same_session u not_)
          ∙ unmarked u page not_ was.asked (was.none page);
    };
  }

-- ---- one work becomes another

pub works_same : (works : List Working) (t : ℕ) → WorksStay works works t
works_same works t = record {
  others = λ u ne. refl;
  sessions = λ session. refl;
  active = refl;
  session = refl;
  mode = refl;
}

module _ (t : ℕ) (made : Working → Working) (number : (w : Working) → (made w).number ≡ w.number)
    (session : (w : Working) → (made w).session ≡ w.session) (works : List Working) where
  -- something of a work that stays
  pub kept_with : {A : Type 0} (f : Option Working → A) → ((w : Working) → f (Some (made w)) ≡ f (Some w))
      → f (work_of (with_work t made works) t) ≡ f (work_of works t)
  kept_with f same = at (work_of works t) refl
    where
      at : (found : Option Working) → work_of works t ≡ found
          → f (work_of (with_work t made works) t) ≡ f (work_of works t)
      at None is = ap f (with_none t made number session works t is ∙ sym is)
      at (Some w) is = ap f (with_its t made number session works w is) ∙ (same w ∙ sym (ap f is))

  pub works_with : ((w : Working) → (made w).mode ≡ w.mode) → WorksStay works (with_work t made works) t
  works_with mode = record {
    others = λ u ne. with_others t made number session works u ne;
    sessions = λ s. with_sessions t made number session works s;
    active = kept_with is_some (λ w. refl);
    session = kept_with session_kept session;
    mode = kept_with mode_kept mode;
  }

module _ (old new : List Working) (t : ℕ) (stay : WorksStay old new t) where
  -- what is told of each work by itself stays, where it does of that one
  pub kept_all : {A : Type 0} (f : Option Working → A) → f (work_of new t) ≡ f (work_of old t) → (u : ℕ)
      → f (work_of new u) ≡ f (work_of old u)
  kept_all f same u = at (cases_eq u t)
    where
      at : (u ≡ t) ⊎ (u ≢ t) → f (work_of new u) ≡ f (work_of old u)
      at (inl is) = ap (λ (n : ℕ). f (work_of new n)) is ∙ (same ∙ ap (λ (n : ℕ). f (work_of old n)) (sym is))
      at (inr ne) = ap f (stay.others u ne)

  pub same_asked : asked_kept (work_of new t) ≡ asked_kept (work_of old t) → asked_in new ≡ asked_in old
  same_asked same = fun_ext (kept_all asked_kept same)

  pub same_sessions : sessions_in new ≡ sessions_in old
  same_sessions = fun_ext (kept_all session_kept stay.session)

  pub same_modes : (u : ℕ) → mode_kept (work_of new u) ≡ mode_kept (work_of old u)
  same_modes = kept_all mode_kept stay.mode

  pub others_given : (u : ℕ) (name : List ℕ) → u ≢ t → given_to new u name ≡ given_to old u name
  others_given u name ne = ap (λ (w : Option Working). given_by w name) (stay.others u ne)

-- ---- each session has one active transaction at most

found_session : (works : List Working) (u : ℕ) (a : Working) → work_of works u ≡ Some a
    → has_session works a.session ≡ true
found_session [] u a found = absurd cc
found_session (w ∷ works) u a found = at (w.number == u) (found_session works u a) found
  where
    some : (x y : Working) → Some x ≡ Some y → x ≡ y
    some x y same = cc

    or_true : (b : Bool) → (b || true) ≡ true
    or_true true = refl
    or_true false = refl

    at : (b : Bool) → (work_of works u ≡ Some a → has_session works a.session ≡ true)
        → cond b (Some w) (work_of works u) ≡ Some a
        → (w.session == a.session || has_session works a.session) ≡ true
    at true more is = rw (eq-eqb w.session a.session (ap (λ (x : Working). x.session) (some w a is))) refl
    at false more is = ap (λ (b : Bool). w.session == a.session || b) (more is) ∙ or_true (w.session == a.session)

-- two works of one session are one transaction's
pub apart_sessions : (works : List Working) (u t : ℕ) (a b : Working) → AreApart works
    → work_of works u ≡ Some a → work_of works t ≡ Some b → a.session ≡ b.session → u ≡ t
apart_sessions [] u t a b apart found other same = absurd cc
apart_sessions (w ∷ works) u t a b apart found other same =
    at (w.number == u) (w.number == t) refl refl (apart_sessions works u t a b apart.3) found other
  where
    some : (x y : Working) → Some x ≡ Some y → x ≡ y
    some x y is = cc

    -- one of them is the first, and the other is behind it
    never : (c d : Working) (n : ℕ) → Some w ≡ Some c → work_of works n ≡ Some d → c.session ≡ d.session → ⊥
    never c d n first behind is = false≢true (sym apart.1
        ∙ (ap (has_session works) (ap (λ (x : Working). x.session) (some w c first) ∙ is)
        ∙ found_session works n d behind))

    at : (x y : Bool) → (w.number == u) ≡ x → (w.number == t) ≡ y
        → (work_of works u ≡ Some a → work_of works t ≡ Some b → a.session ≡ b.session → u ≡ t)
        → cond x (Some w) (work_of works u) ≡ Some a → cond y (Some w) (work_of works t) ≡ Some b → u ≡ t
    at true true is also more first second = sym (eqb-true w.number u is) ∙ eqb-true w.number t also
    at true false is also more first second = absurd (never a b t first second same)
    at false true is also more first second = absurd (never b a u second first (sym same))
    at false false is also more first second = more first second same

-- one that has asked for its commit, and one that is active
pub one_session : (works : List Working) (u t : ℕ) (w : Working) → AreApart works
    → asked_in works u ≡ true → work_of works t ≡ Some w → sessions_in works u ≡ w.session → u ≡ t
one_session works u t w apart asks its same = at (work_of works u) refl
  where
    at : (found : Option Working) → work_of works u ≡ found → u ≡ t
    at None is = absurd (false≢true (sym (ap asked_kept is) ∙ asks))
    at (Some v) is = apart_sessions works u t v w apart is its (sym (ap session_kept is) ∙ same)

-- sessions go on as they were
pub sessions_of : {D P : Type 0} (m : Meaning D) (places : Places P) (old new : Core D) (t : ℕ)
    → WorksStay old.works new.works t → SessionsStay (means m places) old new None None
sessions_of m places old new t stay = record {
  free = λ session not_ free. stay.sessions session ∙ free;
  works = λ u session not_ was. works_for u session was (cases_eq u t);
  ended = λ u session is was. absurd (false≢true is);
}
  where
    works_for : (u session : ℕ) → WorksFor old u session → (u ≡ t) ⊎ (u ≢ t) → WorksFor new u session
    works_for u session was (inr ne) = record {
      work = was.work;
      its = stay.others u ne ∙ was.its;
      by = was.by;
    }
    works_for u session was (inl same) = at (work_of new.works t) refl
      where
        its_old : work_of old.works t ≡ Some was.work
        its_old = ap (work_of old.works) (sym same) ∙ was.its

        at : (found : Option Working) → work_of new.works t ≡ found → WorksFor new u session
        at None is = absurd (false≢true (sym (ap is_some is) ∙ (stay.active ∙ ap is_some its_old)))
        at (Some w) is = record {
          work = w;
          its = ap (work_of new.works) same ∙ is;
          by = sym (ap session_kept is) ∙ (stay.session ∙ (ap session_kept its_old ∙ was.by));
        }
