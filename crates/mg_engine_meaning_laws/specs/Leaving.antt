-- What is in memory once a transaction has ended: it is gone, with its work and its base, and all else stays.
use Rattle.std.proofs.Common.{◌≡◌, ◌≢◌, ◌⊎◌, inl, inr, ◌==◌, ℕ, Bool, true, false, List, ◌∷◌, Option, None, Some, refl, sym, ap, ◌∙◌, subst}
use Rattle.std.proofs.lemmas.Bool.{cases_eq, eq-eqb, eqb-true, ne_eqb}
use Rattle.mg_base.specs.Disk.{Meaning}
use Rattle.mg_base.specs.declared.transaction.TxState.{TxState}
use Rattle.mg_base.specs.declared.transaction.TxState.TheVariants.{Active}
use Rattle.mg_chain.specs.Bases.{live_after}
use Rattle.mg_engine_step_laws.specs.commits.PageWrites.{KeepAsking}
use Rattle.mg_model.specs.declared.opening.Opening.{Opening}
use Rattle.mg_model.specs.Effects.{doer, is_its}
use Rattle.mg_model.specs.History.{Effect, Ends, Entries, Entry, effect_of, transaction_of}
use Rattle.mg_model.specs.Machine.{is_of, next_after, state_after, state_of, waited_on}
use Rattle.mg_pool.specs.Dirty.{is_marked}
use Rattle.mg_pool.specs.declared.pool.Pool.{Pool}
use Rattle.mg_records.specs.Keeping.{CommitsStay, TablesStay}
use Rattle.mg_snap.specs.Live.{after_leave}
use Rattle.mg_space.specs.declared.links.FireLinks.{FireLinks}
use Rattle.mg_engine_step_laws.specs.standing.Following.{FollowsEntry, Notes}
use Rattle.mg_txlist.specs.TxList.{EndsIn, next_said, said}
use Rattle.mg_txlist.specs.declared.list.TxList.{TxList}
use Rattle.mg_waits.specs.Waits.{NowWaits, edges_in}
use Rattle.mg_works.specs.Works.{Working, given_by, given_to, without_work, work_of}
use Rattle.mg_works.specs.WorksLaws.{without_its, without_others}
use Rattle.mg_core.specs.declared.parts.Core.{Core}
use Rattle.mg_engine_meaning_laws.specs.FrameLaws.{apart_from, commits_of, tables_of}
use Rattle.mg_engine_meaning_laws.specs.Meaning.{Places, means}
use Rattle.mg_engine_meaning_laws.specs.Standings.{AreSeen, Numbers, Tables, asked_in, asked_kept, mode_kept, session_kept, sessions_in, standing_of, undo_kept}

-- the engine without the transaction
abbrev pub left_by : {D : Type 0} → Core D → List (ℕ × ℕ) → TxList → Pool D FireLinks → ℕ → Core D
left_by old waits list store t = record old {
  waits = waits;
  store = store;
  list = list;
  works = without_work t old.works;
  live = after_leave old.live t;
}

module _ {D P : Type 0} (m : Meaning D) (places : Places P) (old : Core D) (waits : List (ℕ × ℕ))
    (list : TxList) (store : Pool D FireLinks) (t : ℕ) where
  pub given_same : (u : ℕ) (name : List ℕ) → is_of u (Some t) ≡ false
      → given_to (without_work t old.works) u name ≡ given_to old.works u name
  given_same u name not_ = ap (λ (w : Option Working). given_by w name)
      (without_others old.works t u (apart_from u t not_))

  -- the tables that were given to others are those that they see
  pub seen_still : (tables : Tables) → AreSeen old.works tables → AreSeen (without_work t old.works) tables
  seen_still tables seen u name table given = at (cases_eq u t)
    where
      at : (u ≡ t) ⊎ (u ≢ t) → tables u name ≡ Some table
      at (inl same) =
          let none : given_to (without_work t old.works) u name ≡ None =
          ap (λ (w : Option Working). given_by w name)
          (ap (work_of (without_work t old.works)) same ∙ without_its old.works t) in
          let both : None ≡ Some table = sym none ∙ given in absurd cc
      at (inr ne) = seen u name table
          (sym (ap (λ (w : Option Working). given_by w name) (without_others old.works t u ne)) ∙ given)

  pub tables_left : TablesStay (means m places) old (left_by old waits list store t) (Some t)
  tables_left = tables_of m places old (left_by old waits list store t) (Some t)
      (λ u name not_. given_same u name not_)

  -- of the pages that were written for others' commits none comes to be marked again
  pub commits_left : ((page who : ℕ) → is_marked old.store.dirty page who ≡ false
      → is_marked store.dirty page who ≡ false)
      → CommitsStay (means m places) old (left_by old waits list store t) (Some t)
  commits_left unmarked = commits_of m places old (left_by old waits list store t) (Some t)
      (λ u not_. ap asked_kept (without_others old.works t u (apart_from u t not_)))
      (λ u not_. ap session_kept (without_others old.works t u (apart_from u t not_)))
      (λ u page not_ was none. unmarked page (sessions_in old.works u) none)

  -- ---- memory follows the entry

  module _ (end : TxState) (ends : EndsIn old.list list t end) (over_ : end ≢ Active) (o : Opening)
      (h : Entries) (e : Entry) (is : effect_of e ≡ Ends t end) where
    pub its_is : (u : ℕ) → is_its u e ≡ (t == u)
    its_is u = ap (λ (f : Effect). is_of u (doer f)) is

    state_now : (u : ℕ) → said list u ≡ state_after (effect_of e) u (said old.list u)
    state_now u = at (cases_eq u t)
      where
        at : (u ≡ t) ⊎ (u ≢ t) → said list u ≡ state_after (effect_of e) u (said old.list u)
        at (inl same) = ap (said list) same ∙ (ends.here
            ∙ sym (ap (λ (f : Effect). state_after f u (said old.list u)) is
            ∙ rw (eq-eqb t u (sym same)) refl))
        at (inr ne) = ends.others u ne
            ∙ sym (ap (λ (f : Effect). state_after f u (said old.list u)) is
            ∙ rw (ne_eqb t u (λ same. ne (sym same))) refl)

    not_its : (u : ℕ) → is_its u e ≡ true → said list u ≡ Active → ⊥
    not_its u its active = over_ (sym ends.here
        ∙ (ap (said list) (eqb-true t u (sym (its_is u) ∙ its)) ∙ active))

    pub follows_end : ((keeps : ℕ → Bool) → live_after (Ends t end) keeps old.live ≡ after_leave old.live t)
        → transaction_of e.event ≡ Some t → waited_on e.answer ≡ None
        → NowWaits (edges_in old.waits) (edges_in waits) t None → (numbers : Numbers) (tables : Tables)
        → FollowsEntry o h e (standing_of old numbers tables)
        (standing_of (left_by old waits list store t) numbers tables)
    follows_end leaves whose none over numbers tables = record {
      limit = refl;
      next = ends.next ∙ sym (ap (λ (f : Effect). next_after f (next_said old.list)) is);
      state = state_now;
      live = sym (ap (λ (f : Effect). live_after f (λ u. (mode_kept (work_of old.works u)).snapshot) old.live) is
          ∙ leaves (λ u. (mode_kept (work_of old.works u)).snapshot));
      waits = subst (λ (who : Option ℕ). Notes who e.answer (edges_in old.waits) (edges_in waits)) (sym whose)
          (subst (λ (who : Option ℕ). NowWaits (edges_in old.waits) (edges_in waits) t who) (sym none) over);
      others = λ u not_ active.
          let ne : u ≢ t = apart_from u t (sym (its_is u) ∙ not_) in record {
            mode = ap mode_kept (without_others old.works t u ne);
            session = ap session_kept (without_others old.works t u ne);
            undo = ap undo_kept (without_others old.works t u ne);
            number = refl;
            table = λ name. refl;
          };
      its = λ u its active. absurd (not_its u its active);
      apart = λ u v its not_ active also same. not_its u its active;
    }

    -- those that are active ask as they did
    pub keep_asking : KeepAsking o (e ∷ h) (asked_in old.works) (asked_in (without_work t old.works))
        (sessions_in old.works) (sessions_in (without_work t old.works))
    keep_asking u active = at (cases_eq u t)
      where
        at : (u ≡ t) ⊎ (u ≢ t) → (asked_in (without_work t old.works) u ≡ asked_in old.works u)
            × (sessions_in (without_work t old.works) u ≡ sessions_in old.works u)
        at (inl same) =
            let gone : state_after (effect_of e) u (state_of o h u) ≡ end =
            ap (λ (f : Effect). state_after f u (state_of o h u)) is ∙ rw (eq-eqb t u (sym same)) refl in
            absurd (over_ (sym gone ∙ active))
        at (inr ne) = (
          ap asked_kept (without_others old.works t u ne),
          ap session_kept (without_others old.works t u ne),
        )

    -- and stay active
    pub still_active : (u : ℕ) → is_of u (Some t) ≡ false → state_of o h u ≡ Active
        → state_of o (e ∷ h) u ≡ Active
    still_active u not_ active = ap (λ (f : Effect). state_after f u (state_of o h u)) is
        ∙ (rw (ne_eqb t u (λ same. apart_from u t not_ (sym same))) refl ∙ active)
