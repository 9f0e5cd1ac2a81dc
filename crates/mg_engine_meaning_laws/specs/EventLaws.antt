-- The calls of events without pages: refused ones, what was found, a mark and a savepoint.
use Rattle.std.proofs.Common.{◌≡◌, ◌≢◌, ◌⊎◌, inl, inr, ◌==◌, ◌&&◌, ◌++◌, ◌<◌, ℕ, Bool, true, false, List, ◌∷◌, Option, None, Some, Result, Ok, Err, refl, sym, ap, ◌∙◌, subst, cond}
use Rattle.std.specs.Prelude.{is_some}
use Rattle.std.proofs.lemmas.Bool.{cases_eq, eq-eqb, eqb-true, false≢true}
use Rattle.mg_base.specs.Disk.{Meaning}
use Rattle.mg_base.specs.declared.numbers.TxNo.{TxNo}
use Rattle.mg_base.specs.declared.transaction.TxState.TheVariants.{Active}
use Rattle.mg_expr.specs.declared.expr.Expr.{Expr}
use Rattle.mg_value.specs.declared.shape.Shape.{Shape}
use Rattle.mg_model.specs.declared.answer.Answer.{Answer}
use Rattle.mg_model.specs.declared.answer.Answer.TheVariants.{Fine, No, Rows}
use Rattle.mg_model.specs.declared.change.Change.{Change}
use Rattle.mg_model.specs.declared.change.Deed.{Deed}
use Rattle.mg_model.specs.declared.change.Deed.TheVariants.{Marked, Saved}
use Rattle.mg_model.specs.declared.event.Event.{Event}
use Rattle.mg_model.specs.declared.event.Event.TheVariants.{Find, Mark, Savepoint}
use Rattle.mg_model.specs.declared.opening.Opening.{Opening}
use Rattle.mg_model.specs.declared.refusal.Refusal.{Refusal}
use Rattle.mg_model.specs.declared.refusal.Refusal.TheVariants.{Memory, NotActive, Offline}
use Rattle.mg_model.specs.Answers.{answer, answer_find, if_active, told}
use Rattle.mg_model.specs.Catalog.{catalog_name}
use Rattle.mg_model.specs.Changes.{Cells, row_at}
use Rattle.mg_model.specs.Effects.{is_its}
use Rattle.mg_model.specs.History.{Entries, Entry, Nothing, effect_of, entry, transaction_of}
use Rattle.mg_model.specs.Legal.{IsLawful, is_durable, is_lasting}
use Rattle.mg_model.specs.declared.change.Step.{Step}
use Rattle.mg_model.specs.Machine.{base, database, deeds_by, is_of, mode_of, next_after, own, state_after, state_of, step, steps, takes_base, view, waited_on}
use Rattle.mg_chain.specs.Bases.{live_after}
use Rattle.mg_engine_step_laws.specs.commits.Idle.{IdleGoesOn}
use Rattle.mg_image.specs.Form.{packed_form}
use Rattle.mg_lasting_laws.specs.Changing.{QuietHolds}
use Rattle.mg_lasting_laws.specs.Crashes.{is_failed_write, may_last}
use Rattle.mg_lasting_laws.specs.Entries.{idle_own, is_idle}
use Rattle.mg_pool.specs.Pool.{shown}
use Rattle.mg_records.specs.Adding.{fine_or}
use Rattle.mg_records.specs.Crashing.{LeavesQuietly}
use Rattle.mg_records.specs.Keeping.{Leaves, WalksStay, refusal_in}
use Rattle.mg_records.specs.Reading.{FindAdds, shape_named}
use Rattle.mg_records.specs.Sessions.{SessionsStay}
use Rattle.mg_space.specs.declared.links.FireLinks.{FireLinks}
use Rattle.mg_pool_overlay_laws.specs.Needs.{Asked, Sessions}
use Rattle.mg_engine_step_laws.specs.standing.Following.{FollowsEntry, Notes, StandsOn}
use Rattle.mg_engine_step_laws.specs.standing.Standing.{IsSeenAs, RemembersOne}
use Rattle.mg_txlist.specs.TxList.{next_said, said}
use Rattle.mg_undo.specs.Machine.{NotesDeeds, undo_of}
use Rattle.mg_undo.specs.Undo.{State as Undo, after_point}
use Rattle.mg_waits.specs.Waits.{NowWaits, edges_in}
use Rattle.mg_works.specs.Works.{Working, given_by, given_to, with_point, with_work, work_of}
use Rattle.mg_works.specs.WorksLaws.{with_its}
use Rattle.mg_core.specs.declared.parts.Core.{Core}
use Rattle.mg_core.specs.Cores.{Continues, IsCore, RefusesCall}
use Rattle.mg_core.specs.Events.{BecomesIn, EndsWait, IsRefused, SetsPoint}
use Rattle.mg_engine_meaning_laws.specs.FrameLaws.{apart_from, commits_of, kept_with, same_asked, same_sessions, sessions_of, tables_of, works_same, works_with}
use Rattle.mg_engine_meaning_laws.specs.Frames.{GivesEvent, MayAnswer, WorksStay}
use Rattle.mg_engine_meaning_laws.specs.Laws.{GoesOnOr, TellsFound}
use Rattle.mg_engine_meaning_laws.specs.LawfulLaws.{memory_of}
use Rattle.mg_engine_meaning_laws.specs.KeptLaws.{kept_with_work}
use Rattle.mg_engine_meaning_laws.specs.Meaning.{Places, means}
use Rattle.mg_engine_meaning_laws.specs.MemoryCallLaws.{active_answer, idle_finds, memory_keeps, memory_quiet, memory_stands, memory_walks, nothing_follows, refused_lawful, refused_may}
use Rattle.mg_engine_meaning_laws.specs.Standings.{StandsFor, asked_in, asked_kept, mode_kept, session_kept, standing_of, undo_kept}
use Rattle.mg_engine_meaning_laws.specs.BasesLaws.{bases_over_nothing, bases_stay}

and_false : (b : Bool) → (b && false) ≡ false
and_false true = refl
and_false false = refl

-- a call that is refused waits on nobody, and no page write failed in it
pub refused_waits : {D : Type 0} (core : Core D) (t : ℕ) (refusal : Refusal) → RefusesCall core t refusal
    → waited_on (No refusal) ≡ None
refused_waits core t (Offline faults) refuses = refl
refused_waits core t (NotActive told_) refuses = refl
refused_waits core t refusal refuses = absurd refuses

pub refused_writes : {D : Type 0} (core : Core D) (t : ℕ) (refusal : Refusal) → RefusesCall core t refusal
    → is_failed_write (No refusal) ≡ false
refused_writes core t (Offline faults) refuses = refl
refused_writes core t (NotActive told_) refuses = refl
refused_writes core t refusal refuses = absurd refuses

-- the number of a transaction
number : ℕ → TxNo
number t = record { 0 = t }

-- an entry of which nothing comes, and which is lawful whenever
abbrev idle_entry : ℕ → Entry
idle_entry t = entry (Mark (record { 0 = t })) (No Memory)

module _ {D P : Type 0} (m : Meaning D) (places : Places P) (idle_goes : IdleGoesOn D FireLinks m packed_form)
    (on : StandsOn packed_form) (quiet : QuietHolds packed_form) where
  -- ---- an event of which nothing comes: the wait is over

  module _ (old : Core D) (waits : List (ℕ × ℕ)) (t : ℕ)
      (over : NowWaits (edges_in old.waits) (edges_in waits) t None) where
    abbrev ended : Core D
    ended = record old { waits = waits; works = old.works; live = old.live }

    pub ended_stands : (o : Opening) (h : Entries) (e : Entry) → effect_of e ≡ Nothing
        → transaction_of e.event ≡ Some t → waited_on e.answer ≡ None → is_durable e ≡ false
        → may_last e ≡ false → IsLawful o h e → StandsFor m old o h
        → StandsFor m (record old { waits = waits; works = old.works; live = old.live }) o (e ∷ h)
    ended_stands o h e nothing whose none passing no_failure lawful stands =
        memory_stands m places old waits old.works old.live idle_goes on quiet refl refl o h e stands
        stands.tables stands.given stands.kept (bases_over_nothing o h e nothing stands.bases) lawful passing no_failure (ap is_idle nothing)
        (nothing_follows old waits o h e t nothing whose
        (subst (λ (who : Option ℕ). NowWaits (edges_in old.waits) (edges_in waits) t who) (sym none) over)
        stands.numbers stands.tables)
        (λ shows. idle_finds old.store.geometry.size o h e (standing_of old stands.numbers stands.tables)
        (standing_of (record old { waits = waits; works = old.works; live = old.live }) stands.numbers
        stands.tables) (shown old.store.dirty shows.image) (ap is_idle nothing) (λ u. refl) (λ u. refl)
        (λ u name. refl))

    ended_walks : (who : Option ℕ) → WalksStay (means m places) old
        (record old { waits = waits; works = old.works; live = old.live }) who
    ended_walks who = memory_walks m places old waits old.works old.live (idle_entry t) who refl
        (λ u by not_. refl) (λ u name not_. refl)
        (λ o h stands. ended_stands o h (idle_entry t) refl refl refl refl refl (inr refl) stands)

    pub ended_leaves : (refusal : Option Refusal) (tables walks : Option ℕ)
        → MayAnswer m places old (record old { waits = waits; works = old.works; live = old.live }) refusal
        → Leaves (means m places) old (record old { waits = waits; works = old.works; live = old.live })
        refusal tables walks
    ended_leaves refusal tables walks may = record {
      keeps = memory_keeps m places old waits old.works old.live refusal may;
      tables_stay = tables_of m places old
          (record old { waits = waits; works = old.works; live = old.live }) tables (λ u name not_. refl);
      walks_stay = ended_walks walks;
      commits = commits_of m places old
          (record old { waits = waits; works = old.works; live = old.live }) walks (λ u not_. refl)
          (λ u not_. refl) (λ u page not_ was none. none);
    }

    pub ended_quiet : LeavesQuietly (means m places) old
        (record old { waits = waits; works = old.works; live = old.live })
    ended_quiet = memory_quiet m places old waits old.works old.live

    pub ended_sessions : SessionsStay (means m places) old
        (record old { waits = waits; works = old.works; live = old.live }) None None
    ended_sessions = sessions_of m places old
        (record old { waits = waits; works = old.works; live = old.live }) t (works_same old.works t)

    -- an event that is answered so
    pub ended_gives : (event : Event) (refusal : Refusal) (tables walks : Option ℕ)
        → transaction_of event ≡ Some t → waited_on (No refusal) ≡ None
        → is_failed_write (No refusal) ≡ false
        → MayAnswer m places old (record old { waits = waits; works = old.works; live = old.live })
        (Some refusal)
        → ((o : Opening) (h : Entries) → StandsFor m old o h → IsLawful o h (entry event (No refusal)))
        → GivesEvent m places old (record old { waits = waits; works = old.works; live = old.live }) event
        (No refusal) (Some refusal) tables walks None None
    ended_gives event refusal tables walks whose none wrote may lawful = record {
      adds = λ o h stands. (
        lawful o h stands,
        ended_stands o h (entry event (No refusal)) refl whose none (and_false (is_lasting event))
            (ap (λ (b : Bool). is_lasting event && b) wrote ∙ and_false (is_lasting event))
            (lawful o h stands) stands,
      );
      leaves = ended_leaves (Some refusal) tables walks may;
      crash = ended_quiet;
      sessions = ended_sessions;
    }

  -- ---- a refused event

  pub refused_gives : (old new : Core D) (t : ℕ) (event : Event) (next : Opening → Entries → Answer)
      (refusal : Refusal) (tables walks : Option ℕ) → transaction_of event ≡ Some t
      → ((o : Opening) (h : Entries) → answer o h event ≡ if_active (state_of o h t) (next o h))
      → IsRefused old new t refusal
      → GivesEvent m places old new event (No refusal) (Some refusal) tables walks None None
  refused_gives old new t event next refusal tables walks whose is refused =
      subst (λ (c : Core D). GivesEvent m places old c event (No refusal) (Some refusal) tables walks None None)
      (sym refused.wait.same) (ended_gives old new.waits t refused.wait.over event refusal tables walks whose
      (refused_waits old t refusal refused.refuses) (refused_writes old t refusal refused.refuses)
      (refused_may m places old (record old { waits = new.waits; works = old.works; live = old.live }) t
      refusal refl refused.refuses)
      (λ o h stands. refused_lawful old o h t event (next o h) refusal ((memory_of m old o h stands).state t)
      (is o h) refused.refuses))

  -- one that memory does not suffice for
  pub short_gives : (old new : Core D) (t : ℕ) (event : Event) (tables walks : Option ℕ)
      → transaction_of event ≡ Some t → Continues old t → EndsWait old new t
      → GivesEvent m places old new event (No Memory) (Some Memory) tables walks None None
  short_gives old new t event tables walks whose continues wait =
      subst (λ (c : Core D). GivesEvent m places old c event (No Memory) (Some Memory) tables walks None None)
      (sym wait.same) (ended_gives old new.waits t wait.over event Memory tables walks whose refl refl
      (record { cause = tt; offline = rw continues.0 tt; down = refl })
      (λ o h stands. inr refl))

  -- ---- what was found

  -- the entry has the rows where they are the machine's; what others see goes on as it was, whatever they are
  pub found_gives : (old new : Core D) (t : TxNo) → Continues old t.0 → EndsWait old new t.0
      → (name : List ℕ) (filter : Option Expr) (rows : List Cells)
      → FindAdds (means m places) old new t name filter rows (Ok tt)
      × Leaves (means m places) old new None None None × LeavesQuietly (means m places) old new
      × SessionsStay (means m places) old new None None
  found_gives old new t continues wait name filter rows = subst
      (λ (c : Core D). FindAdds (means m places) old c t name filter rows (Ok tt)
      × Leaves (means m places) old c None None None × LeavesQuietly (means m places) old c
      × SessionsStay (means m places) old c None None) (sym wait.same) (
        λ o h stands is. ended_stands old new.waits t.0 wait.over o h (entry (Find t name filter) (Rows rows)) refl
            refl refl refl refl (inl (sym is)) stands,
        ended_leaves old new.waits t.0 wait.over None None None
            (record { cause = tt; offline = rw continues.0 tt; down = refl }),
        ended_quiet old new.waits t.0 wait.over,
        ended_sessions old new.waits t.0 wait.over,
      )

  -- ---- a point is set

  module _ (old : Core D) (waits : List (ℕ × ℕ)) (t : ℕ)
      (over : NowWaits (edges_in old.waits) (edges_in waits) t None) (name : Option (List ℕ)) where
    abbrev works : List Working
    works = with_work t (with_point name) old.works

    abbrev pointed : Core D
    pointed = record old { waits = waits; works = works; live = old.live }

    stay : WorksStay old.works (with_work t (with_point name) old.works) t
    stay = works_with t (with_point name) (λ w. refl) (λ w. refl) old.works (λ w. refl)

    asks : asked_in (with_work t (with_point name) old.works) ≡ asked_in old.works
    asks = same_asked old.works (with_work t (with_point name) old.works) t stay
        (kept_with t (with_point name) (λ w. refl) (λ w. refl) old.works asked_kept (λ w. refl))

    -- the tables that were given stay
    given_same : (u : ℕ) (table : List ℕ)
        → given_to (with_work t (with_point name) old.works) u table ≡ given_to old.works u table
    given_same u table = at (cases_eq u t)
      where
        its : given_to (with_work t (with_point name) old.works) t table ≡ given_to old.works t table
        its = kept_with t (with_point name) (λ w. refl) (λ w. refl) old.works
            (λ (w : Option Working). given_by w table) (λ w. refl)

        at : (u ≡ t) ⊎ (u ≢ t)
            → given_to (with_work t (with_point name) old.works) u table ≡ given_to old.works u table
        at (inl same) = ap (λ (n : ℕ). given_to (with_work t (with_point name) old.works) n table) same
            ∙ (its ∙ ap (λ (n : ℕ). given_to old.works n table) (sym same))
        at (inr ne) = ap (λ (w : Option Working). given_by w table) (stay.others u ne)

    module _ (o : Opening) (h : Entries) (e : Entry) (stands : StandsFor m old o h) (deed : Deed)
        (idle : is_idle (effect_of e) ≡ true) (mode : mode_of (e ∷ h) t ≡ mode_of h t)
        (none : (u : ℕ) (snapshot : Bool) → takes_base (effect_of e) u snapshot ≡ false)
        (deeds : deeds_by t (steps o (e ∷ h)) ≡ deed ∷ deeds_by t (steps o h))
        (keeps : (number : List ℕ → ℕ) (all : List Deed)
        → undo_of number (deed ∷ all) ≡ after_point (undo_of number all) name) where
      same_base : base o (e ∷ h) t ≡ base o h t
      same_base = ap (λ (b : Bool). cond b (database o h) (base o h t)) (none t (mode_of h t).snapshot)

      view_same : view o (e ∷ h) t ≡ view o h t
      view_same = ap (λ (cs : List Change). cs ++ base o (e ∷ h) t) (idle_own o h e idle t)
          ∙ ap (λ (cs : List Change). own o h t ++ cs) same_base

      undo_is : work_of old.works t ≢ None
          → undo_kept (work_of (with_work t (with_point name) old.works) t)
          ≡ after_point (undo_kept (work_of old.works t)) name
      undo_is some = by (work_of old.works t) refl
        where
          by : (found : Option Working) → work_of old.works t ≡ found
              → undo_kept (work_of (with_work t (with_point name) old.works) t)
              ≡ after_point (undo_kept (work_of old.works t)) name
          by None is = absurd (some is)
          by (Some w) is = ap undo_kept
              (with_its t (with_point name) (λ w. refl) (λ w. refl) old.works w is)
              ∙ sym (ap (λ (x : Option Working). after_point (undo_kept x) name) is)

      pub pointed_one : work_of old.works t ≢ None
          → RemembersOne o h (standing_of old stands.numbers stands.tables) t
          → RemembersOne o (e ∷ h)
          (standing_of (record old { waits = waits; works = with_work t (with_point name) old.works; live = old.live })
          stands.numbers stands.tables) t
      pointed_one some one = record {
        mode = stay.mode ∙ (one.mode ∙ sym mode);
        session = subst (λ (n : ℕ). n < 32) (sym stay.session) one.session;
        undo = undo_is some ∙ (ap (λ (u : Undo). after_point u name) one.undo
            ∙ (sym (keeps (stands.numbers t) (deeds_by t (steps o h)))
            ∙ ap (undo_of (stands.numbers t)) (sym deeds)));
        table = λ table. subst (λ (shape : Option Shape). IsSeenAs table shape (stands.tables t table))
            (ap (λ (cs : List Change). shape_named (row_at cs catalog_name) table) (sym view_same))
            (one.table table);
      }

      -- memory follows the entry
      pub pointed_follows : next_said old.list ≡ next_after (effect_of e) (next_said old.list)
          → ((u : ℕ) → said old.list u ≡ state_after (effect_of e) u (said old.list u))
          → old.live ≡ live_after (effect_of e) (λ u. (mode_kept (work_of old.works u)).snapshot) old.live
          → transaction_of e.event ≡ Some t → waited_on e.answer ≡ None
          → ((u : ℕ) → is_its u e ≡ (t == u)) → work_of old.works t ≢ None
          → RemembersOne o h (standing_of old stands.numbers stands.tables) t
          → FollowsEntry o h e (standing_of old stands.numbers stands.tables)
          (standing_of (record old { waits = waits; works = with_work t (with_point name) old.works; live = old.live })
          stands.numbers stands.tables)
      pointed_follows next state bases whose none_on its some one = record {
        limit = refl;
        next = next;
        state = state;
        live = bases;
        waits = subst (λ (who : Option ℕ). Notes who e.answer (edges_in old.waits) (edges_in waits)) (sym whose)
            (subst (λ (who : Option ℕ). NowWaits (edges_in old.waits) (edges_in waits) t who) (sym none_on) over);
        others = λ u not_ active.
            let ne : u ≢ t = apart_from u t (sym (its u) ∙ not_) in record {
              mode = ap mode_kept (stay.others u ne);
              session = ap session_kept (stay.others u ne);
              undo = ap undo_kept (stay.others u ne);
              number = refl;
              table = λ table. refl;
            };
        its = λ u is active. subst (RemembersOne o (e ∷ h)
            (standing_of (record old { waits = waits; works = with_work t (with_point name) old.works; live = old.live })
            stands.numbers stands.tables)) (eqb-true t u (sym (its u) ∙ is)) (pointed_one some one);
        apart = λ u v is not_ active also same.
            let one_ : u ≡ v = (memory_of m old o h stands).apart u v
            (sym ((memory_of m old o h stands).state u) ∙ active)
            (sym ((memory_of m old o h stands).state v) ∙ also)
            (sym (ap (λ (s : Sessions). s u) (same_sessions old.works (with_work t (with_point name) old.works) t stay))
            ∙ (same ∙ ap (λ (s : Sessions). s v)
            (same_sessions old.works (with_work t (with_point name) old.works) t stay))) in
            false≢true (sym not_ ∙ (ap (λ (n : ℕ). is_its n e) (sym one_) ∙ is));
      }

      pub pointed_stands : next_said old.list ≡ next_after (effect_of e) (next_said old.list)
          → ((u : ℕ) → said old.list u ≡ state_after (effect_of e) u (said old.list u))
          → old.live ≡ live_after (effect_of e) (λ u. (mode_kept (work_of old.works u)).snapshot) old.live
          → transaction_of e.event ≡ Some t → waited_on e.answer ≡ None
          → ((u : ℕ) → is_its u e ≡ (t == u)) → work_of old.works t ≢ None
          → said old.list t ≡ Active → IsLawful o h e → is_durable e ≡ false → may_last e ≡ false
          → StandsFor m
          (record old { waits = waits; works = with_work t (with_point name) old.works; live = old.live }) o (e ∷ h)
      pointed_stands next state bases whose none_on its some active lawful passing no_failure =
          memory_stands m places old waits (with_work t (with_point name) old.works) old.live idle_goes on quiet
          asks
          (same_sessions old.works (with_work t (with_point name) old.works) t stay) o h e stands stands.tables
          (λ u table shape given. stands.given u table shape (sym (given_same u table) ∙ given))
          (kept_with_work t (with_point name) (λ w. refl) (λ w. refl) (λ w. refl) (λ w. refl) old.works
          old.catalog.pointer.0 stands.tables stands.kept) (bases_stay o h e none stands.bases) lawful passing
          no_failure idle (pointed_follows next state bases whose none_on its some
          ((memory_of m old o h stands).active t (sym ((memory_of m old o h stands).state t) ∙ active)))
          (λ shows. idle_finds old.store.geometry.size o h e (standing_of old stands.numbers stands.tables)
          (standing_of (record old { waits = waits; works = with_work t (with_point name) old.works; live = old.live })
          stands.numbers stands.tables) (shown old.store.dirty shows.image) idle (λ u. refl) (λ u. refl)
          (λ u table. refl))

    -- what such a call leaves
    module _ (continues : Continues old t) (e : Entry) (idle : is_idle (effect_of e) ≡ true)
        (goes : (o : Opening) (h : Entries) → StandsFor m old o h → IsLawful o h e
        × StandsFor m
        (record old { waits = waits; works = with_work t (with_point name) old.works; live = old.live }) o (e ∷ h)) where
      pub pointed_gives : GivesEvent m places old
          (record old { waits = waits; works = with_work t (with_point name) old.works; live = old.live })
          e.event e.answer None None None None None
      pointed_gives = record {
        adds = goes;
        leaves = record {
          keeps = memory_keeps m places old waits (with_work t (with_point name) old.works) old.live None
              (record { cause = tt; offline = rw continues.0 tt; down = refl });
          tables_stay = tables_of m places old
              (record old { waits = waits; works = with_work t (with_point name) old.works; live = old.live }) None
              (λ u table not_. given_same u table);
          walks_stay = memory_walks m places old waits (with_work t (with_point name) old.works) old.live e None
              idle (λ u by not_. refl) (λ u table not_. given_same u table) (λ o h stands. (goes o h stands).1);
          commits = commits_of m places old
              (record old { waits = waits; works = with_work t (with_point name) old.works; live = old.live }) None
              (λ u not_. ap (λ (a : Asked). a u) asks)
              (λ u not_. ap (λ (s : Sessions). s u)
              (same_sessions old.works (with_work t (with_point name) old.works) t stay))
              (λ u page not_ was none. none);
        };
        crash = memory_quiet m places old waits (with_work t (with_point name) old.works) old.live;
        sessions = sessions_of m places old
            (record old { waits = waits; works = with_work t (with_point name) old.works; live = old.live }) t stay;
      }

  -- ---- a mark, and a savepoint

  has_some : (old : Core D) (t : ℕ) → IsCore m old → said old.list t ≡ Active → work_of old.works t ≢ None
  has_some old t core active none =
      false≢true (sym (ap is_some none) ∙ core.active.has_work t active)

  same_number : (t u : ℕ) → is_of u (Some t) ≡ (t == u)
  same_number t u = refl

  deeds_more : (o : Opening) (h : Entries) (t : ℕ) (deed : Deed) (all : List Step)
      → deeds_by t (step t deed ∷ all) ≡ deed ∷ deeds_by t all
  deeds_more o h t deed all = rw (eq-eqb t t refl) refl

  pub marks_give : NotesDeeds → (old new : Core D) (t : TxNo) → IsCore m old → Continues old t.0
      → BecomesIn old new t.0 (with_work t.0 (with_point None) old.works) old.live
      → GivesEvent m places old new (Mark t) Fine None None None None None
  marks_give notes old new t core continues becomes =
      subst (λ (c : Core D). GivesEvent m places old c (Mark t) Fine None None None None None)
      (sym becomes.same) (pointed_gives old new.waits t.0 becomes.over None continues (entry (Mark t) Fine) refl
      (λ o h stands.
      let lawful : IsLawful o h (entry (Mark t) Fine) = inl (sym (active_answer (state_of o h t.0) Fine
      (sym ((memory_of m old o h stands).state t.0) ∙ continues.1))) in (
        lawful,
        pointed_stands old new.waits t.0 becomes.over None o h (entry (Mark t) Fine) stands Marked refl refl
            (λ u snapshot. refl)
            (deeds_more o h t.0 Marked (steps o h)) notes.marked refl (λ u. refl) refl refl refl (λ u. refl)
            (has_some old t.0 core continues.1) continues.1 lawful refl refl,
      )))

  pub savepoints_give : NotesDeeds → (old new : Core D) (t : TxNo) (name : List ℕ) → IsCore m old
      → Continues old t.0
      → BecomesIn old new t.0 (with_work t.0 (with_point (Some name)) old.works) old.live
      → GivesEvent m places old new (Savepoint t name) Fine None None None None None
  savepoints_give notes old new t name core continues becomes =
      subst (λ (c : Core D). GivesEvent m places old c (Savepoint t name) Fine None None None None None)
      (sym becomes.same) (pointed_gives old new.waits t.0 becomes.over (Some name) continues
      (entry (Savepoint t name) Fine) refl
      (λ o h stands.
      let lawful : IsLawful o h (entry (Savepoint t name) Fine) = inl (sym (active_answer (state_of o h t.0) Fine
      (sym ((memory_of m old o h stands).state t.0) ∙ continues.1))) in (
        lawful,
        pointed_stands old new.waits t.0 becomes.over (Some name) o h (entry (Savepoint t name) Fine) stands
            (Saved name) refl refl (λ u snapshot. refl) (deeds_more o h t.0 (Saved name) (steps o h))
            (λ number all. notes.saved number name all) refl (λ u. refl) refl refl refl (λ u. refl)
            (has_some old t.0 core continues.1) continues.1 lawful refl refl,
      )))

  -- ---- the calls

  -- what a call of a mark or a savepoint answers
  pub sets_point : NotesDeeds → (old new : Core D) (t : TxNo) → IsCore m old
      → (result : Result (Unit {0}) Refusal) → SetsPoint old new t.0 None result
      → GivesEvent m places old new (Mark t) (fine_or result) (refusal_in result) None None None None
  sets_point notes old new t core (Ok x) sets = marks_give notes old new t core sets.0 sets.1
  sets_point notes old new t core (Err Memory) sets = short_gives old new t.0 (Mark t) None None refl sets.0 sets.1
  sets_point notes old new t core (Err refusal) sets = refused_gives old new t.0 (Mark t) (λ o h. Fine) refusal None
      None refl (λ o h. refl) sets

  pub sets_savepoint : NotesDeeds → (old new : Core D) (t : TxNo) (name : List ℕ) → IsCore m old
      → (result : Result (Unit {0}) Refusal) → SetsPoint old new t.0 (Some name) result
      → GivesEvent m places old new (Savepoint t name) (fine_or result) (refusal_in result) None None None None
  sets_savepoint notes old new t name core (Ok x) sets = savepoints_give notes old new t name core sets.0 sets.1
  sets_savepoint notes old new t name core (Err Memory) sets = short_gives old new t.0 (Savepoint t name) None None
      refl sets.0 sets.1
  sets_savepoint notes old new t name core (Err refusal) sets = refused_gives old new t.0 (Savepoint t name)
      (λ o h. Fine) refusal None None refl (λ o h. refl) sets

  -- what a call that tells what was found answers
  pub tells_found : (old new : Core D) (t : TxNo) (name : List ℕ) (filter : Option Expr) (rows : List Cells)
      (result : Result (Unit {0}) Refusal) → EndsWait old new t.0 → GoesOnOr old t.0 result
      → TellsFound m places old new t name filter rows result
  tells_found old new t name filter rows (Ok x) wait continues =
      let gives = found_gives old new t continues wait name filter rows in record {
        adds = gives.0;
        leaves = gives.1;
        crash = gives.2;
        sessions = gives.3;
      }
  tells_found old new t name filter rows (Err refusal) wait refuses =
      let gives : GivesEvent m places old new (Find t name filter) (No refusal) (Some refusal) None None None None =
      refused_gives old new t.0 (Find t name filter) (λ o h. answer_find (told o h) t.0 name filter) refusal None
      None refl (λ o h. refl) (record { refuses = refuses; wait = wait }) in record {
        adds = gives.adds;
        leaves = gives.leaves;
        crash = gives.crash;
        sessions = gives.sessions;
      }
