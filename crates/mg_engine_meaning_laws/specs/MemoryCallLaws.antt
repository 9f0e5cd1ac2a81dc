-- Calls that change nothing but what is in memory: waits, works and bases.
use Rattle.std.proofs.Common.{◌≡◌, ◌≢◌, inl, inr, ◌==◌, ◌&&◌, ◌||◌, ℕ, Bool, true, false, List, ◌∷◌, Option, None, Some, refl, sym, ap, ◌∙◌, subst, arith}
use Rattle.std.proofs.Math.Path.{fun_ext}
use Rattle.std.proofs.lemmas.Bool.{false≢true}
use Rattle.mg_base.specs.Disk.{Meaning}
use Rattle.mg_base.specs.Moments.{started}
use Rattle.mg_base.specs.declared.transaction.TxState.{TxState}
use Rattle.mg_base.specs.declared.transaction.TxState.TheVariants.{Active, Committed, Dead, Limbo}
use Rattle.mg_model.specs.declared.answer.Answer.{Answer}
use Rattle.mg_model.specs.declared.answer.Answer.TheVariants.{No}
use Rattle.mg_model.specs.declared.event.Event.{Event}
use Rattle.mg_model.specs.declared.opening.Opening.{Opening}
use Rattle.mg_model.specs.declared.refusal.Refusal.{Refusal}
use Rattle.mg_model.specs.declared.refusal.Refusal.TheVariants.{NotActive, Offline}
use Rattle.mg_model.specs.declared.table.Table.{Table}
use Rattle.mg_model.specs.Answers.{answer, if_active, is_committed}
use Rattle.mg_model.specs.Changes.{KeyedRows}
use Rattle.mg_model.specs.Effects.{doer, is_its}
use Rattle.mg_grown_catalog_laws.specs.Grown.{makes_alone}
use Rattle.mg_model.specs.History.{Begins, Effect, Ends, Entries, Entry, Gives, Looks, Makes, Marks, Nothing, Saves, TakesBack, effect_of, entry, transaction_of}
use Rattle.mg_model.specs.Legal.{IsLawful, is_durable}
use Rattle.mg_model.specs.Machine.{is_of, next_after, state_after, state_of, waited_on}
use Rattle.mg_chain.specs.Bases.{live_after}
use Rattle.mg_chain.specs.Chains.{takes_version}
use Rattle.mg_engine_step_laws.specs.reads.Walking.{AreToCome, WalkPlace, rec_of}
use Rattle.mg_engine_step_laws.specs.commits.Idle.{IdleGoesOn}
use Rattle.mg_image.specs.Form.{Pages, packed_form}
use Rattle.mg_image.specs.Sound.{IsSoundBy}
use Rattle.mg_lasting_laws.specs.Changing.{QuietHolds}
use Rattle.mg_lasting_laws.specs.Crashes.{HoldsAcknowledged, may_last}
use Rattle.mg_lasting_laws.specs.Entries.{idle_own, idle_state, is_idle}
use Rattle.mg_lasting_laws.specs.Lasting.{LastsOn}
use Rattle.mg_overlay_laws.specs.Overlays.{left_state}
use Rattle.mg_model.specs.Openings.{everyone}
use Rattle.mg_pool.specs.Pool.{shown}
use Rattle.mg_pool_overlay_laws.specs.Needs.{Asked, Sessions}
use Rattle.mg_records.specs.Crashing.{LeavesQuietly}
use Rattle.mg_records.specs.Keeping.{Keeps, WalksStay}
use Rattle.mg_seek.specs.Walks.{records_behind, rows_shown}
use Rattle.mg_snap.specs.Live.{State as Bases, sees}
use Rattle.mg_space.specs.declared.links.FireLinks.{FireLinks}
use Rattle.mg_engine_step_laws.specs.standing.Following.{FollowsEntry, Notes, StandsOn}
use Rattle.mg_engine_step_laws.specs.standing.QuietPages.{FindsAfter}
use Rattle.mg_engine_step_laws.specs.standing.Standing.{Standing}
use Rattle.mg_txlist.specs.TxList.{next_said, said}
use Rattle.mg_waits.specs.Waits.{NowWaits, edges_in}
use Rattle.mg_works.specs.Works.{Working, given_to, work_of}
use Rattle.mg_core.specs.declared.parts.Core.{Core}
use Rattle.mg_core.specs.Cores.{RefusesCall}
use Rattle.mg_engine_meaning_laws.specs.FrameLaws.{keeps_of, quiet_of, store_stands}
use Rattle.mg_engine_meaning_laws.specs.Frames.{MayAnswer}
use Rattle.mg_engine_meaning_laws.specs.LawfulLaws.{left_of}
use Rattle.mg_engine_meaning_laws.specs.Meaning.{AreNext, Places, means, place_at}
use Rattle.mg_engine_meaning_laws.specs.Standings.{AreSeen, KeepsWritten, Numbers, ShowsIt, StandsFor, StandsWhile, Tables, asked_in, mode_kept, sessions_in, standing_of}
use Rattle.mg_engine_meaning_laws.specs.LawfulBases.{BasesAreLawful}

-- ---- answers

-- an event of a transaction that is not active is answered so
pub not_active_answer : (s : TxState) (next : Answer) → s ≢ Active → if_active s next ≡ No (NotActive s)
not_active_answer Active next not_ = absurd (not_ refl)
not_active_answer Limbo next not_ = refl
not_active_answer Dead next not_ = refl
not_active_answer Committed next not_ = refl

pub active_answer : (s : TxState) (next : Answer) → s ≡ Active → if_active s next ≡ next
active_answer s next is = ap (λ (x : TxState). if_active x next) is

-- a refusal of every event of a transaction: the machine gives it, or it comes from outside
pub refused_lawful : {D : Type 0} (core : Core D) (o : Opening) (h : Entries) (t : ℕ) (event : Event)
    (next : Answer) (refusal : Refusal) → said core.list t ≡ state_of o h t
    → answer o h event ≡ if_active (state_of o h t) next → RefusesCall core t refusal
    → IsLawful o h (entry event (No refusal))
refused_lawful core o h t event next (Offline faults) same is refuses = inr refl
refused_lawful core o h t event next (NotActive told_) same is refuses =
    inl (sym (is ∙ (not_active_answer (state_of o h t) next (λ active. refuses.2 (same ∙ active))
    ∙ ap (λ (s : TxState). No (NotActive s)) (sym same ∙ refuses.1))))
refused_lawful core o h t event next refusal same is refuses = absurd refuses

-- it may be answered, where no page write failed in the call
pub refused_may : {D P : Type 0} (m : Meaning D) (places : Places P) (old new : Core D) (t : ℕ)
    (refusal : Refusal) → new.store.offline ≡ old.store.offline → RefusesCall old t refusal
    → MayAnswer m places old new (Some refusal)
refused_may {D} m places old new t (Offline faults) same refuses = record {
  cause = refuses;
  offline = rw refuses refl;
  down = same;
}
refused_may m places old new t (NotActive told_) same refuses = record {
  cause = tt;
  offline = rw refuses.0 tt;
  down = same;
}
refused_may m places old new t refusal same refuses = absurd refuses

-- an idle entry makes no other row of the catalog
pub idle_makes : (h : Entries) (f : Effect) → is_idle f ≡ true → makes_alone h f ≡ true
idle_makes h (Begins t mode) is = refl
idle_makes h (Looks t) is = refl
idle_makes h (Makes t table row) is = absurd (false≢true is)
idle_makes h (Gives t table key row) is = absurd (false≢true is)
idle_makes h (Marks t) is = refl
idle_makes h (Saves t name) is = refl
idle_makes h (TakesBack t point) is = refl
idle_makes h (Ends t end) is = refl
idle_makes h Nothing is = refl

-- ---- the engine afterwards

module _ {D P : Type 0} (m : Meaning D) (places : Places P) (old : Core D) (waits : List (ℕ × ℕ))
    (works : List Working) (live : Bases) where
  abbrev pub now : Core D
  now = record old { waits = waits; works = works; live = live }

  -- pages and counts are as they were
  pub memory_keeps : (refusal : Option Refusal) → MayAnswer m places old now refusal
      → Keeps (means m places) old now refusal
  memory_keeps refusal may = keeps_of m places old now refusal (store_stands m old.store) (omega arith)
      (omega arith) may

  pub memory_quiet : LeavesQuietly (means m places) old now
  memory_quiet = quiet_of m places old now (λ o h stands told. record {
    since = started m old.store.disk (HoldsAcknowledged packed_form old.store.dirty.size o h)
        (left_of m old o h stands);
    left = left_of m old o h stands;
  }) refl

  module _ (idle_goes : IdleGoesOn D FireLinks m packed_form) (on : StandsOn packed_form)
      (quiet : QuietHolds packed_form) (same_asked : asked_in works ≡ asked_in old.works)
      (same_sessions : sessions_in works ≡ sessions_in old.works) (o : Opening) (h : Entries) (e : Entry)
      (stands : StandsFor m old o h) (tables : Tables) where
    pub memory_stands : AreSeen works tables → KeepsWritten old.catalog.pointer.0 works tables
        → BasesAreLawful o (e ∷ h) → IsLawful o h e → is_durable e ≡ false
        → may_last e ≡ false → is_idle (effect_of e) ≡ true
        → FollowsEntry o h e (standing_of old stands.numbers stands.tables)
        (standing_of now stands.numbers tables)
        → ((shows : ShowsIt m old o h (standing_of old stands.numbers stands.tables))
        → FindsAfter packed_form old.store.geometry.size o h e
        (standing_of old stands.numbers stands.tables) (standing_of now stands.numbers tables)
        (shown old.store.dirty shows.image))
        → StandsFor m now o (e ∷ h)
    memory_stands seen kept bases lawful passing no_failure idle follows finds = record {
      tells = stands.tells;
      grows = record {
        limbo = stands.grows.limbo;
        entries = (idle_makes h (effect_of e) idle, stands.grows.entries);
      };
      bases = bases;
      numbers = stands.numbers;
      tables = tables;
      given = seen;
      kept = kept;
      stands = by old.store.offline stands.stands;
    }
      where
        by : (off : Option ℕ)
            → StandsWhile m old o h (standing_of old stands.numbers stands.tables) off
            → StandsWhile m now o (e ∷ h) (standing_of now stands.numbers tables) off
        by None shows =
            let both = idle_goes old.store.geometry.size o h e
            (standing_of old stands.numbers stands.tables) (standing_of now stands.numbers tables)
            old.store shows.image (asked_in old.works) (sessions_in old.works) shows.stands shows.lasts
            lawful passing no_failure idle follows (finds shows) in record {
              image = shows.image;
              held = shows.held;
              stands = both.0;
              lasts = subst (λ (sessions : Sessions). LastsOn m packed_form o (e ∷ h) old.store
                  (asked_in works) sessions) (sym same_sessions)
                  (subst (λ (asks : Asked). LastsOn m packed_form o (e ∷ h) old.store asks
                  (sessions_in old.works)) (sym same_asked) both.1);
              tips = shows.tips;
              catalog = shows.catalog;
              plain_tables = shows.plain_tables;
              no_directory = shows.no_directory;
              known = shows.known;
            }
        by (Some faults) keeps = record {
          stands = on old.store.geometry.size o h e (standing_of old stands.numbers stands.tables)
              (standing_of now stands.numbers tables) None None keeps.stands lawful follows tt;
          left = λ c may. quiet old.store.dirty.size o h e c passing no_failure (keeps.left c may);
        }

  -- walks of those who see what they saw go on
  module _ (e : Entry) (who : Option ℕ) (idle : is_idle (effect_of e) ≡ true)
      (same_sees : (u by : ℕ) → is_of u who ≡ false → sees live u by ≡ sees old.live u by)
      (same_given : (u : ℕ) (name : List ℕ) → is_of u who ≡ false
      → given_to works u name ≡ given_to old.works u name) where
    takes_same : (u : ℕ) → is_of u who ≡ false
        → takes_version (said old.list) old.live u ≡ takes_version (said old.list) live u
    takes_same u not_ = fun_ext (λ by. ap (λ (b : Bool). by == u || (is_committed (said old.list by) && b))
        (sym (same_sees u by not_)))

    next_on : (s s_now : Standing) (u : ℕ) (table : Table) (after : Option WalkPlace) (rows : KeyedRows)
        → s.state ≡ said old.list → s.live ≡ old.live → s_now.state ≡ said old.list
        → s_now.live ≡ live → is_of u who ≡ false → (pages : Pages)
        → AreToCome old.store.geometry.size s pages u table after rows
        → AreToCome old.store.geometry.size s_now pages u table after rows
    next_on s s_now u table after rows state bases state_now bases_now not_ pages next = record {
      layout = next.layout;
      reading = next.reading;
      sound = subst (λ (state : ℕ → TxState). IsSoundBy packed_form old.store.geometry.size
          (left_state everyone state) pages next.layout next.reading) (state ∙ sym state_now) next.sound;
      shown = next.shown;
      stands = next.stands;
      are = next.are ∙ ap (λ (counts : ℕ → Bool). rows_shown counts table next.reading
          (records_behind pages next.shown.stands.stand.data_pages (rec_of after))) counts_same;
    }
      where
        counts_same : takes_version s.state s.live u ≡ takes_version s_now.state s_now.live u
        counts_same = ap (λ (x : ℕ → TxState). takes_version x s.live u) state
            ∙ (ap (λ (x : Bases). takes_version (said old.list) x u) bases
            ∙ (takes_same u not_
            ∙ (ap (λ (x : Bases). takes_version (said old.list) x u) (sym bases_now)
            ∙ ap (λ (x : ℕ → TxState). takes_version x s_now.live u) (sym state_now))))

    pub memory_walks : ((o : Opening) (h : Entries) → StandsFor m old o h → StandsFor m now o (e ∷ h))
        → WalksStay (means m places) old now who
    memory_walks on u table after rows not_ comes =
        let stands_now : StandsFor m now comes.opening (e ∷ comes.entries) =
        on comes.opening comes.entries comes.stands in record {
          opening = comes.opening;
          entries = e ∷ comes.entries;
          stands = stands_now;
          active = idle_state comes.opening comes.entries e idle u ∙ comes.active;
          seen = same_given u table.name not_ ∙ comes.seen;
          next = by stands_now old.store.offline comes.next;
        }
      where
        by : (stands_now : StandsFor m now comes.opening (e ∷ comes.entries)) (off : Option ℕ)
            → AreNext m old (standing_of old comes.stands.numbers comes.stands.tables) u table
            (place_at places after) rows off
            → AreNext m now (standing_of now stands_now.numbers stands_now.tables) u table
            (place_at places after) rows off
        by stands_now None (image, held, next) = (
          image,
          held,
          next_on (standing_of old comes.stands.numbers comes.stands.tables)
              (standing_of now stands_now.numbers stands_now.tables) u table (place_at places after) rows
              refl refl refl refl not_ (shown old.store.dirty image) next,
        )
        by stands_now (Some faults) next = tt

-- ---- an entry of which nothing comes

module _ {D : Type 0} (old : Core D) (waits : List (ℕ × ℕ)) (o : Opening) (h : Entries) (e : Entry)
    (t : ℕ) (nothing : effect_of e ≡ Nothing) (whose : transaction_of e.event ≡ Some t)
    (over : NowWaits (edges_in old.waits) (edges_in waits) t (waited_on e.answer)) (numbers : Numbers)
    (tables : Tables) where
  nobodys : (u : ℕ) → is_its u e ≡ false
  nobodys u = ap (λ (f : Effect). is_of u (doer f)) nothing

  pub nothing_follows : FollowsEntry o h e (standing_of old numbers tables)
      (standing_of (record old { waits = waits; works = old.works; live = old.live }) numbers tables)
  nothing_follows = record {
    limit = refl;
    next = sym (ap (λ (f : Effect). next_after f (next_said old.list)) nothing);
    state = λ u. sym (ap (λ (f : Effect). state_after f u (said old.list u)) nothing);
    live = sym (ap (λ (f : Effect). live_after f (λ u. (mode_kept (work_of old.works u)).snapshot) old.live)
        nothing);
    waits = subst (λ (who : Option ℕ). Notes who e.answer (edges_in old.waits) (edges_in waits)) (sym whose)
        over;
    others = λ u not_ active. record {
      mode = refl;
      session = refl;
      undo = refl;
      number = refl;
      table = λ name. refl;
    };
    its = λ u its active. absurd (false≢true (sym (nobodys u) ∙ its));
    apart = λ u v its not_ active also same. false≢true (sym (nobodys u) ∙ its);
  }

-- each active transaction finds its tables where it found them
pub idle_finds : (size : ℕ) (o : Opening) (h : Entries) (e : Entry) (s new : Standing) (pages : Pages)
    → is_idle (effect_of e) ≡ true → ((u : ℕ) → new.state u ≡ s.state u)
    → ((u : ℕ) → new.number u ≡ s.number u) → ((u : ℕ) (name : List ℕ) → new.table u name ≡ s.table u name)
    → FindsAfter packed_form size o h e s new pages
idle_finds size o h e s new pages idle state number table layout r sound u active = inl (record {
  active = sym (state u) ∙ active;
  own_same = idle_own o h e idle u;
  number = number u;
  table = table u;
})
