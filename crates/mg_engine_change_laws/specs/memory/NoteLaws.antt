-- An entry of which nothing comes, after a call that only read pages and noted a wait.
use Rattle.std.proofs.Common.{◌≡◌, ◌≤◌, ℕ, false, List, ◌∷◌, Option, None, Some, refl, sym, ap, ◌∙◌, subst}
use Rattle.mg_base.specs.Disk.{Meaning}
use Rattle.mg_base.specs.declared.geometry.Geometry.{Geometry}
use Rattle.mg_engine_step_laws.specs.reads.Walking.{AreToCome, WalkPlace}
use Rattle.mg_model.specs.declared.table.Table.{Table}
use Rattle.mg_model.specs.Changes.{KeyedRows}
use Rattle.mg_engine_step_laws.specs.standing.Standing.{Standing}
use Rattle.mg_engine_meaning_laws.specs.StepLaws.{as_standing}
use Rattle.mg_model.specs.declared.event.Event.{Event}
use Rattle.mg_model.specs.declared.answer.Answer.TheVariants.{No}
use Rattle.mg_model.specs.declared.opening.Opening.{Opening}
use Rattle.mg_model.specs.declared.refusal.Refusal.{Refusal}
use Rattle.mg_model.specs.History.{Entries, Entry, entry, transaction_of}
use Rattle.mg_model.specs.Laws.{OpeningsBegin}
use Rattle.mg_model.specs.Legal.{IsLawful}
use Rattle.mg_model.specs.Machine.{waited_on}
use Rattle.mg_engine_step_laws.specs.commits.Idle.{IdleGoesOn}
use Rattle.mg_engine_step_laws.specs.writes.Batches.{ReadsLast}
use Rattle.mg_image.specs.Form.{packed_form}
use Rattle.mg_lasting_laws.specs.Changing.{QuietHolds}
use Rattle.mg_lasting_laws.specs.Entries.{idle_state}
use Rattle.mg_pool.specs.Dirty.{DirtyPages, is_marked}
use Rattle.mg_pool.specs.Pool.{shown}
use Rattle.mg_pool.specs.declared.pool.Pool.{Pool}
use Rattle.mg_records.specs.Keeping.{WalksStay}
use Rattle.mg_space.specs.View.{KeepsStore}
use Rattle.mg_space.specs.declared.links.FireLinks.{FireLinks}
use Rattle.mg_engine_step_laws.specs.standing.Following.{StandsOn}
use Rattle.mg_waits.specs.Waits.{NowWaits, edges_in}
use Rattle.mg_core.specs.declared.parts.Core.{Core}
use Rattle.mg_engine_meaning_laws.specs.FrameLaws.{commits_of, keeps_of, sessions_of, tables_of, works_same}
use Rattle.mg_engine_meaning_laws.specs.Frames.{GivesEvent, MayAnswer}
use Rattle.mg_engine_meaning_laws.specs.LawfulLaws.{quiet_count, quiet_event}
use Rattle.mg_engine_meaning_laws.specs.Meaning.{AreNext, Places, means, place_at}
use Rattle.mg_engine_meaning_laws.specs.MemoryCallLaws.{idle_finds, memory_stands, nothing_follows}
use Rattle.mg_engine_meaning_laws.specs.Standings.{StandsFor, sessions_in, standing_of}
use Rattle.mg_engine_meaning_laws.specs.ReadLaws.{reads_go, reads_quiet, reads_stand}
use Rattle.mg_model.specs.Legal.{is_lasting}
use Rattle.mg_engine_change_laws.specs.memory.Notes.{OnlyNotes}

module _ {D P : Type 0} (m : Meaning D) (places : Places P) (idle_goes : IdleGoesOn D FireLinks m packed_form)
    (on : StandsOn packed_form) (quiet : QuietHolds packed_form) (begin : OpeningsBegin)
    (last : ReadsLast D FireLinks m packed_form) (old : Core D) (store : Pool D FireLinks)
    (keeps : KeepsStore m old.store store) (waits : List (ℕ × ℕ)) (damage shortages : ℕ) (t : ℕ) (event : Event)
    (refusal : Refusal)
    (noted : NowWaits (edges_in old.waits) (edges_in waits) t (waited_on (No refusal)))
    (whose : transaction_of event ≡ Some t) (passing : is_lasting event ≡ false) where
  -- pages were read
  abbrev mid : Core D
  mid = record old { store = store; damage = damage; shortages = shortages }

  -- and the wait was noted
  abbrev now : Core D
  now = record old { store = store; waits = waits; damage = damage; shortages = shortages }

  abbrev e : Entry
  e = entry event (No refusal)

  mid_stands : (o : Opening) (h : Entries) → StandsFor m old o h
      → StandsFor m (record old { store = store; damage = damage; shortages = shortages }) o h
  mid_stands = reads_stand m places begin last old store keeps damage shortages

  now_stands : (o : Opening) (h : Entries) → IsLawful o h (entry event (No refusal))
      → StandsFor m (record old { store = store; damage = damage; shortages = shortages }) o h
      → StandsFor m (record old { store = store; waits = waits; damage = damage; shortages = shortages }) o
      (entry event (No refusal) ∷ h)
  now_stands o h lawful stands = memory_stands m places mid waits old.works old.live idle_goes on quiet refl refl
      o h (entry event (No refusal)) stands stands.tables stands.given stands.kept stands.bases lawful
      (quiet_count (entry event (No refusal)) passing) (quiet_event (entry event (No refusal)) passing) refl
      (nothing_follows mid waits o h (entry event (No refusal)) t refl whose noted stands.numbers stands.tables)
      (λ shows. idle_finds store.geometry.size o h (entry event (No refusal))
      (standing_of mid stands.numbers stands.tables)
      (standing_of (record mid { waits = waits; works = old.works; live = old.live }) stands.numbers
      stands.tables) (shown store.dirty shows.image) refl (λ u. refl) (λ u. refl) (λ u name. refl))

  next_on : (s s_now : Standing) (u : ℕ) (table : Table) (after : Option WalkPlace) (rows : KeyedRows)
      (off : Option ℕ) → s.state ≡ s_now.state → s.live ≡ s_now.live
      → AreNext m old s u table after rows off
      → AreNext m (record old { store = store; waits = waits; damage = damage; shortages = shortages }) s_now u table
      after rows off
  next_on s s_now u table after rows None state bases (i, held, next) = (
    i,
    keeps.disk.held ∙ held,
    subst (λ (g : Geometry). AreToCome g.size s_now (shown store.dirty i) u table after rows)
        (sym keeps.geometry) (subst (λ (d : DirtyPages). AreToCome old.store.geometry.size s_now (shown d i) u
        table after rows) (sym keeps.dirty) (as_standing old.store.geometry.size s s_now
        (shown old.store.dirty i) u table after rows state bases next)),
  )
  next_on s s_now u table after rows (Some faults) state bases next = tt

  module _ (lawful : (o : Opening) (h : Entries) → StandsFor m old o h → IsLawful o h (entry event (No refusal))) where
    both_stand : (o : Opening) (h : Entries) → StandsFor m old o h
        → StandsFor m (record old { store = store; waits = waits; damage = damage; shortages = shortages }) o
        (entry event (No refusal) ∷ h)
    both_stand o h stands = now_stands o h (lawful o h stands) (mid_stands o h stands)

    now_walks : (who : Option ℕ) → WalksStay (means m places) old
        (record old { store = store; waits = waits; damage = damage; shortages = shortages }) who
    now_walks who u table after rows not_ comes =
        let stands_now : StandsFor m (record old { store = store; waits = waits; damage = damage; shortages = shortages })
        comes.opening (entry event (No refusal) ∷ comes.entries) =
        both_stand comes.opening comes.entries comes.stands in record {
          opening = comes.opening;
          entries = entry event (No refusal) ∷ comes.entries;
          stands = stands_now;
          active = idle_state comes.opening comes.entries (entry event (No refusal)) refl u ∙ comes.active;
          seen = comes.seen;
          next = subst (λ (off : Option ℕ). AreNext m
              (record old { store = store; waits = waits; damage = damage; shortages = shortages })
              (standing_of (record old { store = store; waits = waits; damage = damage; shortages = shortages })
              stands_now.numbers stands_now.tables) u table (place_at places after) rows off) (sym keeps.offline)
              (next_on (standing_of old comes.stands.numbers comes.stands.tables)
              (standing_of (record old { store = store; waits = waits; damage = damage; shortages = shortages })
              stands_now.numbers stands_now.tables) u table (place_at places after) rows old.store.offline refl refl
              comes.next);
        }

    pub gives : (tables walks : Option ℕ) → old.damage ≤ damage → old.shortages ≤ shortages
        → MayAnswer m places old (record old { store = store; waits = waits; damage = damage; shortages = shortages })
        (Some refusal)
        → GivesEvent m places old (record old { store = store; waits = waits; damage = damage; shortages = shortages })
        event (No refusal) (Some refusal) tables walks None None
    gives tables walks damaged short may = record {
      adds = λ o h stands. (lawful o h stands, both_stand o h stands);
      leaves = record {
        keeps = keeps_of m places old
            (record old { store = store; waits = waits; damage = damage; shortages = shortages }) (Some refusal)
            (reads_go m old.store store keeps) damaged short may;
        tables_stay = tables_of m places old
            (record old { store = store; waits = waits; damage = damage; shortages = shortages }) tables
            (λ u name not_. refl);
        walks_stay = now_walks walks;
        commits = commits_of m places old
            (record old { store = store; waits = waits; damage = damage; shortages = shortages }) walks
            (λ u not_. refl) (λ u not_. refl)
            (λ u page not_ was none. ap (λ (d : DirtyPages). is_marked d page (sessions_in old.works u)) keeps.dirty
            ∙ none);
      };
      crash = λ o h stands told. let quiet_now = reads_quiet m places begin last old store keeps damage shortages o h
          stands told in record { each = quiet_now.each; before = quiet_now.before };
      sessions = sessions_of m places old
          (record old { store = store; waits = waits; damage = damage; shortages = shortages }) t
          (works_same old.works t);
    }

-- a call that only read pages and noted a wait gives the event with its refusal
pub notes_give : {D P : Type 0} (m : Meaning D) (places : Places P) → IdleGoesOn D FireLinks m packed_form
    → StandsOn packed_form → QuietHolds packed_form → OpeningsBegin → ReadsLast D FireLinks m packed_form
    → (old new : Core D) (t : ℕ) (event : Event) (refusal : Refusal) (tables walks : Option ℕ)
    → OnlyNotes m old new t (waited_on (No refusal)) → transaction_of event ≡ Some t → is_lasting event ≡ false
    → ((o : Opening) (h : Entries) → StandsFor m old o h → IsLawful o h (entry event (No refusal)))
    → MayAnswer m places old new (Some refusal)
    → GivesEvent m places old new event (No refusal) (Some refusal) tables walks None None
notes_give m places idle_goes on quiet begin last old new t event refusal tables walks notes whose passing lawful
    may = subst (λ (c : Core _). GivesEvent m places old c event (No refusal) (Some refusal) tables walks None None)
    (sym notes.same) (gives m places idle_goes on quiet begin last old new.store notes.keeps new.waits new.damage
    new.shortages t event refusal notes.waits whose passing lawful tables walks notes.damage notes.shortages
    (subst (λ (c : Core _). MayAnswer m places old c (Some refusal)) notes.same may))
