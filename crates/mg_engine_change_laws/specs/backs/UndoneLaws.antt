-- All that was changed since a point is taken back: what the call leaves.
use Rattle.std.proofs.Common.{◌≡◌, ◌∙◌, ◌∷◌, ℕ, List, None, Option, Some, ap, arith, false, refl, subst, sym}
use Rattle.mg_base.specs.Disk.{Meaning}
use Rattle.mg_base.specs.Image.{Image}
use Rattle.mg_base.specs.declared.numbers.TxNo.{TxNo}
use Rattle.mg_base.specs.declared.transaction.TxState.TheVariants.{Active}
use Rattle.mg_core.specs.Cores.{IsCore}
use Rattle.mg_core.specs.declared.parts.Core.{Core}
use Rattle.mg_engine_change_laws.specs.keys.Chains.{HasTaken, keys_taken}
use Rattle.mg_engine_change_laws.specs.backs.Events.{back_entry}
use Rattle.mg_engine_change_laws.specs.backs.Known.{KnownOfBacks}
use Rattle.mg_engine_change_laws.specs.backs.Outcomes.{LeavesTheCatalog, back_event}
use Rattle.mg_engine_meaning_laws.specs.FrameLaws.{apart_from, commits_of, keeps_of, kept_all, quiet_of, sessions_of, tables_of, works_with}
use Rattle.mg_engine_meaning_laws.specs.Frames.{GivesEvent, WorksStay}
use Rattle.mg_engine_meaning_laws.specs.LawfulLaws.{memory_of}
use Rattle.mg_engine_meaning_laws.specs.Meaning.{AreNext, Places, means, place_at}
use Rattle.mg_engine_meaning_laws.specs.Standings.{StandsFor, asked_kept, session_kept, sessions_in, standing_of}
use Rattle.mg_engine_meaning_laws.specs.StepLaws.{as_standing}
use Rattle.mg_engine_change_laws.specs.rows.MadeLaws.{stays_then}
use Rattle.mg_engine_step_laws.specs.reads.Walking.{AreToCome, WalkPlace}
use Rattle.mg_engine_change_laws.specs.backs.EngineBacks.{IsBackEntry}
use Rattle.mg_image.specs.Form.{packed_form}
use Rattle.mg_lasting_laws.specs.Crashes.{HoldsAcknowledged, LeavesSince}
use Rattle.mg_model.specs.Changes.{KeyedRows}
use Rattle.mg_model.specs.History.{Entries, entry}
use Rattle.mg_model.specs.Machine.{is_of}
use Rattle.mg_model.specs.declared.answer.Answer.TheVariants.{Fine}
use Rattle.mg_model.specs.declared.change.Point.{Point}
use Rattle.mg_model.specs.declared.opening.Opening.{Opening}
use Rattle.mg_model.specs.declared.table.Table.{Table}
use Rattle.mg_pool.specs.Pool.{shown}
use Rattle.mg_records.specs.Keeping.{WalksStay}
use Rattle.mg_taking_back.specs.Taking.{TakesBackTo, TakesChanges, not_asking, works_back}
use Rattle.mg_txlist.specs.TxList.{said}
use Rattle.mg_works.specs.Works.{Working, given_by, given_to, unasked, with_undo, with_work, without_tables}

module _ {D P : Type 0} (m : Meaning D) (places : Places P) (known : KnownOfBacks D P m) (old new : Core D) (t : TxNo)
    (point : Point) (core : IsCore m old) (leaves : LeavesTheCatalog m old t.0 point)
    (takes : TakesBackTo m old new t.0 point) where
  abbrev now : Core D
  now = record old {
    waits = takes.begun.waits;
    store = takes.takes.taken.store;
    works = works_back t.0 takes.takes.end (with_work t.0 unasked old.works);
  }

  begun_is : not_asking t.0 takes.begun
      ≡ record old { waits = takes.begun.waits; works = with_work t.0 unasked old.works }
  begun_is = ap (λ (c : Core D). not_asking t.0 c) takes.has_begun.ended.same

  taken : HasTaken m (record old { waits = takes.begun.waits; works = with_work t.0 unasked old.works })
      takes.takes.taken
  taken = keys_taken m t.0 (record old { waits = takes.begun.waits; works = with_work t.0 unasked old.works })
      takes.takes.taken takes.takes.takes.given takes.has_begun.continues.0 core.pool
      (subst (λ (c : Core D). TakesChanges m t.0 c takes.takes.takes.given takes.takes.taken) begun_is
      takes.takes.takes.takes)

  new_is : new ≡ record old {
    waits = takes.begun.waits;
    store = takes.takes.taken.store;
    works = works_back t.0 takes.takes.end (with_work t.0 unasked old.works);
  }
  new_is = takes.takes.same ∙ ap (λ (c : Core D). record c { works = works_back t.0 takes.takes.end c.works }) taken.same

  -- ---- works

  abbrev begun_works : List Working
  begun_works = with_work t.0 unasked old.works

  abbrev undone_works : List Working
  undone_works = with_work t.0 (with_undo takes.takes.end) begun_works

  stay : WorksStay old.works (works_back t.0 takes.takes.end (with_work t.0 unasked old.works)) t.0
  stay = stays_then old.works begun_works (works_back t.0 takes.takes.end (with_work t.0 unasked old.works)) t.0
      (works_with t.0 unasked (λ w. refl) (λ w. refl) old.works (λ w. refl))
      (stays_then begun_works undone_works (works_back t.0 takes.takes.end (with_work t.0 unasked old.works)) t.0
      (works_with t.0 (with_undo takes.takes.end) (λ w. refl) (λ w. refl) begun_works (λ w. refl))
      (works_with t.0 without_tables (λ w. refl) (λ w. refl) undone_works (λ w. refl)))

  others_given : (u : ℕ) (name : List ℕ) → is_of u (Some t.0) ≡ false
      → given_to (works_back t.0 takes.takes.end (with_work t.0 unasked old.works)) u name ≡ given_to old.works u name
  others_given u name not_ = ap (λ (w : Option Working). given_by w name) (stay.others u (apart_from u t.0 not_))

  -- ---- over a history

  module _ (o : Opening) (h : Entries) (stands : StandsFor m old o h) where
    is : IsBackEntry o h (entry (back_event t point) Fine) t.0 point
    is = back_entry m old t point takes.undo takes.has_begun.continues takes.has_begun.its o h stands known.notes
        takes.reaches (leaves o h stands)

    goes_on : StandsFor m now o (entry (back_event t point) Fine ∷ h)
        × LeavesSince m old.store.disk takes.takes.taken.store.disk
        (HoldsAcknowledged packed_form old.store.dirty.size o h)
    goes_on = subst (λ (c : Core D). StandsFor m c o (entry (back_event t point) Fine ∷ h)
        × LeavesSince m old.store.disk c.store.disk (HoldsAcknowledged packed_form old.store.dirty.size o h)) new_is
        (known.goes_back old new t.0 point o h (entry (back_event t point) Fine) core takes stands is)

    walk_on : (i : Image) → m.held old.store.disk ≡ Some i → (u : ℕ) → is_of u (Some t.0) ≡ false
        → said old.list u ≡ Active → (table : Table) (after : Option WalkPlace) (rows : KeyedRows)
        → AreToCome old.store.geometry.size (standing_of old stands.numbers stands.tables) (shown old.store.dirty i) u
        table after rows
        → (k : Image) × (m.held now.store.disk ≡ Some k)
        × AreToCome now.store.geometry.size (standing_of now stands.numbers stands.tables) (shown now.store.dirty k) u
        table after rows
    walk_on i held u not_ active table after rows next = subst (λ (c : Core D). (k : Image)
        × (m.held c.store.disk ≡ Some k)
        × AreToCome c.store.geometry.size (standing_of c stands.numbers stands.tables) (shown c.store.dirty k) u table
        after rows) new_is (known.walk_back old new t.0 point o h (entry (back_event t point) Fine) core takes stands is i held u
        (apart_from u t.0 not_) active table after rows next)

    next_on : (later : StandsFor m now o (entry (back_event t point) Fine ∷ h)) (u : ℕ) → is_of u (Some t.0) ≡ false → said old.list u ≡ Active
        → (table : Table) (after : Option WalkPlace) (rows : KeyedRows)
        → AreNext m old (standing_of old stands.numbers stands.tables) u table after rows None
        → AreNext m now (standing_of now later.numbers later.tables) u table after rows None
    next_on later u not_ active table after rows (i, held, next) =
        let (k, held_now, on) = walk_on i held u not_ active table after rows next in (
          k,
          held_now,
          as_standing takes.takes.taken.store.geometry.size (standing_of now stands.numbers stands.tables)
              (standing_of now later.numbers later.tables) (shown takes.takes.taken.store.dirty k) u table after rows
              refl refl on,
        )

  walks_now : WalksStay (means m places) old now (Some t.0)
  walks_now u table after rows not_ comes =
      let later : StandsFor m now comes.opening (entry (back_event t point) Fine ∷ comes.entries) =
      (goes_on comes.opening comes.entries comes.stands).0 in
      let active : said old.list u ≡ Active =
      (memory_of m old comes.opening comes.entries comes.stands).state u ∙ comes.active in record {
        opening = comes.opening;
        entries = entry (back_event t point) Fine ∷ comes.entries;
        stands = later;
        active = sym ((memory_of m now comes.opening (entry (back_event t point) Fine ∷ comes.entries) later).state u) ∙ active;
        seen = others_given u table.name not_ ∙ comes.seen;
        next = subst (λ (off : Option ℕ). AreNext m now (standing_of now later.numbers later.tables) u table
            (place_at places after) rows off) (sym taken.on.online)
            (next_on comes.opening comes.entries comes.stands later u not_ active table (place_at places after) rows
            (subst (λ (off : Option ℕ). AreNext m old (standing_of old comes.stands.numbers comes.stands.tables) u table
            (place_at places after) rows off) takes.has_begun.continues.0 comes.next));
      }

  now_gives : GivesEvent m places old now (back_event t point) Fine None (Some t.0) (Some t.0) None None
  now_gives = record {
    adds = λ o h stands. ((is o h stands).lawful, (goes_on o h stands).0);
    leaves = record {
      keeps = keeps_of m places old now None taken.on.goes (omega arith) (omega arith) (record {
        cause = tt;
        offline = rw takes.has_begun.continues.0 tt;
        down = taken.on.online ∙ sym takes.has_begun.continues.0;
      });
      tables_stay = tables_of m places old now (Some t.0) (λ u name not_. others_given u name not_);
      walks_stay = walks_now;
      commits = commits_of m places old now (Some t.0)
          (λ u not_. ap asked_kept (stay.others u (apart_from u t.0 not_)))
          (λ u not_. kept_all old.works (works_back t.0 takes.takes.end (with_work t.0 unasked old.works)) t.0 stay
          session_kept stay.session u)
          (λ u page not_ was none. taken.on.unmarked page (sessions_in old.works u) none);
    };
    crash = quiet_of m places old now (λ o h stands told. (goes_on o h stands).1) taken.on.goes.size;
    sessions = sessions_of m places old now t.0 stay;
  }

  pub taken_back_gives : GivesEvent m places old new (back_event t point) Fine None (Some t.0) (Some t.0) None None
  taken_back_gives = subst (λ (c : Core D). GivesEvent m places old c (back_event t point) Fine None (Some t.0)
      (Some t.0) None None) (sym new_is) now_gives
