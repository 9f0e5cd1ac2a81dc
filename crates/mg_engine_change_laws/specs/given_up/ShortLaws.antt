-- The event is refused at its beginning, or memory is wanting for it and the transaction is rolled back.
use Rattle.std.proofs.Common.{◌≡◌, ◌∙◌, ◌∷◌, ℕ, Err, List, None, Ok, Option, Some, ap, arith, false, refl, subst, sym, true}
use Rattle.mg_base.specs.Disk.{Meaning}
use Rattle.mg_base.specs.Moments.{started}
use Rattle.mg_base.specs.declared.numbers.TxNo.{TxNo}
use Rattle.mg_base.specs.declared.transaction.TxState.TheVariants.{Dead}
use Rattle.mg_core.specs.Cores.{Continues, IsCore, RefusesCall}
use Rattle.mg_core.specs.Events.{EndsWait, IsRefused, RollsBack}
use Rattle.mg_core.specs.declared.parts.Core.{Core}
use Rattle.mg_engine_change_laws.specs.backs.Events.{answer_back, whose_back}
use Rattle.mg_engine_change_laws.specs.backs.Known.{KnownOfBacks}
use Rattle.mg_engine_change_laws.specs.backs.Outcomes.{IsGivenUp, back_event}
use Rattle.mg_engine_meaning_laws.specs.Freeing.{sessions_end}
use Rattle.mg_engine_meaning_laws.specs.EventLaws.{refused_gives, short_gives}
use Rattle.mg_engine_meaning_laws.specs.FrameLaws.{keeps_of, quiet_of, store_stands}
use Rattle.mg_engine_meaning_laws.specs.Frames.{GivesEvent}
use Rattle.mg_engine_meaning_laws.specs.LawfulLaws.{left_of, memory_of}
use Rattle.mg_engine_meaning_laws.specs.Meaning.{Places, means}
use Rattle.mg_engine_meaning_laws.specs.Standings.{StandsFor}
use Rattle.mg_image.specs.Form.{packed_form}
use Rattle.mg_lasting_laws.specs.Crashes.{HoldsAcknowledged}
use Rattle.mg_model.specs.Answers.{is_active}
use Rattle.mg_model.specs.History.{Entries, entry}
use Rattle.mg_model.specs.Machine.{state_of}
use Rattle.mg_model.specs.declared.answer.Answer.TheVariants.{Fine, No}
use Rattle.mg_model.specs.declared.change.Point.{Point}
use Rattle.mg_model.specs.declared.event.Event.TheVariants.{Rollback}
use Rattle.mg_model.specs.declared.opening.Opening.{Opening}
use Rattle.mg_model.specs.declared.refusal.Refusal.{Refusal}
use Rattle.mg_model.specs.declared.refusal.Refusal.TheVariants.{Memory, NotActive, Offline}
use Rattle.mg_records.specs.Keeping.{CommitsStay}
use Rattle.mg_records.specs.Sessions.{SessionsStay, given_up_in}
use Rattle.mg_records.specs.TakingBack.{after_refusal, is_given_up}
use Rattle.mg_snap.specs.Live.{after_leave}
use Rattle.mg_taking_back.specs.Taking.{IsRolledBack}
use Rattle.mg_txlist.specs.TxList.{EndsIn}
use Rattle.mg_txlist.specs.declared.list.TxList.{TxList}
use Rattle.mg_waits.specs.Waits.{NowWaits, edges_in}
use Rattle.mg_works.specs.Works.{AreApart, without_work}

-- a call that is refused gives nothing up
refused_stays : {D : Type 0} (core : Core D) (t : ℕ) (refusal : Refusal) → RefusesCall core t refusal
    → is_given_up refusal ≡ false
refused_stays core t (Offline faults) refuses = refl
refused_stays core t (NotActive told_) refuses = refl
refused_stays core t refusal refuses = absurd refuses

module _ {D P : Type 0} (m : Meaning D) (places : Places P) (known : KnownOfBacks D P m) (old new : Core D) (t : TxNo)
    (point : Point) where
  -- ---- the event is refused

  module _ (refusal : Refusal) (refused : IsRefused old new t.0 refusal) where
    stays : is_given_up refusal ≡ false
    stays = refused_stays old t.0 refusal refused.refuses

    event_refused : GivesEvent m places old new (back_event t point) (No refusal) (Some refusal) (Some t.0) (Some t.0)
        None None
    event_refused = refused_gives m places known.idle_goes known.on known.quiet old new t.0 (back_event t point)
        (λ o h. Fine) refusal (Some t.0) (Some t.0) (whose_back t point) (λ o h. answer_back o h t point) refused

    after_one : (o : Opening) (h : Entries) → after_refusal o h t (back_event t point) refusal
        ≡ entry (back_event t point) (No refusal) ∷ h
    after_one o h = rw stays refl

    nobody : given_up_in {T = Unit {0}} t.0 (Err refusal) ≡ None
    nobody = rw stays refl

    pub refused_given : IsGivenUp m places old new t (back_event t point) refusal
    refused_given = record {
      gives_up = λ o h stands. let one = event_refused.adds o h stands in (
        one.0,
        subst (λ (x : Entries). StandsFor m new o x) (sym (after_one o h)) one.1,
      );
      leaves = event_refused.leaves;
      crash = event_refused.crash;
      sessions = subst (λ (who : Option ℕ). SessionsStay (means m places) old new None who) (sym nobody)
          event_refused.sessions;
    }

  -- ---- memory is wanting

  module _ (core : IsCore m old) (apart : AreApart old.works) (rolls : RollsBack old new t.0) where
    abbrev begun : Core D
    begun = record old { waits = new.waits; works = old.works; live = old.live }

    abbrev now : Core D
    now = record old {
      waits = new.waits;
      list = new.list;
      works = without_work t.0 old.works;
      live = after_leave old.live t.0;
    }

    first : GivesEvent m places old begun (back_event t point) (No Memory) (Some Memory) None None None None
    first = short_gives m places known.idle_goes known.on known.quiet old begun t.0 (back_event t point) None None
        (whose_back t point) rolls.continues (record { over = rolls.over; same = refl })

    core_begun : IsCore m begun
    core_begun = record {
      pool = core.pool;
      geometry = core.geometry;
      list = core.list;
      size = core.size;
      tips = core.tips;
      next = core.next;
      drawn = core.drawn;
      active = core.active;
      catalog = core.catalog;
    }

    then_ : GivesEvent m places begun new (Rollback t) Fine None (Some t.0) (Some t.0) None (Some t.0)
    then_ = known.rolls places begun new t (Ok tt) core_begun apart (record {
      continues = rolls.continues;
      over = record { its = rolls.over.its; others = λ u ne. refl };
      ends = rolls.ends;
      pages = rolls.pages;
      same = rolls.same;
    })

    then_now : GivesEvent m places begun now (Rollback t) Fine None (Some t.0) (Some t.0) None (Some t.0)
    then_now = subst (λ (c : Core D). GivesEvent m places begun c (Rollback t) Fine None (Some t.0) (Some t.0) None
        (Some t.0)) rolls.same then_

    at_work : (o : Opening) (h : Entries) → StandsFor m old o h → is_active (state_of o h t.0) ≡ true
    at_work o h stands = ap is_active (sym ((memory_of m old o h stands).state t.0) ∙ rolls.continues.1)

    after_both : (o : Opening) (h : Entries) → StandsFor m old o h
        → after_refusal o h t (back_event t point) Memory
        ≡ entry (Rollback t) Fine ∷ entry (back_event t point) (No Memory) ∷ h
    after_both o h stands = let its = at_work o h stands in rw its refl

    commits_now : CommitsStay (means m places) old now (Some t.0)
    commits_now = record {
      asked = λ u not_ was. then_now.leaves.commits.asked u not_ (first.leaves.commits.asked u refl was);
      written = λ u not_ was. then_now.leaves.commits.written u not_ (first.leaves.commits.written u refl was);
    }

    now_given : IsGivenUp m places old now t (back_event t point) Memory
    now_given = record {
      gives_up = λ o h stands. let one = first.adds o h stands in (
        one.0,
        subst (λ (x : Entries). StandsFor m now o x) (sym (after_both o h stands))
            (then_now.adds o (entry (back_event t point) (No Memory) ∷ h) one.1).1,
      );
      leaves = record {
        keeps = keeps_of m places old now (Some Memory) (store_stands m old.store) (omega arith) (omega arith)
            (record { cause = tt; offline = rw rolls.continues.0 tt; down = refl });
        tables_stay = λ u name table not_ given. then_now.leaves.tables_stay u name table not_
            (first.leaves.tables_stay u name table refl given);
        walks_stay = λ u table after rows not_ comes. then_now.leaves.walks_stay u table after rows not_
            (first.leaves.walks_stay u table after rows refl comes);
        commits = commits_now;
      };
      crash = quiet_of m places old now (λ o h stands told. record {
        since = started m old.store.disk (HoldsAcknowledged packed_form old.store.dirty.size o h)
            (left_of m old o h stands);
        left = left_of m old o h stands;
      }) refl;
      sessions = sessions_end m places old now t.0 apart refl;
    }

    pub short_given : IsGivenUp m places old new t (back_event t point) Memory
    short_given = subst (λ (c : Core D). IsGivenUp m places old c t (back_event t point) Memory) (sym rolls.same)
        now_given

-- ---- what it has to take back was not copied

pub rolled_short : {D : Type 0} (old begun new : Core D) (t : ℕ) → Continues old t → EndsWait old begun t
    → IsRolledBack begun new t → RollsBack old new t
rolled_short {D} old begun new t continues ended rolled = record {
  continues = continues;
  over = subst (λ (w : List (ℕ × ℕ)). NowWaits (edges_in old.waits) (edges_in w) t None) (sym waits_is) ended.over;
  ends = subst (λ (l : TxList). EndsIn l new.list t Dead) (ap (λ (c : Core D). c.list) ended.same) rolled.ends;
  pages = rolled.pages ∙ ap (λ (c : Core D). c.list.pages) ended.same;
  same = same ∙ ap (λ (w : List (ℕ × ℕ)). record old {
    waits = w;
    list = new.list;
    works = without_work t old.works;
    live = after_leave old.live t;
  }) (sym waits_is);
}
  where
    same : new ≡ record old {
      waits = begun.waits;
      list = new.list;
      works = without_work t old.works;
      live = after_leave old.live t;
    }
    same = rolled.same ∙ ap (λ (c : Core D). record c {
      list = new.list;
      works = without_work t c.works;
      live = after_leave c.live t;
    }) ended.same

    waits_is : new.waits ≡ begun.waits
    waits_is = ap (λ (c : Core D). c.waits) same
