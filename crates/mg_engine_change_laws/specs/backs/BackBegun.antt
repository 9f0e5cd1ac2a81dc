-- The event has begun that takes a transaction back: what is known over each history that the engine stood for.
use Rattle.std.proofs.Common.{◌≡◌, List, Some, ap, inl, refl, sym}
use Rattle.mg_base.specs.Disk.{Meaning}
use Rattle.mg_base.specs.declared.numbers.TxNo.{TxNo}
use Rattle.mg_core.specs.Cores.{IsCore}
use Rattle.mg_core.specs.declared.parts.Core.{Core}
use Rattle.mg_engine_change_laws.specs.backs.Backs.{BeginsBack}
use Rattle.mg_engine_change_laws.specs.backs.Events.{active_here, passing_back, takes_back}
use Rattle.mg_engine_change_laws.specs.backs.Known.{KnownOfBacks}
use Rattle.mg_engine_change_laws.specs.backs.Outcomes.{back_event}
use Rattle.mg_engine_change_laws.specs.keys.Takings.{KnowsCache}
use Rattle.mg_engine_change_laws.specs.keys.TakingSteps.{StandsMidway}
use Rattle.mg_engine_change_laws.specs.backs.ToTake.{since_point}
use Rattle.mg_engine_meaning_laws.specs.KeptLaws.{kept_with_work}
use Rattle.mg_engine_meaning_laws.specs.LawfulLaws.{quiet_count, quiet_event}
use Rattle.mg_engine_meaning_laws.specs.MemoryCallLaws.{active_answer}
use Rattle.mg_engine_meaning_laws.specs.Standings.{KeepsWritten, ShowsIt, StandsFor, asked_in, asked_kept, sessions_in, standing_of}
use Rattle.mg_engine_step_laws.specs.backs.Midway.{GoesBack}
use Rattle.mg_model.specs.History.{Entries, entry}
use Rattle.mg_model.specs.Legal.{MayBegin}
use Rattle.mg_model.specs.Machine.{deeds_by, state_of, steps}
use Rattle.mg_model.specs.declared.answer.Answer.TheVariants.{Fine}
use Rattle.mg_model.specs.declared.change.Change.{Change}
use Rattle.mg_model.specs.declared.change.Point.{Point}
use Rattle.mg_model.specs.declared.opening.Opening.{Opening}
use Rattle.mg_image.specs.Form.{Pages}
use Rattle.mg_pool.specs.Pool.{shown}
use Rattle.mg_taking_back.specs.Taking.{HasBegun}
use Rattle.mg_undo.specs.Undo.{State as Undo}
use Rattle.mg_works.specs.Works.{unasked, with_work, work_of}
use Rattle.mg_works.specs.WorksLaws.{with_its, with_others}
use Rattle.mg_engine_step_laws.specs.standing.Standing.{Standing}

module _ {D P : Type 0} (m : Meaning D) (known : KnownOfBacks D P m) (old begun : Core D) (t : TxNo) (point : Point)
    (undo : Undo) (core : IsCore m old) (has_begun : HasBegun old begun t.0 undo) (o : Opening) (h : Entries)
    (stands : StandsFor m old o h) (shows : ShowsIt m old o h (standing_of old stands.numbers stands.tables)) where
  abbrev s : Standing
  s = standing_of old stands.numbers stands.tables

  abbrev pages : Pages
  pages = shown old.store.dirty shows.image

  abbrev whole : List Change
  whole = since_point point (deeds_by t.0 (steps o h))

  pub begun_work : work_of (with_work t.0 unasked old.works) t.0 ≡ Some (unasked has_begun.its.0)
  begun_work = with_its t.0 unasked (λ w. refl) (λ w. refl) old.works has_begun.its.0 has_begun.its.1

  pub opening : MayBegin o
  opening = known.openings o shows.stands.opening

  pub goes : GoesBack o h (entry (back_event t point) Fine) point (standing_of old stands.numbers stands.tables)
      (asked_in (with_work t.0 unasked old.works)) t.0
  goes = record {
    back = takes_back t point;
    passing = quiet_count (entry (back_event t point) Fine) (passing_back t point);
    no_failure = quiet_event (entry (back_event t point) Fine) (passing_back t point);
    active = has_begun.continues.1;
    not_asked = ap asked_kept begun_work;
    ends = inl (sym (active_answer (state_of o h t.0) Fine
        (active_here m old t point undo has_begun.continues has_begun.its o h stands)));
  }

  abbrev pub begins : BeginsBack m o h (entry (back_event t point) Fine) point t.0
      (standing_of old stands.numbers stands.tables) old.store shows.image
      (asked_in (with_work t.0 unasked old.works)) (sessions_in old.works)
  begins = record {
    stands = shows.stands;
    lasts = known.unask o h old.store (asked_in old.works) (asked_in (with_work t.0 unasked old.works))
        (sessions_in old.works) t.0 (ap asked_kept begun_work)
        (λ u ne. ap asked_kept (with_others t.0 unasked (λ w. refl) (λ w. refl) old.works u ne)) shows.lasts;
    pool = core.pool;
    held = shows.held;
    tells = stands.tells;
    goes = goes;
  }

  pub midway : StandsMidway m old.store.geometry.size o h (entry (back_event t point) Fine) t.0
      (since_point point (deeds_by t.0 (steps o h))) (since_point point (deeds_by t.0 (steps o h)))
      (standing_of old stands.numbers stands.tables) old.store old.store (shown old.store.dirty shows.image)
      shows.stands.shows shows.image (asked_in (with_work t.0 unasked old.works)) (sessions_in old.works)
  midway = record {
    cache = known.begin o h (entry (back_event t point) Fine) point s old.store shows.image
        (asked_in (with_work t.0 unasked old.works)) (sessions_in old.works) t.0 whole begins.stands begins.lasts
        begins.pool begins.held begins.tells goes
        (known.since o h (entry (back_event t point) Fine) t.0 point (takes_back t point));
    pages = known.first_shows old.store.geometry.size o h (entry (back_event t point) Fine) t.0 whole s pages
        shows.stands.shows;
  }

  pub kept_begun : KeepsWritten old.catalog.pointer.0 (with_work t.0 unasked old.works) stands.tables
  kept_begun = kept_with_work t.0 unasked (λ w. refl) (λ w. refl) (λ w. refl) (λ w. refl) old.works
      old.catalog.pointer.0 stands.tables stands.kept

  pub knows : KnowsCache m old.store.geometry.size (standing_of old stands.numbers stands.tables) old.store shows.image
  knows = record {
    pool_is = core.pool;
    size_is = refl;
    geometry = core.geometry;
    online = has_begun.continues.0;
    tells = record { told = stands.tells; held = shows.held };
    plain = shows.plain_tables;
  }
