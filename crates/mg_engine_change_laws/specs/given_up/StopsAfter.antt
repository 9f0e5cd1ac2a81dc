-- Taking back has stopped after some keys, and after some rows of the catalog.
use Rattle.std.specs.Prelude.{ℕ, List}
use Rattle.mg_base.specs.Disk.{Meaning}
use Rattle.mg_base.specs.Image.{Image}
use Rattle.mg_base.specs.declared.numbers.TxNo.{TxNo}
use Rattle.mg_core.specs.declared.parts.Core.{Core}
use Rattle.mg_engine_change_laws.specs.keys.Chains.{HasTaken}
use Rattle.mg_engine_change_laws.specs.keys.Keys.{HasTakenKeys}
use Rattle.mg_engine_change_laws.specs.backs.Outcomes.{back_event}
use Rattle.mg_engine_change_laws.specs.tables_back.RowsLost.{HasLost}
use Rattle.mg_engine_change_laws.specs.given_up.Stopping.{StopsAs}
use Rattle.mg_engine_change_laws.specs.backs.ToTake.{since_point}
use Rattle.mg_engine_meaning_laws.specs.Standings.{ShowsIt, StandsFor, asked_in, sessions_in, standing_of}
use Rattle.mg_model.specs.History.{Entries, entry}
use Rattle.mg_model.specs.Machine.{deeds_by, steps}
use Rattle.mg_model.specs.declared.answer.Answer.TheVariants.{Fine}
use Rattle.mg_model.specs.declared.change.Change.{Change}
use Rattle.mg_model.specs.declared.change.Point.{Point}
use Rattle.mg_model.specs.declared.opening.Opening.{Opening}
use Rattle.mg_model.specs.declared.refusal.Refusal.{Refusal}
use Rattle.mg_pool.specs.Pool.{shown}
use Rattle.mg_works.specs.Works.{unasked, with_work}

-- the engine once the event has begun: the wait is over, and the transaction no longer asks for its commit
abbrev pub begun_as : {D : Type 0} → Core D → Core D → ℕ → Core D
begun_as old begun t = record old { waits = begun.waits; works = with_work t unasked old.works }

-- The keys that were taken back till then, and those that were still to be, over a history that the engine stood for; and
-- then only rows of the catalog have gone.
pub record TakesSome {D : Type 0} (m : Meaning D) (old begun at : Core D) (t : TxNo) (point : Point) (o : Opening)
    (h : Entries) (stands : StandsFor m old o h)
    (shows : ShowsIt m old o h (standing_of old stands.numbers stands.tables)) : Type 0 where
  pub keys : List Change
  pub more : List Change
  pub mid : Core D
  pub image : Image
  pub taken : HasTakenKeys m old.store.geometry.size o h (entry (back_event t point) Fine) t.0
      (since_point point (deeds_by t.0 (steps o h))) (since_point point (deeds_by t.0 (steps o h))) keys more
      (standing_of old stands.numbers stands.tables) old.store old.store (shown old.store.dirty shows.image)
      shows.stands.shows shows.image (asked_in (with_work t.0 unasked old.works)) (sessions_in old.works)
      (begun_as old begun t.0) mid
  pub lost : HasLost m old.store.geometry.size o h t.0
      (standing_of old stands.numbers stands.tables) old.store mid at taken.image image
      (asked_in (with_work t.0 unasked old.works)) (sessions_in old.works)

-- Keys were taken back, and rows taken out, whatever the history is, so that only the pages have changed; and then a step was refused.
pub record StopsAfter {D : Type 0} (m : Meaning D) (old begun stopped : Core D) (t : TxNo) (point : Point)
    (refusal : Refusal) : Type 0 where
  pub at : Core D
  pub taken : HasTaken m (begun_as old begun t.0) at
  pub stopping : StopsAs m at stopped refusal
  pub over : (o : Opening) (h : Entries) (stands : StandsFor m old o h)
      (shows : ShowsIt m old o h (standing_of old stands.numbers stands.tables))
      → TakesSome m old begun at t point o h stands shows
