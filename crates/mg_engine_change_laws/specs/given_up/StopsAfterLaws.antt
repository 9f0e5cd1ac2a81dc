-- Taking back has stopped after some keys: what had happened of the store and of memory, over each history.
use Rattle.std.proofs.Common.{◌≡◌, ◌∙◌, ℕ, List, None, Some, ap, subst}
use Rattle.mg_base.specs.Disk.{Meaning}
use Rattle.mg_base.specs.declared.geometry.Geometry.{Geometry}
use Rattle.mg_base.specs.declared.numbers.TxNo.{TxNo}
use Rattle.mg_core.specs.Cores.{IsCore}
use Rattle.mg_core.specs.Refusing.{CountsFault, NamesLimit}
use Rattle.mg_core.specs.declared.parts.Core.{Core}
use Rattle.mg_engine_change_laws.specs.backs.BackBegun.{begins, goes, midway, opening}
use Rattle.mg_engine_change_laws.specs.keys.BackLists.{KeepsLists}
use Rattle.mg_engine_change_laws.specs.given_up.BackStops.{StopsReading}
use Rattle.mg_engine_change_laws.specs.backs.Backs.{BeginsBack, EndsOver}
use Rattle.mg_engine_change_laws.specs.backs.Known.{KnownOfBacks}
use Rattle.mg_engine_change_laws.specs.backs.Outcomes.{back_event}
use Rattle.mg_engine_change_laws.specs.memory.StageLaws.{fault_may, left_geometry}
use Rattle.mg_engine_change_laws.specs.memory.Stages.{TellsOf}
use Rattle.mg_engine_change_laws.specs.given_up.StopsAfter.{StopsAfter, TakesSome}
use Rattle.mg_engine_change_laws.specs.backs.ToTake.{since_point}
use Rattle.mg_engine_meaning_laws.specs.Frames.{MayAnswer}
use Rattle.mg_engine_meaning_laws.specs.Meaning.{Places}
use Rattle.mg_engine_meaning_laws.specs.Standings.{ShowsIt, StandsFor, asked_in, sessions_in, standing_of}
use Rattle.mg_engine_meaning_laws.specs.StepLaws.{shows_of}
use Rattle.mg_engine_step_laws.specs.standing.Standing.{Standing}
use Rattle.mg_image.specs.Form.{Pages}
use Rattle.mg_model.specs.History.{Entries, Entry, entry}
use Rattle.mg_model.specs.Machine.{deeds_by, steps}
use Rattle.mg_model.specs.declared.answer.Answer.TheVariants.{Fine}
use Rattle.mg_model.specs.declared.change.Change.{Change}
use Rattle.mg_model.specs.declared.change.Point.{Point}
use Rattle.mg_model.specs.declared.opening.Opening.{Opening}
use Rattle.mg_model.specs.declared.refusal.Refusal.{Refusal}
use Rattle.mg_pool.specs.Pool.{shown}
use Rattle.mg_pool.specs.declared.pool.Pool.{Pool}
use Rattle.mg_space.specs.View.{KeepsStore}
use Rattle.mg_space.specs.ViewLaws.{tells_on}
use Rattle.mg_space.specs.declared.links.FireLinks.{FireLinks}
use Rattle.mg_taking_back.specs.Taking.{HasBegun}
use Rattle.mg_undo.specs.Undo.{State as Undo}
use Rattle.mg_works.specs.Works.{unasked, with_work}

-- ---- whatever the history is

module _ {D : Type 0} (m : Meaning D) (old begun stopped : Core D) (t : TxNo) (point : Point) (refusal : Refusal)
    (stops : StopsAfter m old begun stopped t point refusal) where
  pub stopped_is : stopped ≡ record old {
    waits = begun.waits;
    works = with_work t.0 unasked old.works;
    store = stopped.store;
    damage = stopped.damage;
    shortages = stopped.shortages;
  }
  stopped_is = stops.stopping.same ∙ ap (λ (c : Core D). record c {
    store = stopped.store;
    damage = stopped.damage;
    shortages = stopped.shortages;
  }) stops.taken.same

  pub counts : CountsFault stops.stopping.fault old.damage stopped.damage old.shortages stopped.shortages
  counts = subst (λ (n : ℕ). CountsFault stops.stopping.fault n stopped.damage old.shortages stopped.shortages)
      (ap (λ (c : Core D). c.damage) stops.taken.same)
      (subst (λ (n : ℕ). CountsFault stops.stopping.fault stops.at.damage stopped.damage n stopped.shortages)
      (ap (λ (c : Core D). c.shortages) stops.taken.same) stops.stopping.counts)

  -- the refusal has its cause
  pub may_answer : {P : Type 0} (places : Places P) (now : Core D) → old.store.offline ≡ None
      → TellsOf m stops.at.store now.store stops.stopping.fault
      → CountsFault stops.stopping.fault old.damage now.damage old.shortages now.shortages
      → MayAnswer m places old now (Some refusal)
  may_answer places now online told counted = fault_may m places old now stops.at.store stops.stopping.fault refusal
      online stops.taken.on.online (stops.taken.on.goes.time.never_falls, stops.taken.on.goes.time.failed_writes) stops.stopping.is (subst (λ (g : Geometry). NamesLimit g.limit refusal)
      (left_geometry m stops.at.store stopped.store stops.stopping.fault stops.stopping.left
      ∙ stops.taken.on.goes.geometry) stops.stopping.names) told counted

-- ---- over a history

module _ {D P : Type 0} (m : Meaning D) (known : KnownOfBacks D P m) (old begun stopped : Core D) (t : TxNo)
    (point : Point) (undo : Undo) (refusal : Refusal) (core : IsCore m old) (has_begun : HasBegun old begun t.0 undo)
    (stops : StopsAfter m old begun stopped t point refusal) (o : Opening) (h : Entries) (stands : StandsFor m old o h)
  where
    abbrev e : Entry
    e = entry (back_event t point) Fine

    abbrev s : Standing
    s = standing_of old stands.numbers stands.tables

    abbrev size : ℕ
    size = old.store.geometry.size

    abbrev whole : List Change
    whole = since_point point (deeds_by t.0 (steps o h))

    abbrev shows : ShowsIt m old o h (standing_of old stands.numbers stands.tables)
    shows = shows_of m old o h stands has_begun.continues.0

    abbrev pages : Pages
    pages = shown old.store.dirty shows.image

    abbrev some : TakesSome m old begun stops.at t point o h stands shows
    some = stops.over o h stands shows

    abbrev begins_so : BeginsBack m o h e point t.0 s old.store shows.image (asked_in (with_work t.0 unasked old.works))
        (sessions_in old.works)
    begins_so = begins m known old begun t point undo core has_begun o h stands shows

    pub keeps_lists : KeepsLists size s pages (shown some.mid.store.dirty some.taken.image)
    keeps_lists = known.keep_lists size o h e point s old.store old.store some.mid.store pages shows.stands.shows
        shows.image some.taken.image (asked_in (with_work t.0 unasked old.works)) (sessions_in old.works) t.0 whole whole
        some.taken.rest some.keys (opening m known old begun t point undo core has_begun o h stands shows)
        shows.stands.legal shows.stands.memory (goes m known old begun t point undo core has_begun o h stands shows)
        some.taken.steps (midway m known old begun t point undo core has_begun o h stands shows)

    -- ---- pages were read then

    module _ (ready : Pool D FireLinks) (keeps : KeepsStore m stops.at.store ready) where
      pub ends_over : EndsOver m old.store ready some.image
      ends_over = record {
        pool = keeps.pool;
        held = (tells_on m stops.at.store ready some.image keeps some.lost.knows.tells).held;
        size = ap (λ (g : Geometry). g.size) keeps.geometry ∙ some.lost.size_is;
      }

      abbrev pub stops_reading : StopsReading m o h e point t.0 s old.store ready shows.image some.image
          (asked_in (with_work t.0 unasked old.works)) (sessions_in old.works) begins_so
      stops_reading = record {
        keys = some.keys;
        rest = some.taken.rest;
        mid = some.mid.store;
        between = some.taken.image;
        takes = some.taken.steps;
        mid_ends = record {
          pool = some.taken.knows.pool_is;
          held = some.taken.knows.tells.held;
          size = some.taken.knows.size_is;
        };
        at = stops.at.store;
        cache = some.lost.cache;
        loses = some.lost.loses;
        next = some.lost.tips.next;
        ends = record {
          pool = some.lost.knows.pool_is;
          held = some.lost.knows.tells.held;
          size = some.lost.size_is;
        };
        tells = some.lost.knows.tells.told;
        keeps = keeps;
      }
