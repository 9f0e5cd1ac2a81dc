-- The steps of one record add up: behind any of them the engine stands for the same history as before the first.
use Rattle.std.proofs.Common.{◌≡◌, ◌∙◌, refl, sym, subst, ℕ, Bool, true, None, Some}
use Rattle.mg_base.specs.Disk.{MayLeave, Meaning}
use Rattle.mg_base.specs.Image.{Image}
use Rattle.mg_base.specs.Moments.{joined, started}
use Rattle.mg_base.specs.declared.geometry.Geometry.{Geometry}
use Rattle.mg_base.specs.declared.numbers.RecId.{RecId}
use Rattle.mg_base.specs.declared.transaction.TxState.{TxState}
use Rattle.mg_collecting.specs.Steps.{CollectStep, Steps, drops_unneeded, one_more, reads_on, starts, takes_dead, takes_erased}
use Rattle.mg_engine_change_laws.specs.memory.Directories.{StaysKnown}
use Rattle.mg_engine_change_laws.specs.rows.MadeLaws.{StoreOn, on_then, own_on, read_on}
use Rattle.mg_engine_change_laws.specs.rows.Plain.{WritesKeepPlain}
use Rattle.mg_engine_change_laws.specs.rows.TipLaws.{tips_then}
use Rattle.mg_engine_change_laws.specs.rows.Tips.{KeepsTips}
use Rattle.mg_engine_change_laws.specs.rows.Walks.{OthersWalkOn}
use Rattle.mg_engine_meaning_laws.specs.FrameLaws.{store_stands}
use Rattle.mg_engine_meaning_laws.specs.PlainTables.{HasPlainTables}
use Rattle.mg_engine_meaning_laws.specs.Standings.{HasTips}
use Rattle.mg_engine_step_laws.specs.writes.Batches.{ReadsLast, RowsLastStill}
use Rattle.mg_engine_step_laws.specs.commits.ListShows.{ListsStay, TipsStayOn}
use Rattle.mg_engine_step_laws.specs.standing.Standing.{Standing, Stands}
use Rattle.mg_generation_laws.specs.Laws.{CoveredMayGo, ErasedMayGo}
use Rattle.mg_image.specs.Form.{Pages, packed_coding, packed_form}
use Rattle.mg_image.specs.ReadingLaws.{RowsAreOne}
use Rattle.mg_image_overlay_laws.specs.tables.OneLayout.{StandsOneWay}
use Rattle.mg_lasting_laws.specs.Crashes.{HoldsAcknowledged, LeavesSince}
use Rattle.mg_lasting_laws.specs.Lasting.{LastsOn}
use Rattle.mg_lasting_laws.specs.PoolLaws.{HoldsOne}
use Rattle.mg_model.specs.History.{Entries}
use Rattle.mg_model.specs.Laws.{OpeningsBegin}
use Rattle.mg_model.specs.declared.opening.Opening.{Opening}
use Rattle.mg_model.specs.declared.table.Table.{Table}
use Rattle.mg_pool.specs.Dirty.{DirtyPages}
use Rattle.mg_pool.specs.Pool.{IsPool, shown}
use Rattle.mg_pool.specs.declared.pool.Pool.{Pool}
use Rattle.mg_pool_overlay_laws.specs.Needs.{Asked, Sessions}
use Rattle.mg_snap.specs.Live.{State as Bases}
use Rattle.mg_space.specs.Taking.{IsGeometry}
use Rattle.mg_space.specs.View.{KeepsStore, Tells}
use Rattle.mg_space.specs.declared.links.FireLinks.{FireLinks}
use Rattle.mg_txlist.specs.declared.list.TxList.{TxList}
use Rattle.mg_engine_collecting_laws.specs.StandStill.{StandStill, still_here, still_then}
use Rattle.mg_engine_collecting_laws.specs.StepStays.{IsInNamed, ShowsRecord, StepStays, step_stays}

-- ---- the store

module _ {D : Type 0} (m : Meaning D) where
  step_on : (state : ℕ → TxState) (live : Bases) (rec : RecId) (before after : Pool D FireLinks)
      → CollectStep m state live rec before after → StoreOn m before after
  step_on state live rec before after (takes_dead own) = own_on m before after _ own
  step_on state live rec before after (drops_unneeded newer gone own) = own_on m before after _ own
  step_on state live rec before after (takes_erased own) = own_on m before after _ own

  step_pool : (state : ℕ → TxState) (live : Bases) (rec : RecId) (before after : Pool D FireLinks)
      → CollectStep m state live rec before after → IsPool m after
  step_pool state live rec before after (takes_dead own) = own.changed.pool
  step_pool state live rec before after (drops_unneeded newer gone own) = own.changed.pool
  step_pool state live rec before after (takes_erased own) = own.changed.pool

  -- time went on at the store's disk, and no page write has failed
  pub steps_on : (state : ℕ → TxState) (live : Bases) (rec : RecId) (start : Pool D FireLinks)
      → start.offline ≡ None → (some : Bool) (now : Pool D FireLinks) → Steps m state live rec start some now
      → StoreOn m start now
  steps_on state live rec start up b p starts =
      record { goes = store_stands m start; online = up; unmarked = λ page who none. none }
  steps_on state live rec start up b p (reads_on some now after steps keeps online) =
      let before = steps_on state live rec start up some now steps in
      on_then m start now after before (read_on m now after keeps (keeps.offline ∙ before.online))
  steps_on state live rec start up b p (one_more some now after steps step) =
      on_then m start now after (steps_on state live rec start up some now steps)
      (step_on state live rec now after step)

  pub steps_pool : (state : ℕ → TxState) (live : Bases) (rec : RecId) (start : Pool D FireLinks) → IsPool m start
      → (some : Bool) (now : Pool D FireLinks) → Steps m state live rec start some now → IsPool m now
  steps_pool state live rec start pool b p starts = pool
  steps_pool state live rec start pool b p (reads_on some now after steps keeps online) = keeps.pool
  steps_pool state live rec start pool b p (one_more some now after steps step) =
      step_pool state live rec now after step

-- ---- what the engine stands for

module _ (one : RowsAreOne packed_coding) (one_way : StandsOneWay packed_form) (on : TipsStayOn) (lists : ListsStay)
    (keep_plain : WritesKeepPlain) (covered : CoveredMayGo) (erased : ErasedMayGo) (begins : OpeningsBegin)
    {D : Type 0} (m : Meaning D) (last : RowsLastStill D FireLinks m packed_form)
    (reads_last : ReadsLast D FireLinks m packed_form) (holds : HoldsOne D m) (o : Opening) (h : Entries) (s : Standing)
    (list : TxList) (start : Pool D FireLinks) (i : Image) (asked : Asked) (session : Sessions)
    (stands : Stands packed_form start.geometry.size o h s (Some (shown start.dirty i)))
    (lasts : LastsOn m packed_form o h start asked session) (pool_is : IsPool m start)
    (geometry : IsGeometry start.geometry) (tells : Tells m start.disk i) (up : start.offline ≡ None) (rec : RecId)
    (table : Table)
    (here : IsInNamed start.geometry.size s.state (shown start.dirty i) stands.shows.layout stands.shows.reading rec
    table)
    (plain : HasPlainTables start.geometry.size s.state (shown start.dirty i))
    (tips : HasTips list start.geometry.size (shown start.dirty i)) where
  abbrev size : ℕ
  size = start.geometry.size

  abbrev was : Pages
  was = shown start.dirty i

  abbrev Stays : Pool D FireLinks → Type 0
  Stays now = StepStays m o h s list start now was asked session rec table

  abbrev Left : D → Type 0
  Left disk = LeavesSince m start.disk disk (HoldsAcknowledged packed_form start.dirty.size o h)

  -- what was left before, and what is left since
  leaves_then : (now after : Pool D FireLinks) → now.dirty.size ≡ start.dirty.size → Left now.disk
      → LeavesSince m now.disk after.disk (HoldsAcknowledged packed_form now.dirty.size o h) → Left after.disk
  leaves_then now after same first second =
      let on_it : LeavesSince m now.disk after.disk (HoldsAcknowledged packed_form start.dirty.size o h) =
      subst (λ (n : ℕ). LeavesSince m now.disk after.disk (HoldsAcknowledged packed_form n o h)) same second in record {
        since = joined m start.disk now.disk after.disk (HoldsAcknowledged packed_form start.dirty.size o h) first.since
            on_it.since;
        left = on_it.left;
      }

  none_yet : Stays start
  none_yet = record {
    image = i;
    held = tells.held;
    keeps = record { tips = λ sequence below. (refl, refl); next = refl; catalog = refl };
    lasts = lasts;
    leaves = record {
      since = started m start.disk (HoldsAcknowledged packed_form start.dirty.size o h) lasts.left;
      left = lasts.left;
    };
    others = λ t u ne works x after rows comes. comes;
    known = λ from dirs was_known. was_known;
    still = still_here size s.state was;
    shows = record { stands = stands; tips = tips; plain = plain; here = here };
  }

  -- pages were read
  still : (now after : Pool D FireLinks) → StoreOn m start now → Stays now → KeepsStore m now after → Stays after
  still now after gone stays keeps =
      let read = reads_last o h now after asked session (begins o stands.opening) stands.legal
      (gone.goes.time.tells ∙ tells.told) keeps stays.lasts in record {
        image = stays.image;
        held = keeps.disk.held ∙ stays.held;
        keeps = subst (λ (d : DirtyPages). KeepsTips size was (shown d stays.image)) (sym keeps.dirty) stays.keeps;
        lasts = read.0;
        leaves = leaves_then now after gone.goes.size stays.leaves read.1;
        others = λ t. subst (λ (d : DirtyPages). OthersWalkOn size s was (shown d stays.image) t) (sym keeps.dirty)
            (stays.others t);
        known = subst (λ (d : DirtyPages). StaysKnown size s.state was (shown d stays.image)) (sym keeps.dirty)
            stays.known;
        still = subst (λ (d : DirtyPages). StandStill size s.state was (shown d stays.image)) (sym keeps.dirty)
            stays.still;
        shows = subst (λ (g : Geometry). ShowsRecord g.size o h s list (shown after.dirty stays.image) rec table)
            (sym keeps.geometry) (subst (λ (d : DirtyPages). ShowsRecord now.geometry.size o h s list
            (shown d stays.image) rec table) (sym keeps.dirty) stays.shows);
      }

  -- a step more
  step_more : (now after : Pool D FireLinks) → StoreOn m start now → IsPool m now → Stays now
      → CollectStep m s.state s.live rec now after → Stays after
  step_more now after gone pool stays step = by (holds after.disk told)
    where
      told_now : m.tells now.disk ≡ true
      told_now = gone.goes.time.tells ∙ tells.told

      told : m.tells after.disk ≡ true
      told = (step_on m s.state s.live rec now after step).goes.time.tells ∙ told_now

      by : (j : Image) × (m.held after.disk ≡ Some j) × MayLeave m after.disk j → Stays after
      by (j, held, left) = record {
        image = next.image;
        held = next.held;
        keeps = tips_then on size was (shown now.dirty stays.image) (shown after.dirty next.image) stays.keeps
            (subst (λ (g : Geometry). KeepsTips g.size (shown now.dirty stays.image) (shown after.dirty next.image))
            gone.goes.geometry next.keeps);
        lasts = next.lasts;
        leaves = leaves_then now after gone.goes.size stays.leaves next.leaves;
        others = λ t u ne works x from rows comes. subst (λ (g : Geometry). OthersWalkOn g.size s
            (shown now.dirty stays.image) (shown after.dirty next.image) t) gone.goes.geometry (next.others t) u ne works
            x from rows (stays.others t u ne works x from rows comes);
        known = λ from dirs was_known. subst (λ (g : Geometry). StaysKnown g.size s.state (shown now.dirty stays.image)
            (shown after.dirty next.image)) gone.goes.geometry next.known from dirs (stays.known from dirs was_known);
        still = still_then size s.state was (shown now.dirty stays.image) (shown after.dirty next.image) stays.still
            (subst (λ (g : Geometry). StandStill g.size s.state (shown now.dirty stays.image)
            (shown after.dirty next.image)) gone.goes.geometry next.still);
        shows = next.shows;
      }
        where
          next : StepStays m o h s list now after (shown now.dirty stays.image) asked session rec table
          next = step_stays one one_way on lists keep_plain covered erased begins m last o h s list now after
              stays.image j asked session stays.shows.stands stays.lasts pool
              (subst IsGeometry (sym gone.goes.geometry) geometry) (record { told = told_now; held = stays.held })
              (record { told = told; held = held }) rec table stays.shows.here stays.shows.plain stays.shows.tips step

  pub steps_stay : (some : Bool) (now : Pool D FireLinks) → Steps m s.state s.live rec start some now → Stays now
  steps_stay b p starts = none_yet
  steps_stay b p (reads_on some now after steps keeps online) = still now after
      (steps_on m s.state s.live rec start up some now steps) (steps_stay some now steps) keeps
  steps_stay b p (one_more some now after steps step) = step_more now after
      (steps_on m s.state s.live rec start up some now steps)
      (steps_pool m s.state s.live rec start pool_is some now steps) (steps_stay some now steps) step
