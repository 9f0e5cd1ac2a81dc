-- A record is collected by an engine: whatever comes of it, the engine stands for what it stood for, a crash leaves that,
-- and whoever works walks on.
use Rattle.std.proofs.Common.{◌≡◌, ◌∙◌, refl, sym, subst, ℕ, Bool, None, Option, Some}
use Rattle.mg_base.specs.Disk.{Meaning}
use Rattle.mg_base.specs.Image.{Image}
use Rattle.mg_base.specs.declared.geometry.Geometry.{Geometry}
use Rattle.mg_base.specs.declared.numbers.RecId.{RecId}
use Rattle.mg_collecting.specs.Steps.{Steps}
use Rattle.mg_core.specs.Cores.{IsCore}
use Rattle.mg_core.specs.declared.parts.Core.{Core}
use Rattle.mg_directory.specs.Candidates.{by_table}
use Rattle.mg_engine_change_laws.specs.rows.Laid.{StaysOver, bare_standing}
use Rattle.mg_engine_change_laws.specs.rows.Plain.{WritesKeepPlain}
use Rattle.mg_engine_change_laws.specs.memory.StageLaws.{over_so}
use Rattle.mg_engine_change_laws.specs.memory.Stages.{StaysSo}
use Rattle.mg_engine_meaning_laws.specs.Meaning.{Places}
use Rattle.mg_engine_meaning_laws.specs.Standings.{ShowsIt, StandsFor, StandsWhile, asked_in, sessions_in, standing_of}
use Rattle.mg_engine_meaning_laws.specs.StepLaws.{as_standing, shows_of}
use Rattle.mg_engine_step_laws.specs.writes.Batches.{ReadsLast, RowsLastStill}
use Rattle.mg_engine_step_laws.specs.commits.ListShows.{ListsStay, TipsStayOn}
use Rattle.mg_engine_step_laws.specs.standing.Standing.{Standing}
use Rattle.mg_engine_step_laws.specs.reads.Walking.{AreToCome}
use Rattle.mg_generation_laws.specs.Laws.{CoveredMayGo, ErasedMayGo}
use Rattle.mg_image.specs.Form.{packed_coding, packed_form}
use Rattle.mg_image.specs.ReadingLaws.{RowsAreOne}
use Rattle.mg_image_overlay_laws.specs.tables.OneLayout.{StandsOneWay}
use Rattle.mg_lasting_laws.specs.PoolLaws.{HoldsOne}
use Rattle.mg_model.specs.History.{Entries}
use Rattle.mg_model.specs.Laws.{OpeningsBegin}
use Rattle.mg_model.specs.declared.opening.Opening.{Opening}
use Rattle.mg_model.specs.declared.table.Table.{Table}
use Rattle.mg_engine_meaning_laws.specs.KnownRecords.{KnowsIts}
use Rattle.mg_pool.specs.Pool.{shown}
use Rattle.mg_pool.specs.declared.pool.Pool.{Pool}
use Rattle.mg_space.specs.declared.links.FireLinks.{FireLinks}
use Rattle.mg_txlist.specs.TxList.{said}
use Rattle.mg_engine_collecting_laws.specs.RunStays.{steps_on, steps_stay}
use Rattle.mg_engine_collecting_laws.specs.StepStays.{IsInNamed, StepStays}

-- the record is one of a table that a committed row of the catalog names, by each history that the engine stands for
abbrev pub HasInNamed : {D : Type 0} → (m : Meaning D) (core : Core D) → core.store.offline ≡ None → RecId → Type 0
HasInNamed m core up rec = (o : Opening) (h : Entries) (stands : StandsFor m core o h)
    → (table : Table) × IsInNamed core.store.geometry.size (said core.list)
    (shown core.store.dirty (shows_of m core o h stands up).image) (shows_of m core o h stands up).stands.shows.layout
    (shows_of m core o h stands up).stands.shows.reading rec table

module _ (one : RowsAreOne packed_coding) (one_way : StandsOneWay packed_form) (on : TipsStayOn) (lists : ListsStay)
    (keep_plain : WritesKeepPlain) (covered : CoveredMayGo) (erased : ErasedMayGo) (begins : OpeningsBegin)
    {D : Type 0} (m : Meaning D) (last : RowsLastStill D FireLinks m packed_form)
    (reads_last : ReadsLast D FireLinks m packed_form) (holds : HoldsOne D m) (old : Core D) (core : IsCore m old)
    (up : old.store.offline ≡ None) (rec : RecId) (here : HasInNamed m old up rec) where
  module _ (some : Bool) (now : Pool D FireLinks) (steps : Steps m (said old.list) old.live rec old.store some now) where
    module _ (o : Opening) (h : Entries) (stands : StandsFor m old o h) where
      abbrev s : Standing
      s = standing_of old stands.numbers stands.tables

      abbrev shows : ShowsIt m old o h (standing_of old stands.numbers stands.tables)
      shows = shows_of m old o h stands up

      abbrev table : Table
      table = (here o h stands).0

      -- what its pages show behind the steps
      pub shows_then : StepStays m o h (standing_of old stands.numbers stands.tables) old.list old.store now
          (shown old.store.dirty (shows_of m old o h stands up).image) (asked_in old.works) (sessions_in old.works) rec
          (here o h stands).0
      shows_then = steps_stay one one_way on lists keep_plain covered erased begins m last reads_last holds o h s old.list
          old.store shows.image (asked_in old.works) (sessions_in old.works) shows.stands shows.lasts core.pool
          core.geometry (record { told = stands.tells; held = shows.held }) up rec table (here o h stands).1
          shows.plain_tables shows.tips some now steps

      same : now.geometry ≡ old.store.geometry
      same = (steps_on m (said old.list) old.live rec old.store up some now steps).goes.geometry

      shows_now : ShowsIt m (record old { store = now }) o h
          (standing_of (record old { store = now }) stands.numbers stands.tables)
      shows_now = record {
        image = shows_then.image;
        held = shows_then.held;
        stands = shows_then.shows.stands;
        lasts = shows_then.lasts;
        tips = shows_then.shows.tips;
        catalog = shows.catalog ∙ sym shows_then.keeps.catalog;
        plain_tables = shows_then.shows.plain;
        no_directory = shows.no_directory;
        known = subst (λ (g : Geometry). KnowsIts o.next.0 g.size (said old.list) (shown now.dirty shows_then.image)
            old.directories) (sym same) (shows_then.known o.next.0 (by_table old.directories.dirs) shows.known);
      }

      stays_over : (t : ℕ) → StaysOver m old now o h t
      stays_over t = record {
        stands = record {
          tells = (steps_on m (said old.list) old.live rec old.store up some now steps).goes.time.tells ∙ stands.tells;
          grows = stands.grows;
          bases = stands.bases;
          numbers = stands.numbers;
          tables = stands.tables;
          given = stands.given;
          kept = stands.kept;
          stands = subst (λ (off : Option ℕ). StandsWhile m (record old { store = now }) o h
              (standing_of (record old { store = now }) stands.numbers stands.tables) off)
              (sym (steps_on m (said old.list) old.live rec old.store up some now steps).online) shows_now;
        };
        leaves = shows_then.leaves;
        walks = λ i held u ne works x from rows comes.
            let both : Some shows.image ≡ Some i = sym shows.held ∙ held in
            let image_is : i ≡ shows.image = cc in (
              shows_then.image,
              shows_then.held,
              as_standing now.geometry.size s (bare_standing old) (shown now.dirty shows_then.image) u x from rows refl refl
                  (subst (λ (g : Geometry). AreToCome g.size s (shown now.dirty shows_then.image) u x from rows) (sym same)
                  (shows_then.others t u ne works x from rows (as_standing old.store.geometry.size (bare_standing old) s
                  (shown old.store.dirty shows.image) u x from rows refl refl (subst (λ (k : Image).
                  AreToCome old.store.geometry.size (bare_standing old) (shown old.store.dirty k) u x from rows)
                  image_is comes)))),
            );
      }

    -- the steps that were made
    pub steps_so : {P : Type 0} (places : Places P) (t : ℕ) → StaysSo m places old (record old { store = now }) t
    steps_so places t = over_so m places old now t up (steps_on m (said old.list) old.live rec old.store up some now steps)
        (λ o h stands. stays_over o h stands t)
