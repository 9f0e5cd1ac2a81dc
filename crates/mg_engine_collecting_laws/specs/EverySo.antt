-- Every record of the committed tables is collected by an engine: it is nobody's event, made or refused.
use Rattle.std.proofs.Common.{◌≡◌, ◌≢◌, ◌∙◌, ◌⊎◌, ◌++◌, ◌+◌, ◌≤◌, ◌^◌, ◌-◌, inl, inr, refl, sym, ap, subst, arith, ℕ, Bool, true, false, List, [], ◌∷◌, None, Option, Some, Result, Ok, Err}
use Rattle.std.specs.Prelude.{map}
use Rattle.mg_base.specs.Disk.{Meaning}
use Rattle.mg_base.specs.Image.{Image}
use Rattle.mg_base.specs.declared.geometry.Geometry.{Geometry}
use Rattle.mg_base.specs.declared.numbers.RecId.{RecId}
use Rattle.mg_base.specs.declared.transaction.TxState.{TxState}
use Rattle.mg_base.specs.declared.transaction.TxState.TheVariants.{Committed}
use Rattle.mg_core.specs.Cores.{IsCore}
use Rattle.mg_core.specs.Refusing.{NamesLimit}
use Rattle.mg_core.specs.declared.parts.Core.{Core}
use Rattle.mg_core_collecting.specs.Every.{AreNamed, CollectsAll, CollectsCommitted, CollectsEvery, CollectsListed, CollectsTable, FailsAll, FailsCommitted, FailsListed, FailsTable, GoesThrough, IsStray, RefusesAll, StopsAt, StopsInTable, CollectsOne, is_collected, is_stray, left_alone, none_yet, one_more, stops_in, system_base, uncollected, unlisted, unlooked}
use Rattle.mg_directory.specs.Candidates.{by_table}
use Rattle.mg_engine_change_laws.specs.memory.StageLaws.{fails_so, fault_may, left_geometry, over_so, reads_so, so_then, told_of}
use Rattle.mg_engine_change_laws.specs.memory.Stages.{FailsReady, StaysSo, TellsOf}
use Rattle.mg_engine_change_laws.specs.rows.Laid.{StaysOver, bare_standing}
use Rattle.mg_engine_change_laws.specs.rows.MadeLaws.{StoreOn, on_then, read_on, stays_on}
use Rattle.mg_engine_change_laws.specs.rows.Plain.{WritesKeepPlain}
use Rattle.mg_engine_change_laws.specs.rows.StopLaws.{fault_outer, risen}
use Rattle.mg_engine_meaning_laws.specs.Counts.{HasCounts}
use Rattle.mg_engine_meaning_laws.specs.FrameLaws.{commits_of, is_apart, keeps_of, sessions_of, tables_of, works_same}
use Rattle.mg_engine_meaning_laws.specs.Frames.{MayAnswer}
use Rattle.mg_engine_meaning_laws.specs.KeepLaws.{catalog_shown}
use Rattle.mg_engine_meaning_laws.specs.KnownRecords.{KnowsIts}
use Rattle.mg_engine_meaning_laws.specs.Meaning.{Places, means}
use Rattle.mg_engine_meaning_laws.specs.Standings.{Numbers, ShowsIt, StandsFor, StandsWhile, Tables, sessions_in, standing_of}
use Rattle.mg_engine_meaning_laws.specs.StepLaws.{as_standing, shows_of}
use Rattle.mg_engine_meaning_laws.specs.StillLaws.{still_quiet, still_reads, still_sessions}
use Rattle.mg_engine_step_laws.specs.commits.ListShows.{ListsStay, TipsStayOn}
use Rattle.mg_engine_step_laws.specs.commits.PageWrites.{PageWritesFail}
use Rattle.mg_engine_step_laws.specs.reads.Walking.{AreToCome}
use Rattle.mg_engine_step_laws.specs.writes.Batches.{ReadsLast, RowsLastStill}
use Rattle.mg_generation_laws.specs.Laws.{CoveredMayGo, ErasedMayGo}
use Rattle.mg_image.specs.Form.{packed_coding, packed_form}
use Rattle.mg_image.specs.ReadingLaws.{RowsAreOne}
use Rattle.mg_image.specs.Sound.{IsSoundBy}
use Rattle.mg_image.specs.Tables.{Layout, Stand}
use Rattle.mg_image_overlay_laws.specs.tables.OneLayout.{StandsOneWay}
use Rattle.mg_image_overlay_laws.specs.tables.TableOwners.{IsOneOf}
use Rattle.mg_lasting_laws.specs.PoolLaws.{HoldsOne}
use Rattle.mg_model.specs.Answers.{is_committed}
use Rattle.mg_model.specs.Catalog.{catalog_name}
use Rattle.mg_model.specs.History.{Entries}
use Rattle.mg_model.specs.Laws.{OpeningsBegin}
use Rattle.mg_model.specs.Legal.{is_outer}
use Rattle.mg_model.specs.Machine.{next_number}
use Rattle.mg_model.specs.NumberLaws.{undrawn_is_dead}
use Rattle.mg_model.specs.Openings.{everyone}
use Rattle.mg_model.specs.declared.answer.Answer.TheVariants.{No}
use Rattle.mg_model.specs.declared.opening.Opening.{Opening}
use Rattle.mg_model.specs.declared.refusal.Refusal.{Refusal}
use Rattle.mg_model.specs.declared.refusal.Refusal.TheVariants.{Memory, Offline}
use Rattle.mg_model.specs.declared.table.Table.{Table}
use Rattle.mg_overlay_laws.specs.Overlays.{left_state}
use Rattle.mg_pool.specs.Pool.{shown}
use Rattle.mg_pool.specs.declared.fault.PoolFault.TheVariants as pool_faults
use Rattle.mg_pool.specs.declared.pool.Pool.{Pool}
use Rattle.mg_records.specs.Keeping.{Reads}
use Rattle.mg_seek.specs.Readings.{RowsOfReadings}
use Rattle.mg_seek.specs.TableRecords.{IsAmong}
use Rattle.mg_space.specs.View.{KeepsStore, Tells}
use Rattle.mg_space.specs.declared.fault.SpaceFault.{SpaceFault}
use Rattle.mg_space.specs.declared.fault.SpaceFault.TheVariants as faults
use Rattle.mg_space.specs.declared.links.FireLinks.{FireLinks}
use Rattle.mg_txlist.specs.TxList.{next_said, said}
use Rattle.mg_txlist.specs.declared.list.TxList.{TxList}
use Rattle.mg_engine_collecting_laws.specs.Committed.{found_are, named_stands}
use Rattle.mg_engine_collecting_laws.specs.EveryStays.{AreOf, HasShown, HasStanding, HaveStandings, IsBehind, IsPageAt, behind_then, each_behind, here_behind, one_image, other_name, page_on, part_behind, read_behind, ready_of, standings_on, tables_behind}
use Rattle.mg_engine_collecting_laws.specs.PlaceStays.{IsNobodysEvent, StopsFrom, stops_from}
use Rattle.mg_engine_collecting_laws.specs.RunStays.{steps_on}

-- so it is with the collection of every record
abbrev pub EveryIsNobodys : (D P : Type 0) → Meaning D → Type 0
EveryIsNobodys D P m = (places : Places P) (old new : Core D) (result : Result (Unit {0}) Refusal) → IsCore m old
    → HasCounts old → CollectsEvery m old new result → IsNobodysEvent m places old new result

-- ---- lists

pub among_done : (done later : List RecId) (next rec : RecId) → IsAmong done rec → IsAmong (done ++ next ∷ later) rec
among_done [] later next rec is = absurd is
among_done (x ∷ done) later next rec (inl same) = inl same
among_done (x ∷ done) later next rec (inr more) = inr (among_done done later next rec more)

pub among_next : (done later : List RecId) (next : RecId) → IsAmong (done ++ next ∷ later) next
among_next [] later next = inl refl
among_next (x ∷ done) later next = inr (among_next done later next)

pub one_done : (done later : List Table) (next table : Table) → IsOneOf done table → IsOneOf (done ++ next ∷ later) table
one_done [] later next table is = absurd is
one_done (x ∷ done) later next table (inl same) = inl same
one_done (x ∷ done) later next table (inr more) = inr (one_done done later next table more)

pub one_next : (done later : List Table) (next : Table) → IsOneOf (done ++ next ∷ later) next
one_next [] later next = inl refl
one_next (x ∷ done) later next = inr (one_next done later next)

-- ---- the store

module _ {D : Type 0} (m : Meaning D) (old : Core D) where
  listed_on : (a b : Pool D FireLinks) (rec : RecId) (gone : Bool) → a.offline ≡ None
      → CollectsListed m (said old.list) old.live rec gone a b → StoreOn m a b
  listed_on a b rec gone up (left_alone none keeps online why) = read_on m a b keeps (keeps.offline ∙ up)
  listed_on a b rec gone up (is_collected ready keeps online settled collected) = on_then m a ready b
      (read_on m a ready keeps (keeps.offline ∙ up))
      (steps_on m (said old.list) old.live rec ready (keeps.offline ∙ up) gone b collected.collected.steps)

  each_on : (a : Pool D FireLinks) (records : List RecId) (b : Pool D FireLinks) → a.offline ≡ None
      → GoesThrough (CollectsOne m (said old.list) old.live) a records b → StoreOn m a b
  each_on a records b up none_yet = stays_on m a up
  each_on a records b up (one_more done next mid now goes made) =
      let first = each_on a done mid up goes in
      on_then m a mid now first (listed_on mid now next made.0 first.online made.1)

  of_table_on : (a b : Pool D FireLinks) (table : Table) → a.offline ≡ None
      → CollectsTable m (said old.list) old.live table a b → StoreOn m a b
  of_table_on a b table up made = on_then m a made.ready b (read_on m a made.ready made.keeps (made.keeps.offline ∙ up))
      (each_on made.ready made.records b (made.keeps.offline ∙ up) made.goes)

  of_tables_on : (a : Pool D FireLinks) (tables : List Table) (b : Pool D FireLinks) → a.offline ≡ None
      → GoesThrough (CollectsTable m (said old.list) old.live) a tables b → StoreOn m a b
  of_tables_on a tables b up none_yet = stays_on m a up
  of_tables_on a tables b up (one_more done next mid now goes made) =
      let first = of_tables_on a done mid up goes in
      on_then m a mid now first (of_table_on mid now next first.online made)

-- a record is on a page of a table beside the catalog, and so are all of some records
abbrev HasItsTable : {D : Type 0} → Meaning D → (ℕ → TxState) → Pool D FireLinks → RecId → Type 0
HasItsTable m state store rec = (its : Table) × (its.name ≢ catalog_name) × IsPageAt m state store rec.page.0 its

abbrev HaveTheirTable : {D : Type 0} → Meaning D → (ℕ → TxState) → Pool D FireLinks → List RecId → Type 0
HaveTheirTable m state store records = (its : Table) × (its.name ≢ catalog_name) × AreOf m state store its records

-- A collection went on to a store, and no further: from there on pages were only read, or a page write failed. Where what
-- it owes was so at its start that store is behind it.
record WentOn {D : Type 0} (m : Meaning D) (old : Core D) (owes : Type 0) (before after : Pool D FireLinks)
    (fault : SpaceFault) : Type 0 where
  now : Pool D FireLinks
  on : StoreOn m before now
  behind : owes → (o : Opening) (h : Entries) (numbers : Numbers) (tables : Tables)
      → (it : HasShown m old o h numbers tables before)
      → IsBehind m old o h numbers tables before (shown before.dirty it.image) now
  stops : StopsFrom m now after fault

-- ---- the tables that are found

pub system_said : (list : TxList) → said list 0 ≡ Committed
unfolding said
system_said list = refl

module _ {D : Type 0} (m : Meaning D) (old : Core D) (up : old.store.offline ≡ None) (o : Opening) (h : Entries)
    (stands : StandsFor m old o h) where
  abbrev pub shown_of : IsCore m old → HasShown m old o h stands.numbers stands.tables old.store
  shown_of core = record {
    image = (shows_of m old o h stands up).image;
    tells = record { told = stands.tells; held = (shows_of m old o h stands up).held };
    up = up;
    pool = core.pool;
    geometry = core.geometry;
    stands = (shows_of m old o h stands up).stands;
    lasts = (shows_of m old o h stands up).lasts;
    tips = (shows_of m old o h stands up).tips;
    plain = (shows_of m old o h stands up).plain_tables;
  }

  -- none that is not drawn yet is committed
  pub committed_past : OpeningsBegin → (u : ℕ) → next_said old.list ≤ u → is_committed (said old.list u) ≡ false
  committed_past begins u above = ap is_committed (shows.stands.memory.state u ∙ undrawn_is_dead o
      (begins o shows.stands.opening) h shows.stands.legal u (let same : next_said old.list ≡ next_number o h =
      shows.stands.memory.next in omega (arith, above, same)))
    where
      shows : ShowsIt m old o h (standing_of old stands.numbers stands.tables)
      shows = shows_of m old o h stands up

  -- where each table begins that is found one stands
  pub found_stand : StandsOneWay packed_form → OpeningsBegin → RowsOfReadings → IsCore m old → (all : List Table)
      → ((image : Image) → Tells m old.store.disk image → AreNamed (said old.list)
      (system_base (next_said old.list)) (shown old.store.dirty image) old.catalog all)
      → HaveStandings m (said old.list) old.store all
  found_stand one_way begins rows_law core all named table among = record {
    its = it.0;
    named = it.2;
    same = it.3;
    stands = λ image other layout r sound. subst (λ (l : Layout).
        IsOneOf (map (λ (stand : Stand). stand.table) l.tables) it.0)
        (one_way old.store.geometry.size (left_state everyone (said old.list)) (shown old.store.dirty image)
        shows.stands.shows.layout layout shows.stands.shows.reading r
        (subst (λ (i : Image). IsSoundBy packed_form old.store.geometry.size (left_state everyone (said old.list))
        (shown old.store.dirty i) shows.stands.shows.layout shows.stands.shows.reading)
        (one_image m old.store.disk shows.image image tells other) shows.stands.shows.sound) sound).0 it.1;
  }
    where
      shows : ShowsIt m old o h (standing_of old stands.numbers stands.tables)
      shows = shows_of m old o h stands up

      tells : Tells m old.store.disk shows.image
      tells = record { told = stands.tells; held = shows.held }

      found : AreNamed (said old.list) (system_base (next_said old.list)) (shown old.store.dirty shows.image)
          shows.stands.shows.layout.catalog.table all
      found = subst (λ (c : Table). AreNamed (said old.list) (system_base (next_said old.list))
          (shown old.store.dirty shows.image) c all)
          (catalog_shown m old o h (standing_of old stands.numbers stands.tables) core shows) (named shows.image tells)

      it : (its : Table) × IsOneOf (map (λ stand. stand.table) shows.stands.shows.layout.tables) its
          × (its.name ≡ table.name) × (its.pointer ≡ table.pointer)
      it = named_stands rows_law old.store.geometry.size (said old.list) (shown old.store.dirty shows.image)
          shows.stands.shows.layout shows.stands.shows.reading shows.stands.shows.sound table
          (subst (λ (ts : List Table). IsOneOf ts table) (found_are rows_law old.store.geometry.size (said old.list)
          (shown old.store.dirty shows.image) shows.stands.shows.layout shows.stands.shows.reading
          shows.stands.shows.sound (next_said old.list) (system_said old.list) (committed_past begins) all found) among)

-- ---- each history

module _ (one : RowsAreOne packed_coding) (one_way : StandsOneWay packed_form) (on_tips : TipsStayOn) (lists : ListsStay)
    (keep_plain : WritesKeepPlain) (covered : CoveredMayGo) (erased : ErasedMayGo) (begins : OpeningsBegin)
    (rows_law : RowsOfReadings) {D : Type 0} (m : Meaning D) (last : RowsLastStill D FireLinks m packed_form)
    (reads_last : ReadsLast D FireLinks m packed_form) (holds : HoldsOne D m)
    (failing : PageWritesFail D FireLinks m packed_form) (old : Core D) where
  -- ---- where it stops

  -- pages were only read
  read_stops : (owes : Type 0) (a b : Pool D FireLinks) (fault : SpaceFault) → a.offline ≡ None → KeepsStore m a b
      → TellsOf m a b fault → WentOn m old owes a b fault
  read_stops owes a b fault up keeps told = record {
    now = a;
    on = stays_on m a up;
    behind = λ owed o h numbers tables it. here_behind on_tips m old o h numbers tables a it;
    stops = record { left = inl keeps; told = told };
  }

  listed_stops : (a b : Pool D FireLinks) (rec : RecId) (fault : SpaceFault) → a.offline ≡ None
      → FailsListed m (said old.list) old.live rec a b fault
      → WentOn m old (HasItsTable m (said old.list) a rec) a b fault
  listed_stops a b rec fault up (unlooked fails) = read_stops (HasItsTable m (said old.list) a rec) a b fault up
      fails.keeps (told_of m a b fault fails.told)
  listed_stops a b rec fault up (uncollected ready keeps online settled fails) = record {
    now = fails.now;
    on = on_then m a ready fails.now (read_on m a ready keeps (keeps.offline ∙ up))
        (steps_on m (said old.list) old.live rec ready (keeps.offline ∙ up) fails.some fails.now fails.steps);
    behind = λ owed o h numbers tables it. part_behind one one_way on_tips lists keep_plain covered erased begins m last
        reads_last holds old o h numbers tables a ready fails.now it rec owed.0 owed.1 owed.2 keeps settled fails.some
        fails.steps;
    stops = stops_from m rec fails.now b fault fails.fails;
  }

  -- behind what was collected, the next one
  then_stops : (owes_next owes : Type 0) (a mid b : Pool D FireLinks) (fault : SpaceFault) → StoreOn m a mid
      → (owes → (o : Opening) (h : Entries) (numbers : Numbers) (tables : Tables)
      → (it : HasShown m old o h numbers tables a) → IsBehind m old o h numbers tables a (shown a.dirty it.image) mid)
      → (owes → (o : Opening) (h : Entries) (numbers : Numbers) (tables : Tables)
      → (it : HasShown m old o h numbers tables a)
      → IsBehind m old o h numbers tables a (shown a.dirty it.image) mid → owes_next)
      → WentOn m old owes_next mid b fault → WentOn m old owes a b fault
  then_stops owes_next owes a mid b fault on first owed_next next = record {
    now = next.now;
    on = on_then m a mid next.now on next.on;
    behind = λ owed o h numbers tables it. behind_then on_tips m old o h numbers tables a mid next.now
        (shown a.dirty it.image) (first owed o h numbers tables it)
        (next.behind (owed_next owed o h numbers tables it (first owed o h numbers tables it)) o h numbers tables
        (first owed o h numbers tables it).shown_then);
    stops = next.stops;
  }

  each_stops : (a b : Pool D FireLinks) (records : List RecId) (fault : SpaceFault) → a.offline ≡ None
      → StopsAt (CollectsOne m (said old.list) old.live) (FailsListed m (said old.list) old.live) a records b fault
      → WentOn m old (HaveTheirTable m (said old.list) a records) a b fault
  each_stops a b records fault up stop = then_stops (HasItsTable m (said old.list) stop.mid stop.next)
      (HaveTheirTable m (said old.list) a records) a stop.mid b fault first_on
      (λ owed o h numbers tables it. each_behind one one_way on_tips lists keep_plain covered erased begins m last
      reads_last holds old o h numbers tables a it owed.0 owed.1 stop.done stop.mid stop.goes
      (λ rec among. owed.2 rec (subst (λ (rs : List RecId). IsAmong rs rec) (sym stop.parts)
      (among_done stop.done stop.later stop.next rec among))))
      (λ owed o h numbers tables it first. (
        owed.0,
        owed.1,
        page_on on_tips m old o h numbers tables a stop.mid it first stop.next.page.0 owed.0
            (owed.2 stop.next (subst (λ (rs : List RecId). IsAmong rs stop.next) (sym stop.parts)
            (among_next stop.done stop.later stop.next))),
      )) (listed_stops stop.mid b stop.next fault first_on.online stop.stops)
    where
      first_on : StoreOn m a stop.mid
      first_on = each_on m old a stop.done stop.mid up stop.goes

  -- a table that begins at no page of a database is no fault of the cache
  stray_told : (a b : Pool D FireLinks) (catalog pointer : ℕ) (fault : SpaceFault) → IsStray catalog pointer fault
      → b.offline ≡ None → TellsOf m a b fault
  stray_told a b catalog pointer (faults.Full limit) stray up = absurd stray
  stray_told a b catalog pointer (faults.Damaged it) stray up = up
  stray_told a b catalog pointer (faults.Pool fault) stray up = absurd stray

  in_table : (a b : Pool D FireLinks) (table : Table) (fault : SpaceFault) → a.offline ≡ None
      → StopsInTable m (said old.list) old.live table a b fault
      → WentOn m old (HasStanding m (said old.list) a table) a b fault
  in_table a b table fault up stop = then_stops (HaveTheirTable m (said old.list) stop.ready stop.records)
      (HasStanding m (said old.list) a table) a stop.ready b fault
      (read_on m a stop.ready stop.keeps (stop.keeps.offline ∙ up))
      (λ standing o h numbers tables it. read_behind one one_way on_tips lists keep_plain covered erased begins m last
      reads_last holds old o h numbers tables a stop.ready it stop.keeps)
      (λ standing o h numbers tables it first. (
        standing.its,
        other_name on_tips m old o h numbers tables a it standing.its standing.stands,
        ready_of one one_way on_tips lists keep_plain covered erased begins m last reads_last holds old o h numbers
            tables a stop.ready it table standing stop.keeps stop.records stop.are,
      )) (each_stops stop.ready b stop.records fault (stop.keeps.offline ∙ up) stop.stops)

  table_stops : (a b : Pool D FireLinks) (catalog : ℕ) (table : Table) (fault : SpaceFault) → a.offline ≡ None
      → FailsTable m (said old.list) old.live catalog table a b fault
      → WentOn m old (HasStanding m (said old.list) a table) a b fault
  table_stops a b catalog table fault up (is_stray stray keeps same) =
      read_stops (HasStanding m (said old.list) a table) a b fault up keeps
      (stray_told a b catalog table.pointer.0 fault stray (keeps.offline ∙ up))
  table_stops a b catalog table fault up (unlisted fails) =
      read_stops (HasStanding m (said old.list) a table) a b fault up fails.keeps (told_of m a b fault fails.told)
  table_stops a b catalog table fault up (stops_in stop) = in_table a b table fault up stop

  tables_stop : (a b : Pool D FireLinks) (catalog : ℕ) (all : List Table) (fault : SpaceFault) → a.offline ≡ None
      → StopsAt (CollectsTable m (said old.list) old.live) (FailsTable m (said old.list) old.live catalog) a all b fault
      → WentOn m old (HaveStandings m (said old.list) a all) a b fault
  tables_stop a b catalog all fault up stop = then_stops (HasStanding m (said old.list) stop.mid stop.next)
      (HaveStandings m (said old.list) a all) a stop.mid b fault first_on
      (λ have o h numbers tables it. tables_behind one one_way on_tips lists keep_plain covered erased begins m last
      reads_last holds old o h numbers tables a it stop.done stop.mid stop.goes
      (λ table among. have table (subst (λ (ts : List Table). IsOneOf ts table) (sym stop.parts)
      (one_done stop.done stop.later stop.next table among))))
      (λ have o h numbers tables it first. standings_on on_tips m old o h numbers tables a stop.mid it first all have
      stop.next (subst (λ (ts : List Table). IsOneOf ts stop.next) (sym stop.parts)
      (one_next stop.done stop.later stop.next)))
      (table_stops stop.mid b catalog stop.next fault first_on.online stop.stops)
    where
      first_on : StoreOn m a stop.mid
      first_on = of_tables_on m old a stop.done stop.mid up stop.goes

  -- ---- the core

  module _ (core : IsCore m old) (up : old.store.offline ≡ None) where
    -- behind the store of an engine that stands for a history it goes on to stand for it
    stays_over : (store : Pool D FireLinks) (o : Opening) (h : Entries) (stands : StandsFor m old o h)
        → IsBehind m old o h stands.numbers stands.tables old.store
        (shown old.store.dirty (shown_of m old up o h stands core).image) store → (t : ℕ) → StaysOver m old store o h t
    stays_over store o h stands behind t = record {
      stands = record {
        tells = behind.shown_then.tells.told;
        grows = stands.grows;
        bases = stands.bases;
        numbers = stands.numbers;
        tables = stands.tables;
        given = stands.given;
        kept = stands.kept;
        stands = subst (λ (off : Option ℕ). StandsWhile m (record old { store = store }) o h
            (standing_of (record old { store = store }) stands.numbers stands.tables) off)
            (sym behind.on.online) shows_now;
      };
      leaves = behind.leaves;
      walks = λ i held u ne works x from rows comes.
          let both : Some shows.image ≡ Some i = sym shows.held ∙ held in
          let image_is : i ≡ shows.image = cc in (
            behind.shown_then.image,
            behind.shown_then.tells.held,
            as_standing store.geometry.size (standing_of old stands.numbers stands.tables) (bare_standing old)
                (shown store.dirty behind.shown_then.image) u x from rows refl refl
                (subst (λ (g : Geometry). AreToCome g.size (standing_of old stands.numbers stands.tables)
                (shown store.dirty behind.shown_then.image) u x from rows) (sym same)
                (behind.others t u ne works x from rows (as_standing old.store.geometry.size (bare_standing old)
                (standing_of old stands.numbers stands.tables) (shown old.store.dirty shows.image) u x from rows refl refl
                (subst (λ (k : Image). AreToCome old.store.geometry.size (bare_standing old)
                (shown old.store.dirty k) u x from rows) image_is comes)))),
          );
    }
      where
        shows : ShowsIt m old o h (standing_of old stands.numbers stands.tables)
        shows = shows_of m old o h stands up

        same : store.geometry ≡ old.store.geometry
        same = behind.on.goes.geometry

        shows_now : ShowsIt m (record old { store = store }) o h
            (standing_of (record old { store = store }) stands.numbers stands.tables)
        shows_now = record {
          image = behind.shown_then.image;
          held = behind.shown_then.tells.held;
          stands = behind.shown_then.stands;
          lasts = behind.shown_then.lasts;
          tips = behind.shown_then.tips;
          catalog = shows.catalog ∙ sym behind.keeps.catalog;
          plain_tables = behind.shown_then.plain;
          no_directory = shows.no_directory;
          known = subst (λ (g : Geometry). KnowsIts o.next.0 g.size (said old.list)
              (shown store.dirty behind.shown_then.image) old.directories) (sym same)
              (behind.known o.next.0 (by_table old.directories.dirs) shows.known);
        }

    so_from : {P : Type 0} (places : Places P) (store : Pool D FireLinks) → StoreOn m old.store store
        → ((o : Opening) (h : Entries) (stands : StandsFor m old o h)
        → IsBehind m old o h stands.numbers stands.tables old.store
        (shown old.store.dirty (shown_of m old up o h stands core).image) store) → (t : ℕ)
        → StaysSo m places old (record old { store = store }) t
    so_from places store on behind t = over_so m places old store t up on
        (λ o h stands. stays_over store o h stands (behind o h stands) t)

    -- all was collected
    committed_on : (store : Pool D FireLinks)
        → CollectsCommitted m old.store store (said old.list) old.live (system_base (next_said old.list)) old.catalog
        → StoreOn m old.store store
    committed_on store is = on_then m old.store is.ready store
        (read_on m old.store is.ready is.finds.keeps (is.finds.keeps.offline ∙ up))
        (of_tables_on m old is.ready is.tables store (is.finds.keeps.offline ∙ up) is.goes)

    pub committed_behind : (store : Pool D FireLinks)
        → CollectsCommitted m old.store store (said old.list) old.live (system_base (next_said old.list)) old.catalog
        → (o : Opening) (h : Entries) (stands : StandsFor m old o h)
        → IsBehind m old o h stands.numbers stands.tables old.store
        (shown old.store.dirty (shown_of m old up o h stands core).image) store
    committed_behind store is o h stands = behind_then on_tips m old o h stands.numbers stands.tables old.store is.ready
        store (shown old.store.dirty it.image) first (tables_behind one one_way on_tips lists keep_plain covered erased
        begins m last reads_last holds old o h stands.numbers stands.tables is.ready first.shown_then is.tables store
        is.goes (standings_on on_tips m old o h stands.numbers stands.tables old.store is.ready it first is.tables
        (found_stand m old up o h stands one_way begins rows_law core is.tables is.finds.named)))
      where
        it : HasShown m old o h stands.numbers stands.tables old.store
        it = shown_of m old up o h stands core

        first : IsBehind m old o h stands.numbers stands.tables old.store
            (shown old.store.dirty (shown_of m old up o h stands core).image) is.ready
        first = read_behind one one_way on_tips lists keep_plain covered erased begins m last reads_last holds old o h
            stands.numbers stands.tables old.store is.ready (shown_of m old up o h stands core) is.finds.keeps

    collected_so : {P : Type 0} (places : Places P) (store : Pool D FireLinks)
        → CollectsCommitted m old.store store (said old.list) old.live (system_base (next_said old.list)) old.catalog
        → (t : ℕ) → StaysSo m places old (record old { store = store }) t
    collected_so places store is t = so_from places store (committed_on store is) (committed_behind store is) t

    -- or it stopped
    record StoppedSo {P : Type 0} (places : Places P) (after : Pool D FireLinks) (fault : SpaceFault) : Type 0 where
      now : Pool D FireLinks
      so : (t : ℕ) → StaysSo m places old (record old { store = now }) t
      up_now : now.offline ≡ None
      stops : StopsFrom m now after fault

    stopped_so : {P : Type 0} (places : Places P) (after : Pool D FireLinks) (fault : SpaceFault)
        → FailsCommitted m old.store after (said old.list) old.live (system_base (next_said old.list)) old.catalog fault
        → StoppedSo places after fault
    stopped_so places after fault (inl fails) = record {
      now = old.store;
      so = λ t. so_from places old.store (stays_on m old.store up)
          (λ o h stands. here_behind on_tips m old o h stands.numbers stands.tables old.store
          (shown_of m old up o h stands core)) t;
      up_now = up;
      stops = record { left = inl fails.keeps; told = told_of m old.store after fault fails.told };
    }
    stopped_so places after fault (inr stop) = record {
      now = went.now;
      so = λ t. so_from places went.now went.on (λ o h stands. went.behind
          (found_stand m old up o h stands one_way begins rows_law core stop.tables stop.finds.named) o h stands.numbers stands.tables
          (shown_of m old up o h stands core)) t;
      up_now = went.on.online;
      stops = went.stops;
    }
      where
        went : WentOn m old (HaveStandings m (said old.list) old.store stop.tables) old.store after fault
        went = then_stops (HaveStandings m (said old.list) stop.ready stop.tables)
            (HaveStandings m (said old.list) old.store stop.tables) old.store stop.ready after fault
            (read_on m old.store stop.ready stop.finds.keeps (stop.finds.keeps.offline ∙ up))
            (λ have o h numbers tables it. read_behind one one_way on_tips lists keep_plain covered erased begins m last
            reads_last holds old o h numbers tables old.store stop.ready it stop.finds.keeps)
            (λ have o h numbers tables it first. standings_on on_tips m old o h numbers tables old.store stop.ready it
            first stop.tables have)
            (tables_stop stop.ready after old.catalog.pointer.0 stop.tables fault (stop.finds.keeps.offline ∙ up)
            stop.stops)

    -- ---- what comes of it

    module _ {P : Type 0} (places : Places P) (new : Core D) (refusal : Option Refusal) (damage shortages : ℕ)
        (so : (u : ℕ) → StaysSo m places old (record old {
          store = new.store;
          damage = damage;
          shortages = shortages;
        }) u) (damaged : old.damage ≤ damage) (short : old.shortages ≤ shortages)
        (may : MayAnswer m places old (record old {
          store = new.store;
          damage = damage;
          shortages = shortages;
        }) refusal) where
      abbrev then_ : Core D
      then_ = record old { store = new.store; damage = damage; shortages = shortages }

      reads : Reads (means m places) old (record old {
        store = new.store;
        damage = damage;
        shortages = shortages;
      }) refusal None
      reads = record {
        stays = λ o h stands. (so 0).stands o h stands;
        keeps = keeps_of m places old then_ refusal (so 0).goes damaged short may;
        tables = tables_of m places old then_ None (λ u name not_. refl);
        walks_stay = λ u its after rows not_ comes. (so (u + 1)).walks u its after rows
            (is_apart u (u + 1) (λ same. absurd (omega (arith, same)))) comes;
        commits = commits_of m places old then_ None (λ u not_. refl) (λ u not_. refl)
            (λ u page not_ was none. (so 0).unmarked page (sessions_in old.works u) none);
      }

    goes : {P : Type 0} (places : Places P) (new : Core D) (done : Unit {0}) → CollectsAll m old new
        → IsNobodysEvent {T = Unit {0}} m places old new (Ok done)
    goes places new done is = subst (λ (c : Core D). IsNobodysEvent {T = Unit {0}} m places old c (Ok done)) (sym is.same)
        (record {
          outside = tt;
          reads = reads places new None old.damage old.shortages (collected_so places new.store is.collected)
              (omega arith) (omega arith)
              (record { cause = tt; offline = rw up tt; down = (committed_on new.store is.collected).online ∙ sym up });
          crash = (collected_so places new.store is.collected 0).quiet;
          sessions = sessions_of m places old (record old { store = new.store }) 0 (works_same old.works 0);
        })

    module _ {P : Type 0} (places : Places P) (counted : HasCounts old) (new : Core D) (refusal : Refusal)
        (is : FailsAll m old new refusal) where
      abbrev stopped : Core D
      stopped = record old { store = new.store; damage = new.damage; shortages = new.shortages }

      from : StoppedSo places new.store is.fault
      from = stopped_so places new.store is.fault is.fails

      stopped_stays : (u : ℕ) → StaysSo m places old (record old {
        store = new.store;
        damage = new.damage;
        shortages = new.shortages;
      }) u
      stopped_stays u = by from.stops.left from.stops.told
        where
          by : KeepsStore m from.now new.store ⊎ FailsReady m from.now new.store is.fault
              → TellsOf m from.now new.store is.fault → StaysSo m places old stopped u
          by (inl keeps) told = so_then m places old (record old { store = from.now }) stopped u (from.so u)
              (reads_so m places begins reads_last (record old { store = from.now }) new.store new.damage
              new.shortages u keeps)
          by (inr fails_) told = so_then m places old (record old {
            store = fails_.ready;
            damage = new.damage;
            shortages = new.shortages;
          }) stopped u
              (so_then m places old (record old { store = from.now }) (record old {
                store = fails_.ready;
                damage = new.damage;
                shortages = new.shortages;
              }) u (from.so u) (reads_so m places begins reads_last (record old { store = from.now }) fails_.ready
              new.damage new.shortages u fails_.keeps))
              (fails_so m places failing (record old {
                store = fails_.ready;
                damage = new.damage;
                shortages = new.shortages;
              }) new.store fails_.count u (fails_.keeps.offline ∙ from.up_now)
              (subst (TellsOf m from.now new.store) fails_.is told).0 fails_.fails)

      grown : (old.damage ≤ new.damage) × (old.shortages ≤ new.shortages)
      grown = risen is.fault old.damage new.damage old.shortages new.shortages few.0 few.1 is.counts
        where
          few : (old.damage ≤ 2 ^ 64 - 1) × (old.shortages ≤ 2 ^ 64 - 1)
          few = let d = counted.damage in let k = counted.shortages in (omega (arith, d), omega (arith, k))

      may : MayAnswer m places old (record old {
        store = new.store;
        damage = new.damage;
        shortages = new.shortages;
      }) (Some refusal)
      may = fault_may m places old stopped from.now is.fault refusal up from.up_now
          ((from.so 0).goes.time.never_falls, (from.so 0).goes.time.failed_writes) is.is
          (subst (λ (g : Geometry). NamesLimit g.limit refusal)
          (left_geometry m from.now new.store is.fault from.stops.left ∙ (from.so 0).goes.geometry) is.names)
          from.stops.told is.counts

      fails : IsNobodysEvent {T = Unit {0}} m places old new (Err refusal)
      fails = subst (λ (c : Core D). IsNobodysEvent {T = Unit {0}} m places old c (Err refusal)) (sym is.same) (record {
        outside = fault_outer is.fault refusal is.is;
        reads = reads places new (Some refusal) new.damage new.shortages stopped_stays grown.0 grown.1 may;
        crash = (stopped_stays 0).quiet;
        sessions = sessions_of m places old stopped 0 (works_same old.works 0);
      })

-- ---- the law

-- nothing has changed
nothing_done : {D P : Type 0} (m : Meaning D) (places : Places P) (old : Core D) (refusal : Refusal)
    → is_outer (No refusal) ≡ true → MayAnswer m places old old (Some refusal)
    → IsNobodysEvent {T = Unit {0}} m places old old (Err refusal)
nothing_done m places old refusal outer may = record {
  outside = outer;
  reads = still_reads m places old (Some refusal) may;
  crash = still_quiet m places old;
  sessions = still_sessions m places old;
}

-- a call is refused only because a page write has failed, or for want of memory
refused_so : {D P : Type 0} (m : Meaning D) (places : Places P) (old : Core D) (refusal : Refusal)
    → RefusesAll old refusal → IsNobodysEvent {T = Unit {0}} m places old old (Err refusal)
refused_so m places old (Offline count) refuses = nothing_done m places old (Offline count) refl
    (record { cause = refuses; offline = rw refuses refl; down = refl })
refused_so m places old Memory refuses = nothing_done m places old Memory refl
    (record { cause = tt; offline = rw refuses tt; down = refl })
refused_so m places old refusal refuses = absurd refuses

pub every_is_nobodys : RowsAreOne packed_coding → StandsOneWay packed_form → TipsStayOn → ListsStay → WritesKeepPlain
    → CoveredMayGo → ErasedMayGo → OpeningsBegin → RowsOfReadings → (D P : Type 0) (m : Meaning D)
    → RowsLastStill D FireLinks m packed_form → ReadsLast D FireLinks m packed_form → HoldsOne D m
    → PageWritesFail D FireLinks m packed_form → EveryIsNobodys D P m
every_is_nobodys one one_way on_tips lists keep_plain covered erased begins rows_law D P m last reads_last holds failing
    places old new (Ok done) core counted is = goes one one_way on_tips lists keep_plain covered erased begins rows_law m
    last reads_last holds failing old core is.up places new done is
every_is_nobodys one one_way on_tips lists keep_plain covered erased begins rows_law D P m last reads_last holds failing
    places old new (Err refusal) core counted (inl (refuses, same)) =
    subst (λ (c : Core D). IsNobodysEvent {T = Unit {0}} m places old c (Err refusal)) (sym same)
    (refused_so m places old refusal refuses)
every_is_nobodys one one_way on_tips lists keep_plain covered erased begins rows_law D P m last reads_last holds failing
    places old new (Err refusal) core counted (inr is) = fails one one_way on_tips lists keep_plain covered erased begins
    rows_law m last reads_last holds failing old core is.up places counted new refusal is
