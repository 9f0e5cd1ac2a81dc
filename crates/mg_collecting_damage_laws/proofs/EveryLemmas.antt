-- Every record of the committed tables is collected without damage, by an engine that stands for a history.
use Rattle.std.proofs.Common.{◌≡◌, ◌≢◌, ◌∙◌, ◌<◌, inl, inr, refl, sym, ap, subst, arith, ℕ, Bool, List, [], None, Some, Ok, Err}
use Rattle.mg_base.specs.Disk.{Meaning}
use Rattle.mg_base.specs.declared.damage.Damaged.{Damaged}
use Rattle.mg_base.specs.declared.geometry.Geometry.{Geometry}
use Rattle.mg_base.specs.declared.geometry.TheConstants.{GREATEST_LIMIT}
use Rattle.mg_base.specs.declared.numbers.PageNo.{PageNo}
use Rattle.mg_base.specs.declared.numbers.RecId.{RecId}
use Rattle.mg_collecting.specs.Steps.{FailsStep}
use Rattle.mg_core.specs.Cores.{IsCore}
use Rattle.mg_core.specs.declared.parts.Core.{Core}
use Rattle.mg_core_collecting.specs.Places.{RefusesLook}
use Rattle.mg_core_collecting.specs.Every.{CollectsTable, FailsCommitted, FailsListed, FailsTable, IsStray, RefusesAll, StopsAt, StopsInTable, StopsInTables, CollectsOne, is_stray, stops_in, system_base, the_system, uncollected, unlisted, unlooked}
use Rattle.mg_engine_collecting_laws.specs.Committed.{each_lawful}
use Rattle.mg_engine_collecting_laws.specs.EverySo.{among_done, among_next, committed_past, found_stand, one_done, one_next, shown_of, system_said}
use Rattle.mg_engine_collecting_laws.specs.EveryStays.{AreOf, HasShown, HasStanding, HaveStandings, IsBehind, IsPageAt, each_behind, other_name, page_on, part_behind, read_behind, ready_of, standings_on, tables_behind}
use Rattle.mg_engine_meaning_laws.specs.KeepLaws.{catalog_shown}
use Rattle.mg_engine_meaning_laws.specs.Standings.{Numbers, ShowsIt, StandsFor, Tables, standing_of}
use Rattle.mg_engine_meaning_laws.specs.StepLaws.{shows_of}
use Rattle.mg_heap.specs.Reading.{ReadsData}
use Rattle.mg_heap.specs.Walk.{RefusesWalk}
use Rattle.mg_image.specs.Form.{Pages, packed_form}
use Rattle.mg_image.specs.Sound.{HasTablePages, IsTablePointer, facts_by}
use Rattle.mg_image.specs.Tables.{EachFrom, LinkChain, ended, goes, stands_of, table_at}
use Rattle.mg_image_overlay_laws.specs.kept.Knowing.{its_pages}
use Rattle.mg_image_overlay_laws.specs.tables.Growing.{IsTableOf}
use Rattle.mg_image_overlay_laws.specs.tables.OneTable.{stands_in}
use Rattle.mg_image_overlay_laws.specs.tables.TableOwners.{IsOneOf}
use Rattle.mg_model.specs.Catalog.{catalog_name}
use Rattle.mg_model.specs.History.{Entries}
use Rattle.mg_model.specs.Openings.{everyone}
use Rattle.mg_model.specs.declared.opening.Opening.{Opening}
use Rattle.mg_model.specs.declared.refusal.Refusal.{Refusal}
use Rattle.mg_model.specs.declared.refusal.Refusal.TheVariants.{DatabaseFull}
use Rattle.mg_model.specs.declared.table.Table.{Table}
use Rattle.mg_no_damage_laws.specs.CoreSpendingLaws.{told_full}
use Rattle.mg_no_damage_laws.specs.Sees.{StandsOn, no_batch}
use Rattle.mg_no_damage_laws.specs.ShownLaws.{catalog_there, sees_on, shown_table}
use Rattle.mg_no_damage_laws.specs.CoreReads.{ShowsTable}
use Rattle.mg_no_damage_laws.specs.Tables.{TablesAreRead}
use Rattle.mg_overlay_laws.specs.Overlays.{left_state}
use Rattle.mg_pointer.specs.PointerPage.{next_in}
use Rattle.mg_pool.specs.Dirty.{DirtyPages}
use Rattle.mg_pool.specs.Pool.{shown}
use Rattle.mg_pool.specs.declared.fault.PoolFault.TheVariants as pool_faults
use Rattle.mg_pool.specs.declared.pool.Pool.{Pool}
use Rattle.mg_seek.specs.Readings.{RowsOfReadings}
use Rattle.mg_seek.specs.Speaking.{IsTableDamage}
use Rattle.mg_seek.specs.TableRecords.{IsAmong}
use Rattle.mg_seek.specs.TableRows.{AreRowsSeen, RefusesTable}
use Rattle.mg_seek.specs.Versions.{wants}
use Rattle.mg_seek.specs.declared.whose.Wanted.TheVariants.{SeenBy}
use Rattle.mg_space.specs.View.{KeepsStore, Tells}
use Rattle.mg_space.specs.declared.fault.SpaceFault.{SpaceFault}
use Rattle.mg_space.specs.declared.fault.SpaceFault.TheVariants as faults
use Rattle.mg_space.specs.declared.links.FireLinks.{FireLinks}
use Rattle.mg_txlist.specs.TxList.{next_said, said}
use Rattle.mg_collecting_damage_laws.specs.Undamaged.{EveryMeetsNone, EveryMissesNone}
use Rattle.mg_collecting_damage_laws.proofs.DropLemmas.{lawful_now, shown_now}
use Rattle.mg_collecting_damage_laws.proofs.PlaceLemmas.{PlaceParts, looked, not_counted, step_full, step_made, step_there}

-- ---- faults

-- a fault tells neither damage nor want of pages, and no page that is absent where it was to be read
abbrev IsQuiet : SpaceFault → Type 0
IsQuiet (faults.Full limit) = ⊥
IsQuiet (faults.Damaged it) = ⊥
IsQuiet (faults.Pool (pool_faults.DiskRead n)) = Unit {0}
IsQuiet (faults.Pool (pool_faults.DiskWrite n)) = Unit {0}
IsQuiet (faults.Pool (pool_faults.Offline n)) = Unit {0}
IsQuiet (faults.Pool (pool_faults.Absent n)) = ⊥
IsQuiet (faults.Pool pool_faults.Memory) = Unit {0}

-- a reading is refused so where it meets no damage
read_quiet : (fault : SpaceFault) → ReadsData {T = Unit {0}} (Err fault)
    → ((it : Damaged) → fault ≡ faults.Damaged it → ⊥) → IsQuiet fault
read_quiet (faults.Full limit) own none = absurd own
read_quiet (faults.Damaged it) own none = absurd (none it refl)
read_quiet (faults.Pool (pool_faults.DiskRead n)) own none = tt
read_quiet (faults.Pool (pool_faults.DiskWrite n)) own none = tt
read_quiet (faults.Pool (pool_faults.Offline n)) own none = tt
read_quiet (faults.Pool (pool_faults.Absent n)) own none = absurd own
read_quiet (faults.Pool pool_faults.Memory) own none = tt

-- the first pointer page of a table is one that a database may have
first_below : (size : ℕ) (pages : Pages) (owner at first : ℕ) (ns : List ℕ)
    → LinkChain (λ n. next_in (pages n)) first ns → first ≢ 0
    → EachFrom (IsTablePointer size pages owner) at ns → first < GREATEST_LIMIT
first_below size pages owner at _ _ ended some each = absurd (some refl)
first_below size pages owner at _ _ (goes n ns not_ rest) some each = each.0.below

module _ {D : Type 0} (m : Meaning D) (laws : PlaceParts m) (rows_law : RowsOfReadings) (read : TablesAreRead m)
    (old : Core D) (o : Opening) (h : Entries) (numbers : Numbers) (tables : Tables) where
  abbrev Shown : Pool D FireLinks → Type 0
  Shown store = HasShown m old o h numbers tables store

  -- ---- one record

  step_quiet : (a b : Pool D FireLinks) (it : HasShown m old o h numbers tables a) (rec : RecId) (table : Table)
      → table_at (stands_of it.stands.shows.layout) rec.page.0 ≡ Some table → (fault : SpaceFault)
      → FailsStep m rec a b fault → IsQuiet fault
  step_quiet a b it rec table of (faults.Full limit) fails =
      absurd (step_full m rec a b it.image limit it.tells fails)
  step_quiet a b it rec table of (faults.Damaged d) fails =
      absurd (step_made m laws it.image (left_state everyone (said old.list)) it.stands.shows.layout
      it.stands.shows.reading a it.tells it.geometry it.stands.shows.sound rec table of b d fails)
  step_quiet a b it rec table of (faults.Pool (pool_faults.DiskRead n)) fails = tt
  step_quiet a b it rec table of (faults.Pool (pool_faults.DiskWrite n)) fails = tt
  step_quiet a b it rec table of (faults.Pool (pool_faults.Offline n)) fails = tt
  step_quiet a b it rec table of (faults.Pool (pool_faults.Absent n)) fails = absurd (step_there m rec a b n fails)
  step_quiet a b it rec table of (faults.Pool pool_faults.Memory) fails = tt

  -- a page is its table's in what is shown
  page_in : (a : Pool D FireLinks) (it : HasShown m old o h numbers tables a) (n : ℕ) (table : Table)
      → IsPageAt m (said old.list) a n table → table_at (stands_of it.stands.shows.layout) n ≡ Some table
  page_in a it n table its =
      its it.image it.tells it.stands.shows.layout it.stands.shows.reading it.stands.shows.sound

  listed_quiet : (a b : Pool D FireLinks) (it : HasShown m old o h numbers tables a) (rec : RecId) (table : Table)
      → table.name ≢ catalog_name → IsPageAt m (said old.list) a rec.page.0 table → (fault : SpaceFault)
      → FailsListed m (said old.list) old.live rec a b fault → IsQuiet fault
  listed_quiet a b it rec table other page fault (unlooked fails) = read_quiet fault fails.own
      (λ d is. looked m laws it.image (left_state everyone (said old.list)) it.stands.shows.layout
      it.stands.shows.reading a it.tells it.geometry it.stands.shows.sound rec table
      (page_in a it rec.page.0 table page) b fails.keeps d
      (subst (λ (f : SpaceFault). RefusesLook m b (shown a.dirty it.image) rec f) is (fails.why it.image it.tells)))
  listed_quiet a b it rec table other page fault (uncollected ready keeps online settled fails) =
      step_quiet fails.now b behind.shown_then rec table
      (page_in fails.now behind.shown_then rec.page.0 table
      (page_on laws.on m old o h numbers tables a fails.now it behind rec.page.0 table page)) fault fails.fails
    where
      behind : IsBehind m old o h numbers tables a (shown a.dirty it.image) fails.now
      behind = part_behind laws.one laws.one_way laws.on laws.lists laws.keep_plain laws.covered laws.erased laws.begins
          m laws.last laws.reads_last laws.holds old o h numbers tables a ready fails.now it rec table other page keeps
          settled fails.some fails.steps

  -- ---- the records of a table

  each_quiet : (a b : Pool D FireLinks) (it : HasShown m old o h numbers tables a) (records : List RecId)
      (table : Table) → table.name ≢ catalog_name → AreOf m (said old.list) a table records → (fault : SpaceFault)
      → StopsAt (CollectsOne m (said old.list) old.live) (FailsListed m (said old.list) old.live) a records b fault
      → IsQuiet fault
  each_quiet a b it records table other of fault stop = listed_quiet stop.mid b first.shown_then stop.next table other
      (page_on laws.on m old o h numbers tables a stop.mid it first stop.next.page.0 table
      (of stop.next (subst (λ (rs : List RecId). IsAmong rs stop.next) (sym stop.parts)
      (among_next stop.done stop.later stop.next)))) fault stop.stops
    where
      first : IsBehind m old o h numbers tables a (shown a.dirty it.image) stop.mid
      first = each_behind laws.one laws.one_way laws.on laws.lists laws.keep_plain laws.covered laws.erased laws.begins m
          laws.last laws.reads_last laws.holds old o h numbers tables a it table other stop.done stop.mid stop.goes
          (λ rec among. of rec (subst (λ (rs : List RecId). IsAmong rs rec) (sym stop.parts)
          (among_done stop.done stop.later stop.next rec among)))

  module _ (a : Pool D FireLinks) (it : HasShown m old o h numbers tables a) (table : Table)
      (standing : HasStanding m (said old.list) a table) where
    its : IsTableOf it.stands.shows.layout standing.its
    its = stands_in it.stands.shows.layout standing.its (inr (standing.stands it.image it.tells
        it.stands.shows.layout it.stands.shows.reading it.stands.shows.sound))

    -- it begins at a page that a database may have
    begins_below : table.pointer.0 < GREATEST_LIMIT
    begins_below = subst (λ (n : PageNo). n.0 < GREATEST_LIMIT)
        (ap (λ (x : Table). x.pointer) its.table_is ∙ standing.same)
        (first_below a.geometry.size (shown a.dirty it.image) its.stand.table.pointer.0 0 its.stand.table.pointer.0
        its.stand.pointers has.chain has.first has.pointers)
      where
        has : HasTablePages packed_form.in_primary a.geometry.size (shown a.dirty it.image) its.stand
        has = its_pages packed_form a.geometry.size (left_state everyone (said old.list)) (shown a.dirty it.image)
            it.stands.shows.layout it.stands.shows.reading it.stands.shows.sound standing.its its

    stray_quiet : (catalog : ℕ) (fault : SpaceFault) → IsStray catalog table.pointer.0 fault → IsQuiet fault
    stray_quiet catalog (faults.Full limit) stray = absurd stray
    stray_quiet catalog (faults.Damaged d) stray =
        let below = begins_below in let above = stray.0 in absurd (omega (arith, below, above))
    stray_quiet catalog (faults.Pool fault) stray = absurd stray

    -- its pages are listed
    list_whole : (b : Pool D FireLinks) → KeepsStore m a b → (d : Damaged)
        → RefusesWalk m b [] (shown a.dirty it.image) table.pointer.0 (faults.Damaged d) → ⊥
    list_whole b keeps d refused = laws.whole b it.image no_batch (facts_by (left_state everyone (said old.list))
        (shown b.dirty it.image) it.stands.shows.layout) it.stands.shows.reading its.stand standing.its (record {
          sees = lawful_now m a b it.image keeps laws.records it.tells (left_state everyone (said old.list))
              it.stands.shows.layout it.stands.shows.reading it.stands.shows.sound;
          stands = shown_now m a b it.image keeps
              (λ ps. StandsOn b.geometry.size ps (facts_by (left_state everyone (said old.list)) ps
              it.stands.shows.layout) its.stand standing.its)
              (subst (λ (g : Geometry). StandsOn g.size (shown a.dirty it.image)
              (facts_by (left_state everyone (said old.list)) (shown a.dirty it.image) it.stands.shows.layout) its.stand
              standing.its) (sym keeps.geometry) (laws.tables_stand a.geometry.size
              (left_state everyone (said old.list)) (shown a.dirty it.image) it.stands.shows.layout
              it.stands.shows.reading it.stands.shows.sound standing.its standing.its its
              (record { name = refl; shape = refl; pointer = refl })));
        }) d (shown_now m a b it.image keeps
        (λ ps. RefusesWalk m b [] ps standing.its.pointer.0 (faults.Damaged d))
        (subst (λ (n : PageNo). RefusesWalk m b [] (shown a.dirty it.image) n.0 (faults.Damaged d))
        (sym standing.same) refused))

    in_quiet : (b : Pool D FireLinks) (fault : SpaceFault)
        → StopsInTable m (said old.list) old.live table a b fault → IsQuiet fault
    in_quiet b fault stop = each_quiet stop.ready b first.shown_then stop.records standing.its
        (other_name laws.on m old o h numbers tables a it standing.its standing.stands)
        (ready_of laws.one laws.one_way laws.on laws.lists laws.keep_plain laws.covered laws.erased laws.begins m laws.last
        laws.reads_last laws.holds old o h numbers tables a stop.ready it table standing stop.keeps stop.records stop.are)
        fault stop.stops
      where
        first : IsBehind m old o h numbers tables a (shown a.dirty it.image) stop.ready
        first = read_behind laws.one laws.one_way laws.on laws.lists laws.keep_plain laws.covered laws.erased laws.begins
            m laws.last laws.reads_last laws.holds old o h numbers tables a stop.ready it stop.keeps

    table_quiet : (b : Pool D FireLinks) (catalog : ℕ) (fault : SpaceFault)
        → FailsTable m (said old.list) old.live catalog table a b fault → IsQuiet fault
    table_quiet b catalog fault (is_stray stray keeps same) = stray_quiet catalog fault stray
    table_quiet b catalog fault (unlisted fails) = read_quiet fault fails.own
        (λ d is. list_whole b fails.keeps d (subst (λ (f : SpaceFault). RefusesWalk m b [] (shown a.dirty it.image)
        table.pointer.0 f) is (fails.why it.image it.tells)))
    table_quiet b catalog fault (stops_in stop) = in_quiet b fault stop

  tables_quiet : (a b : Pool D FireLinks) (it : HasShown m old o h numbers tables a) (catalog : ℕ) (all : List Table)
      → HaveStandings m (said old.list) a all → (fault : SpaceFault)
      → StopsAt (CollectsTable m (said old.list) old.live) (FailsTable m (said old.list) old.live catalog) a all b fault
      → IsQuiet fault
  tables_quiet a b it catalog all have fault stop = table_quiet stop.mid first.shown_then stop.next
      (standings_on laws.on m old o h numbers tables a stop.mid it first all have stop.next
      (subst (λ (ts : List Table). IsOneOf ts stop.next) (sym stop.parts)
      (one_next stop.done stop.later stop.next))) b catalog fault stop.stops
    where
      first : IsBehind m old o h numbers tables a (shown a.dirty it.image) stop.mid
      first = tables_behind laws.one laws.one_way laws.on laws.lists laws.keep_plain laws.covered laws.erased laws.begins
          m laws.last laws.reads_last laws.holds old o h numbers tables a it stop.done stop.mid stop.goes
          (λ table among. have table (subst (λ (ts : List Table). IsOneOf ts table) (sym stop.parts)
          (one_done stop.done stop.later stop.next table among)))

-- ---- all tables

module _ {D : Type 0} (m : Meaning D) (laws : PlaceParts m) (rows_law : RowsOfReadings) (read : TablesAreRead m)
    (old : Core D) (core : IsCore m old) (up : old.store.offline ≡ None) (o : Opening) (h : Entries)
    (stands : StandsFor m old o h) where
  abbrev shows : ShowsIt m old o h (standing_of old stands.numbers stands.tables)
  shows = shows_of m old o h stands up

  abbrev catalog_table : Table
  catalog_table = (shows_of m old o h stands up).stands.shows.layout.catalog.table

  tells : Tells m old.store.disk (shows_of m old o h stands up).image
  tells = record { told = stands.tells; held = (shows_of m old o h stands up).held }

  catalog_is : old.catalog ≡ (shows_of m old o h stands up).stands.shows.layout.catalog.table
  catalog_is = catalog_shown m old o h (standing_of old stands.numbers stands.tables) core shows

  -- the records of the catalog are read
  catalog_read : (store : Pool D FireLinks) → KeepsStore m old.store store → (takes : ℕ → Bool) (it : Damaged)
      → IsTableDamage m store [] (shown old.store.dirty (shows_of m old o h stands up).image) takes old.catalog it → ⊥
  catalog_read store keeps takes it damage = read store shows.image no_batch there.facts there.reading there.stand
      old.catalog (sees_on m old.store store shows.image keeps there.facts there.reading there.stand old.catalog
      there.sees) takes it (subst (λ (d : DirtyPages). IsTableDamage m store [] (shown d shows.image) takes
      old.catalog it) (sym keeps.dirty) damage)
    where
      there : ShowsTable m old shows.image old.catalog
      there = shown_table laws.records laws.tables_stand m old o h (standing_of old stands.numbers stands.tables) shows
          stands.tells old.catalog (catalog_there laws.records laws.tables_stand m old o h
          (standing_of old stands.numbers stands.tables) shows stands.tells core)

  -- and its committed rows are lawful
  unnamed_none : (store : Pool D FireLinks) → KeepsStore m old.store store → (it : Damaged)
      → RefusesTable m store [] (said old.list) (system_base (next_said old.list)) the_system
      (shown old.store.dirty (shows_of m old o h stands up).image) old.catalog (faults.Damaged it) → ⊥
  unnamed_none store keeps it (inl damage) = catalog_read store keeps
      (wants (said old.list) (system_base (next_said old.list)) (SeenBy the_system)) it damage
  unnamed_none store keeps it (inr damage) = damage.refused.1.1 (each_lawful rows_law old.store.geometry.size
      (said old.list) (shown old.store.dirty shows.image) shows.stands.shows.layout shows.stands.shows.reading
      shows.stands.shows.sound (next_said old.list) (system_said old.list)
      (committed_past m old up o h stands laws.begins) damage.rows
      (subst (λ (c : Table). AreRowsSeen (said old.list) (system_base (next_said old.list)) the_system
      (shown old.store.dirty shows.image) c damage.rows) catalog_is damage.seen) damage.refused.0 damage.refused.1.0)

  stop_quiet : (after : Pool D FireLinks) (fault : SpaceFault) → StopsInTables m old.store after (said old.list) old.live
      (system_base (next_said old.list)) old.catalog fault → IsQuiet fault
  stop_quiet after fault stop = tables_quiet m laws rows_law read old o h stands.numbers stands.tables stop.ready after
      first.shown_then old.catalog.pointer.0 stop.tables
      (standings_on laws.on m old o h stands.numbers stands.tables old.store stop.ready it first stop.tables
      (found_stand m old up o h stands laws.one_way laws.begins rows_law core stop.tables stop.finds.named)) fault stop.stops
    where
      it : HasShown m old o h stands.numbers stands.tables old.store
      it = shown_of m old up o h stands core

      first : IsBehind m old o h stands.numbers stands.tables old.store
          (shown old.store.dirty (shown_of m old up o h stands core).image) stop.ready
      first = read_behind laws.one laws.one_way laws.on laws.lists laws.keep_plain laws.covered laws.erased laws.begins m
          laws.last laws.reads_last laws.holds old o h stands.numbers stands.tables old.store stop.ready it
          stop.finds.keeps

  committed_quiet : (after : Pool D FireLinks) (fault : SpaceFault) → FailsCommitted m old.store after (said old.list)
      old.live (system_base (next_said old.list)) old.catalog fault → IsQuiet fault
  committed_quiet after fault (inl fails) = read_quiet fault fails.own
      (λ d is. unnamed_none after fails.keeps d (subst (λ (f : SpaceFault). RefusesTable m after [] (said old.list)
      (system_base (next_said old.list)) the_system (shown old.store.dirty shows.image) old.catalog f) is
      (fails.why shows.image tells)))
  committed_quiet after fault (inr stop) = stop_quiet after fault stop

-- ---- the laws

never_damaged : (fault : SpaceFault) → IsQuiet fault → (it : Damaged) → fault ≢ faults.Damaged it
never_damaged fault quiet it is = subst IsQuiet is quiet

never_absent : (fault : SpaceFault) → IsQuiet fault → (n : ℕ) → fault ≢ faults.Pool (pool_faults.Absent n)
never_absent fault quiet n is = subst IsQuiet is quiet

pub every_meets_none : (D : Type 0) (m : Meaning D) → PlaceParts m → RowsOfReadings → TablesAreRead m
    → EveryMeetsNone D m
every_meets_none D m laws rows_law read old new (Ok done) core is o h stands _ = ap (λ (c : Core D). c.damage) is.same
every_meets_none D m laws rows_law read old new (Err refusal) core (inl (refuses, same)) o h stands _ =
    ap (λ (c : Core D). c.damage) same
every_meets_none D m laws rows_law read old new (Err refusal) core (inr is) o h stands _ =
    let quiet : IsQuiet is.fault = committed_quiet m laws rows_law read old core is.up o h stands new.store is.fault
    is.fails in
    not_counted is.fault old.damage new.damage old.shortages new.shortages (never_damaged is.fault quiet)
    (never_absent is.fault quiet) is.counts

never_full : {D : Type 0} (old : Core D) (limit : ℕ) (refusal : Refusal) → refusal ≡ DatabaseFull limit
    → RefusesAll old refusal → ⊥
never_full old limit refusal is refuses = subst (RefusesAll old) is refuses

named_full : (refusal : Refusal) (limit : ℕ) → Some refusal ≡ Some (DatabaseFull limit) → refusal ≡ DatabaseFull limit
named_full refusal limit same = cc

pub every_misses_none : (D : Type 0) (m : Meaning D) → PlaceParts m → RowsOfReadings → TablesAreRead m
    → EveryMissesNone D m
every_misses_none D m laws rows_law read old new (Ok done) core is o h stands limit full = absurd cc
every_misses_none D m laws rows_law read old new (Err refusal) core (inl (refuses, same)) o h stands limit full =
    never_full old limit refusal (named_full refusal limit full) refuses
every_misses_none D m laws rows_law read old new (Err refusal) core (inr is) o h stands limit full =
    let told = told_full is.fault refusal limit is.is (named_full refusal limit full) in
    subst IsQuiet told.1 (committed_quiet m laws rows_law read old core is.up o h stands new.store is.fault is.fails)
