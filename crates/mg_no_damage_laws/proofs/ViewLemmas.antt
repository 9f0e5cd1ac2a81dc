-- An engine that stands for a history finds its tables without meeting damage.
use Rattle.std.proofs.Common.{◌≡◌, ◌≢◌, ◌<◌, ◌≤◌, ◌∙◌, inl, inr, ℕ, Bool, List, [], Some, Result, Ok, Err, refl, sym, ap, subst}
use Rattle.mg_base.specs.Disk.{Meaning}
use Rattle.mg_base.specs.declared.damage.Damaged.{Damaged}
use Rattle.mg_base.specs.declared.geometry.TheConstants.{GREATEST_LIMIT}
use Rattle.mg_base.specs.declared.numbers.PageNo.{PageNo}
use Rattle.mg_base.specs.declared.numbers.TxNo.{TxNo}
use Rattle.mg_base.specs.declared.transaction.TxState.TheVariants.{Active}
use Rattle.mg_pointer.specs.PointerPage.{next_in}
use Rattle.mg_value.specs.declared.shape.TheConstants.{MOST_COLUMNS}
use Rattle.mg_model.specs.declared.opening.Opening.{Opening}
use Rattle.mg_model.specs.declared.refusal.Refusal.{Refusal}
use Rattle.mg_model.specs.declared.table.Table.{Table}
use Rattle.mg_model.specs.CatalogRules.{IsTable}
use Rattle.mg_model.specs.History.{Entries}
use Rattle.mg_model.specs.Laws.{OpeningsBegin}
use Rattle.mg_model.specs.Machine.{state_of}
use Rattle.mg_model.specs.Openings.{everyone}
use Rattle.mg_catalog.specs.ByKey.{by_key}
use Rattle.mg_catalog.specs.FirstBad.{IsFirstBad}
use Rattle.mg_catalog.specs.LawfulLaws.{table_lawful}
use Rattle.mg_catalog.specs.TableLaws.{columns_count}
use Rattle.mg_catalog.specs.declared.fault.CatFault.TheVariants.{BadTable}
use Rattle.mg_image.specs.Form.{Pages, Row, packed_form}
use Rattle.mg_image.specs.Sound.{HasTablePages, IsTablePointer}
use Rattle.mg_image.specs.Tables.{EachFrom, Layout, LinkChain, ended, goes}
use Rattle.mg_overlay_laws.specs.Overlays.{left_state}
use Rattle.mg_pool.specs.Dirty.{DirtyPages}
use Rattle.mg_pool.specs.Pool.{shown}
use Rattle.mg_pool.specs.declared.fault.PoolFault.TheVariants as faults
use Rattle.mg_pool.specs.declared.pool.Pool.{Pool}
use Rattle.mg_seek.specs.Speaking.{IsTableDamage}
use Rattle.mg_seek.specs.TableRows.{AreRowsSeen, IsTableSeen, RefusesTable}
use Rattle.mg_seek.specs.Versions.{wants}
use Rattle.mg_seek.specs.declared.whose.Wanted.TheVariants.{SeenBy}
use Rattle.mg_space.specs.View.{KeepsStore, Tells}
use Rattle.mg_space.specs.declared.fault.SpaceFault.{SpaceFault}
use Rattle.mg_space.specs.declared.fault.SpaceFault.TheVariants as space
use Rattle.mg_space.specs.declared.links.FireLinks.{FireLinks}
use Rattle.mg_heap.specs.Reading.{ReadsData}
use Rattle.mg_image_overlay_laws.specs.kept.Knowing.{its_pages}
use Rattle.mg_txlist.specs.TxList.{said}
use Rattle.mg_works.specs.Works.{MayBeGiven}
use Rattle.mg_core.specs.declared.parts.Core.{Core}
use Rattle.mg_core.specs.Cores.{Continues, IsCore}
use Rattle.mg_core.specs.Refusing.{CountsFault}
use Rattle.mg_core.specs.Tables.{AnswersTable, RefusesName, SeesTable, WhyNoTable, by_call, by_fault, by_lack, by_memory}
use Rattle.mg_no_damage_laws.specs.Sees.{no_batch}
use Rattle.mg_no_damage_laws.specs.Sound.{SoundRecordsAreLawful, SoundTablesStand}
use Rattle.mg_no_damage_laws.specs.Tables.{TablesAreRead}
use Rattle.mg_no_damage_laws.specs.CoreReads.{ShowsTable}
use Rattle.mg_engine_step_laws.specs.standing.Standing.{Standing}
use Rattle.mg_engine_step_laws.specs.standing.Known.{IsShown, KnowsPages, seen_is_shown}
use Rattle.mg_engine_step_laws.specs.tables.Found.{FoundTablesStand}
use Rattle.mg_engine_step_laws.specs.tables.Lawful.{SeenRowsAreLawful}
use Rattle.mg_engine_step_laws.specs.tables.SeenRows.{named_is}
use Rattle.mg_engine_meaning_laws.specs.Standings.{ShowsIt, StandsFor, standing_of}
use Rattle.mg_engine_meaning_laws.specs.StepLaws.{shows_of}
use Rattle.mg_engine_meaning_laws.specs.KeepLaws.{catalog_shown}
use Rattle.mg_no_damage_laws.specs.Views.{TablesMeetNone}
use Rattle.mg_no_damage_laws.specs.ShownLaws.{catalog_there, sees_on, shown_table}

-- the first pointer page of a table is one that a database may have
first_below : (size : ℕ) (pages : Pages) (owner at first : ℕ) (ns : List ℕ)
    → LinkChain (λ n. next_in (pages n)) first ns → first ≢ 0
    → EachFrom (IsTablePointer size pages owner) at ns → first < GREATEST_LIMIT
first_below size pages owner at _ _ ended some each = absurd (some refl)
first_below size pages owner at _ _ (goes n ns not_ rest) some each = each.0.below

module _ {D : Type 0} (m : Meaning D) (records : SoundRecordsAreLawful) (stand : SoundTablesStand)
    (read : TablesAreRead m) (begin : OpeningsBegin) (found : FoundTablesStand) (lawful : SeenRowsAreLawful)
    (old : Core D) (t : TxNo) (core : IsCore m old) (continues : Continues old t.0) (o : Opening) (h : Entries)
    (stands : StandsFor m old o h) where
  abbrev s : Standing
  s = standing_of old stands.numbers stands.tables

  abbrev size : ℕ
  size = old.store.geometry.size

  abbrev shows : ShowsIt m old o h s
  shows = shows_of m old o h stands continues.0

  abbrev pages : Pages
  pages = shown old.store.dirty shows.image

  abbrev layout : Layout
  layout = shows.stands.shows.layout

  abbrev knows : KnowsPages size o h s pages
  knows = record { memory = shows.stands.memory; shows = shows.stands.shows }

  active : state_of o h t.0 ≡ Active
  active = sym (shows.stands.memory.state t.0) ∙ continues.1

  told : Tells m old.store.disk shows.image
  told = record { told = stands.tells; held = shows.held }

  catalog_is : old.catalog ≡ layout.catalog.table
  catalog_is = catalog_shown m old o h s core shows

  -- the records of the catalog are read
  catalog_read : (store : Pool D FireLinks) → KeepsStore m old.store store → (takes : ℕ → Bool) (it : Damaged)
      → IsTableDamage m store [] pages takes old.catalog it → ⊥
  catalog_read store keeps takes it damage = read store shows.image no_batch there.facts there.reading there.stand
      old.catalog (sees_on m old.store store shows.image keeps there.facts there.reading there.stand old.catalog
      there.sees) takes it (subst (λ (d : DirtyPages). IsTableDamage m store [] (shown d shows.image) takes
      old.catalog it) (sym keeps.dirty) damage)
    where
      there : ShowsTable m old shows.image old.catalog
      there = shown_table records stand m old o h s shows stands.tells old.catalog
          (catalog_there records stand m old o h s shows stands.tells core)

  -- its rows that are seen are lawful
  rows_lawful : (rows : List Row) → AreRowsSeen s.state s.live t pages old.catalog rows → (at : ℕ)
      → IsFirstBad rows (BadTable at) → ⊥
  rows_lawful rows seen at bad = bad.1 (lawful size o h s pages knows t rows (begin o shows.stands.opening)
      shows.stands.legal stands.grows active (stands.bases t.0)
      (subst (λ (c : Table). AreRowsSeen s.state s.live t pages c rows) catalog_is seen) at bad.0)

  -- and a table that they name may be given
  may_be_given : (name : List ℕ) (table : Table) → SeesTable m old t name (Some table) → MayBeGiven table
  may_be_given name table sees = record {
    columns = subst (λ (n : ℕ). n ≤ MOST_COLUMNS) (sym (columns_count (by_key seen.rows) table seen.names.1.lawful its))
        (table_lawful (by_key seen.rows) seen.names.1.lawful table.name its.row its.there).most;
    pointer = subst (λ (n : PageNo). n.0 < GREATEST_LIMIT) (ap (λ (x : Table). x.pointer) there.stands.table_is
        ∙ there.same.pointer) (first_below size pages there.stands.stand.table.pointer.0 0
        there.stands.stand.table.pointer.0 there.stands.stand.pointers has.chain has.first has.pointers);
  }
    where
      seen : IsTableSeen s.state s.live t pages layout.catalog.table name (Some table)
      seen = subst (λ (c : Table). IsTableSeen s.state s.live t pages c name (Some table)) catalog_is
          (sees shows.image told)

      its : IsTable (by_key seen.rows) table
      its = (named_is (by_key seen.rows) seen.names.0 name table seen.names.1.each seen.names.2).1

      there : IsShown layout table
      there = seen_is_shown layout table (found size o h s pages knows t name table (begin o shows.stands.opening)
          shows.stands.legal stands.grows active (stands.bases t.0) seen)

      has : HasTablePages packed_form.in_primary size pages there.stands.stand
      has = its_pages packed_form size (left_state everyone s.state) pages layout shows.stands.shows.reading
          shows.stands.shows.sound there.its there.stands

  -- so nothing is found damaged
  pub name_undamaged : (name : List ℕ) (store : Pool D FireLinks) (it : Damaged) → KeepsStore m old.store store
      → WhyNoTable m old store t name (space.Damaged it) → ⊥
  name_undamaged name store it keeps (inl why) = at (why shows.image told)
    where
      at : RefusesTable m store [] (said old.list) old.live t pages old.catalog (space.Damaged it) → ⊥
      at (inl damage) = catalog_read store keeps (wants (said old.list) old.live (SeenBy t)) it damage
      at (inr damage) = rows_lawful damage.rows damage.seen damage.refused.0 damage.refused.1
  name_undamaged name store it keeps (inr stray) =
      stray.stray (may_be_given name stray.table stray.sees)

-- ---- the law

-- what is counted of a fault that is no damage
not_counted : (fault : SpaceFault) (damage now shortages later : ℕ) → ReadsData {T = Unit {0}} (Err fault)
    → ((it : Damaged) → fault ≢ space.Damaged it) → CountsFault fault damage now shortages later → now ≡ damage
not_counted (space.Full limit) damage now shortages later own none counts = counts.0
not_counted (space.Damaged it) damage now shortages later own none counts = absurd (none it refl)
not_counted (space.Pool (faults.DiskRead n)) damage now shortages later own none counts = counts.0
not_counted (space.Pool (faults.DiskWrite n)) damage now shortages later own none counts = counts.0
not_counted (space.Pool (faults.Offline n)) damage now shortages later own none counts = counts.0
not_counted (space.Pool (faults.Absent n)) damage now shortages later own none counts = absurd own
not_counted (space.Pool faults.Memory) damage now shortages later own none counts = counts.0

pub tables_meet_none : {D : Type 0} (m : Meaning D) → SoundRecordsAreLawful → SoundTablesStand → TablesAreRead m
    → OpeningsBegin → FoundTablesStand → SeenRowsAreLawful → TablesMeetNone D m
tables_meet_none {D} m records stand read begin found lawful old new t name result core answers o h stands tells =
    at result answers
  where
    same : (a b : Core D) → a ≡ b → a.damage ≡ b.damage
    same a b is = ap (λ (c : Core D). c.damage) is

    by : (refusal : Refusal) → RefusesName m old new t name refusal → new.damage ≡ old.damage
    by _ (by_call refusal refuses is) = same new old is
    by _ (by_lack lacks) = same new _ lacks.same
    by _ (by_memory wants_) = same new _ wants_.same
    by _ (by_fault refusal fails) = not_counted fails.fault old.damage new.damage old.shortages new.shortages fails.own
        (λ it is. name_undamaged m records stand read begin found lawful old t core fails.continues o h stands name
        new.store it fails.keeps (subst (WhyNoTable m old new.store t name) is fails.why)) fails.counts

    at : (given : Result Table Refusal) → AnswersTable m old new t name given → new.damage ≡ old.damage
    at (Ok table) (inl again) = same new old again.same
    at (Ok table) (inr finds) = same new _ finds.same
    at (Err refusal) refuses = by refusal refuses
