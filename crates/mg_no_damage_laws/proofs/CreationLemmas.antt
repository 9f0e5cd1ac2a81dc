-- A table is made without damage.
use Rattle.std.proofs.Common.{◌≡◌, ◌≢◌, ◌∙◌, ◌+◌, ℕ, Bool, true, false, List, [], ◌∷◌, Option, None, Some, Ok, Err, inl, inr, map, refl, sym, ap, subst}
use Rattle.std.specs.Prelude.{is_some, length}
use Rattle.std.proofs.lemmas.Bool.{false≢true}
use Rattle.mg_directory.specs.Candidates.{ByKey, at_key, by_table}
use Rattle.mg_sortkey.specs.KeyBytes.{key_bytes}
use Rattle.mg_base.specs.Disk.{Meaning}
use Rattle.mg_base.specs.declared.geometry.Geometry.{Geometry}
use Rattle.mg_base.specs.declared.numbers.PageNo.{PageNo}
use Rattle.mg_base.specs.declared.numbers.RecId.{RecId}
use Rattle.mg_base.specs.declared.numbers.TxNo.{TxNo}
use Rattle.mg_base.specs.declared.transaction.TxState.TheVariants.{Active, Dead}
use Rattle.mg_catalog.specs.RowsSaid.{column_rows}
use Rattle.mg_core.specs.Cores.{Continues, IsCore}
use Rattle.mg_core.specs.Obstacles.{IsOfRecord, StopsAtRecord}
use Rattle.mg_core.specs.Reading.{FailsReading}
use Rattle.mg_core.specs.Refusing.{CountsFault}
use Rattle.mg_core.specs.Writing.{HasBegun, IsOfKey, KnowsKey, ReadsRow, WhyOfKey, WhyOfKnown, row_unread}
use Rattle.mg_core.specs.declared.parts.Core.{Core}
use Rattle.mg_no_damage_laws.specs.CoreReads.{RecordsArePassed, RowsAreFound, ShowsTable}
use Rattle.mg_engine_meaning_laws.specs.KeepLaws.{catalog_shown}
use Rattle.mg_engine_change_laws.specs.tables.MakingSteps.{MayHave}
use Rattle.mg_engine_change_laws.specs.memory.Notes.{HasRead}
use Rattle.mg_engine_change_laws.specs.rows.RefusalLaws.{begun_read}
use Rattle.mg_engine_change_laws.specs.tables.RowsKnown.{rows_may}
use Rattle.mg_engine_change_laws.specs.rows.StopLaws.{reads_on, told_before}
use Rattle.mg_engine_meaning_laws.specs.Meaning.{Places}
use Rattle.mg_engine_meaning_laws.specs.Standings.{ShowsIt, StandsFor, asked_in, sessions_in, standing_of}
use Rattle.mg_engine_meaning_laws.specs.StepLaws.{shows_of}
use Rattle.mg_no_damage_laws.specs.CountLaws.{count, ended, refused}
use Rattle.mg_no_damage_laws.specs.ShownLaws.{catalog_there, shown_table, table_on}
use Rattle.mg_no_damage_laws.specs.StageLaws.{none_passed, own_there, read_stands, speaks_on, stops_stand, unread_stands}
use Rattle.mg_engine_step_laws.specs.reads.AnswersLaws.{ObstaclesAtKeys, RowsAtKeys, SpeakersAreTold, TellsSpeaker}
use Rattle.mg_engine_step_laws.specs.writes.GoesOnLaws.{pool_is_kept}
use Rattle.mg_engine_step_laws.specs.standing.Known.{IsSilent, KnowsPages, catalog_is_shown}
use Rattle.mg_engine_step_laws.specs.standing.Standing.{Standing}
use Rattle.mg_engine_step_laws.specs.writes.Caches.{kept_from}
use Rattle.mg_grown_catalog_laws.specs.Grown.{CommittedRowsStay, OwnRowsAreNew}
use Rattle.mg_image.specs.Form.{Pages, Row, packed_coding, packed_form}
use Rattle.mg_image.specs.ReadingLaws.{RowsAreOne}
use Rattle.mg_image.specs.Sound.{IsSoundBy}
use Rattle.mg_image_overlay_laws.specs.kept.KeptImages.{IsKept}
use Rattle.mg_no_damage_laws.proofs.MakingKeyLemmas.{SpeaksWith, column_refuted, own_refuted, speaks_with}
use Rattle.mg_no_damage_laws.specs.Creations.{CreationsMeetNone}
use Rattle.mg_model.specs.Catalog.{catalog_name, catalog_shape, column_key, key_of, table_key}
use Rattle.mg_model.specs.Changes.{row_at}
use Rattle.mg_model.specs.History.{Entries}
use Rattle.mg_model.specs.Answers.{obstacle, told}
use Rattle.mg_model.specs.Laws.{OpeningsBegin}
use Rattle.mg_model.specs.Machine.{state_of, view}
use Rattle.mg_model.specs.declared.opening.Opening.{Opening}
use Rattle.mg_model.specs.declared.refusal.Refusal.{Refusal}
use Rattle.mg_model.specs.declared.refusal.Refusal.TheVariants.{Damaged}
use Rattle.mg_model.specs.declared.table.Table.{Table}
use Rattle.mg_no_damage_laws.specs.Sound.{SoundRecordsAreLawful, SoundTablesStand}
use Rattle.mg_no_damage_laws.specs.Batches.{ShowsSound}
use Rattle.mg_overlay_laws.specs.Overlays.{left_by, left_state, nobody}
use Rattle.mg_pool.specs.Dirty.{DirtyPages}
use Rattle.mg_pool.specs.Pool.{shown}
use Rattle.mg_pool.specs.declared.fault.PoolFault.TheVariants as faults
use Rattle.mg_pool.specs.declared.pool.Pool.{Pool}
use Rattle.mg_records.specs.declared.write.Write.TheVariants as writes
use Rattle.mg_row_writes.specs.Finding.{IsInWay, IsRowAt, IsSeenIn}
use Rattle.mg_row_writes.specs.declared.finding.RowAt.{RowAt}
use Rattle.mg_seek.specs.Readings.{SpeakersOfReadings}
use Rattle.mg_seek.specs.Speaking.{IsSpeaker}
use Rattle.mg_space.specs.Taking.{IsGeometry}
use Rattle.mg_space.specs.View.{Tells}
use Rattle.mg_space.specs.ViewLaws.{CountsNow, tells_on}
use Rattle.mg_space.specs.declared.fault.SpaceFault.{SpaceFault}
use Rattle.mg_space.specs.declared.fault.SpaceFault.TheVariants as space
use Rattle.mg_space.specs.declared.links.FireLinks.{FireLinks}
use Rattle.mg_table_batch.specs.Filling.{rows_at}
use Rattle.mg_table_batch.specs.Making.{FailsTable, FailsTry, at_try, no_page, not_at_once, wants_more}
use Rattle.mg_table_making.specs.Creating.{FailsPut, no_catalog, no_keys, not_begun, not_free, not_kept, not_made, not_put, only_reads}
use Rattle.mg_table_making.specs.Keys.{AreFreeKeys, FailsColumnKeys, FailsFree, FailsOwnKey, IsFreeKey, column_spoken, column_taken, column_unread, first_taken, free_more, free_none, keys_made, later_taken, own_hindered, own_seen, own_spoken, own_taken, own_unread}
use Rattle.mg_no_damage_laws.specs.NewTables.{EachRow, MayBePut, MayMake, TablesAreMade}
use Rattle.mg_tie_laws.specs.Ties.{IsOneOf}
use Rattle.mg_txlist.specs.TxList.{said}
use Rattle.mg_value.specs.declared.shape.Column.{Column}
use Rattle.mg_value.specs.declared.shape.Shape.{Shape}
use Rattle.mg_value.specs.declared.value.Value.{Value}
use Rattle.mg_value.specs.declared.value.Value.TheVariants.{Null}
use Rattle.mg_waits.specs.Waits.{edges_in}

-- ---- the keys of a new table

abbrev AreColumnKeys : List ℕ → List Value → Type 0
AreColumnKeys name [] = Unit {0}
AreColumnKeys name (key ∷ keys) = ((n : ℕ) × (key ≡ column_key name n)) × AreColumnKeys name keys

-- that of its own row, and those of its columns
abbrev AreTableKeys : List ℕ → List Value → Type 0
AreTableKeys name [] = ⊥
AreTableKeys name (own ∷ columns) = (own ≡ table_key name) × AreColumnKeys name columns

columns_keyed : (name : List ℕ) (key place : ℕ) (columns : List Column)
    → AreColumnKeys name (map (key_of catalog_shape) (column_rows name key place columns))
columns_keyed name key place [] = tt
columns_keyed name key place (c ∷ cs) = ((place, refl), columns_keyed name key (place + 1) cs)

made_keyed : (catalog : Shape) (name : List ℕ) (shape : Shape) → catalog ≡ catalog_shape
    → AreTableKeys name (keys_made catalog name shape)
made_keyed catalog name shape is = subst (λ (s : Shape). AreTableKeys name (keys_made s name shape)) (sym is)
    (refl, columns_keyed name shape.key 0 shape.columns)

each_row : (P : Row → Type 0) (rows : List Row) → ((row : Row) → IsOneOf rows row → P row) → EachRow P rows
each_row P [] all = tt
each_row P (row ∷ rows) all = (all row (inl refl), each_row P rows (λ other is. all other (inr is)))

-- ---- the pages refuse no absent page

try_there : {D : Type 0} (m : Meaning D) (catalog : Table) (t : ℕ) (name : List ℕ) (shape : Shape)
    (a b : Pool D FireLinks) (n : ℕ) → FailsTry m catalog t name shape a b (space.Pool (faults.Absent n)) → ⊥
try_there m catalog t name shape a b n (not_at_once own) = own_there m a b _ _ n own
try_there m catalog t name shape a b n (no_page ready wants own) = own_there m ready b _ _ n own

table_there : {D : Type 0} (m : Meaning D) (catalog : Table) (t : ℕ) (name : List ℕ) (shape : Shape)
    (a b : Pool D FireLinks) (n : ℕ) → FailsTable m catalog t name shape a b (space.Pool (faults.Absent n)) → ⊥
table_there m catalog t name shape a b n (at_try grown wanted grows fails) =
    try_there m catalog t name shape grown b n fails
table_there m catalog t name shape a b n (wants_more grows is) = absurd cc

-- ---- what is known of engines

pub record MakingParts {D : Type 0} (m : Meaning D) : Type 0 where
  pub counts_now : CountsNow m
  pub records : SoundRecordsAreLawful
  pub stand : SoundTablesStand
  pub rows_found : RowsAreFound m
  pub passed : RecordsArePassed m
  pub speakers : SpeakersAreTold
  pub rows : RowsAtKeys
  pub obstacles : ObstaclesAtKeys
  pub begin : OpeningsBegin
  pub one : RowsAreOne packed_coding
  pub stay : CommittedRowsStay
  pub new : OwnRowsAreNew
  pub speak : SpeakersOfReadings
  pub made : TablesAreMade m

module _ {D : Type 0} (m : Meaning D) (parts : MakingParts m) (old new : Core D) (t : TxNo) (core : IsCore m old)
    (o : Opening) (h : Entries) (stands : StandsFor m old o h) (told_ : m.tells old.store.disk ≡ true)
    (continues : Continues old t.0) where
  abbrev s : Standing
  s = standing_of old stands.numbers stands.tables

  abbrev shows : ShowsIt m old o h (standing_of old stands.numbers stands.tables)
  shows = shows_of m old o h stands continues.0

  abbrev pages : Pages
  pages = shown old.store.dirty shows.image

  abbrev knows : KnowsPages old.store.geometry.size o h (standing_of old stands.numbers stands.tables)
      (shown old.store.dirty shows.image)
  knows = record { memory = shows.stands.memory; shows = shows.stands.shows }

  abbrev the_catalog : Table
  the_catalog = shows.stands.shows.layout.catalog.table

  catalog_is : old.catalog ≡ shows.stands.shows.layout.catalog.table
  catalog_is = catalog_shown m old o h (standing_of old stands.numbers stands.tables) core shows

  active : state_of o h t.0 ≡ Active
  active = sym (shows.stands.memory.state t.0) ∙ continues.1

  tells_it : Tells m old.store.disk shows.image
  tells_it = record { told = told_; held = shows.held }

  catalogs : ShowsTable m old shows.image old.catalog
  catalogs = shown_table parts.records parts.stand m old o h (standing_of old stands.numbers stands.tables) shows
      told_ old.catalog (catalog_there parts.records parts.stand m old o h
      (standing_of old stands.numbers stands.tables) shows told_ core)

  catalog_at : (now : Core D) → HasRead m old now t.0 → ShowsTable m now shows.image now.catalog
  catalog_at now had = subst (ShowsTable m now shows.image) (sym (ap (λ (c : Core D). c.catalog) had.same))
      (table_on m old.store now.store shows.image had.keeps old now old.catalog refl refl catalogs)

  count_at : (now : Core D) → HasRead m old now t.0 → now.damage ≡ old.damage
  count_at now had = ap count had.same

  -- ---- what is read at a key

  row_read : (now read : Core D) → HasRead m old now t.0 → (key : Value) (found : RowAt)
      → ReadsRow m now read t now.catalog key found
      → IsRowAt (said old.list) old.live t (shown old.store.dirty shows.image) the_catalog key found
  row_read now read had key found reads = subst (λ (c : Table). IsRowAt (said old.list) old.live t
      (shown old.store.dirty shows.image) c key found) catalog_is (told_before m old now t.0 had
      (λ (c : Core D) (view_ : Pages). IsOfKey c t c.catalog key found view_) reads.told shows.image tells_it)

  tells : (key : Value) (rec : Option RecId)
      → IsSpeaker (said old.list) old.live (shown old.store.dirty shows.image) the_catalog key rec
      → TellsSpeaker old.store.geometry.size o h (standing_of old stands.numbers stands.tables)
      (shown old.store.dirty shows.image) knows the_catalog.name key rec
  tells key rec spoken = parts.speakers old.store.geometry.size o h
      (standing_of old stands.numbers stands.tables) (shown old.store.dirty shows.image) knows the_catalog key rec
      (catalog_is_shown shows.stands.shows.layout) spoken

  with_row : (key : Value) (rec : RecId)
      → IsSpeaker (said old.list) old.live (shown old.store.dirty shows.image) the_catalog key (Some rec)
      → SpeaksWith parts.stay parts.new parts.speak old.store.geometry.size o h
      (standing_of old stands.numbers stands.tables) (shown old.store.dirty shows.image) knows
      (parts.begin o shows.stands.opening) shows.stands.legal stands.grows key rec
  with_row key rec spoken = speaks_with parts.stay parts.new parts.speak old.store.geometry.size o h
      (standing_of old stands.numbers stands.tables) (shown old.store.dirty shows.image) knows
      (parts.begin o shows.stands.opening) shows.stands.legal stands.grows key rec spoken
      (tells key (Some rec) spoken)

  -- no row is seen, and nobody is in the way: then nobody speaks
  own_none : (key : Value) (rec : Option RecId) (row : Option Row)
      → IsSpeaker (said old.list) old.live (shown old.store.dirty shows.image) the_catalog key rec
      → IsSeenIn (said old.list) old.live t (shown old.store.dirty shows.image) the_catalog rec row
      → is_some row ≡ false → rec ≢ None
      → IsInWay (said old.list) old.live t.0 (shown old.store.dirty shows.image) rec None → ⊥
  own_none key None row spoken seen none some free = some refl
  own_none key (Some rec) (Some row) spoken seen none some free = false≢true (sym none)
  own_none key (Some rec) None spoken seen none some free = own_refuted parts.stay parts.new parts.speak
      old.store.geometry.size o h (standing_of old stands.numbers stands.tables)
      (shown old.store.dirty shows.image) knows (parts.begin o shows.stands.opening) shows.stands.legal stands.grows t
      key rec (with_row key rec spoken) active
      (subst (λ (n : List ℕ). row_at (view o h t.0) n key ≡ None) named
      (parts.rows old.store.geometry.size o h (standing_of old stands.numbers stands.tables)
      (shown old.store.dirty shows.image) knows the_catalog key rec t None
      (catalog_is_shown shows.stands.shows.layout) (tells key (Some rec) spoken) active seen))
      (subst (λ (n : List ℕ). obstacle (told o h) t.0 n key ≡ None) named
      (sym (parts.obstacles old.store.geometry.size o h (standing_of old stands.numbers stands.tables)
      (shown old.store.dirty shows.image) knows the_catalog key rec t.0 None (parts.begin o shows.stands.opening)
      shows.stands.legal (catalog_is_shown shows.stands.shows.layout) (tells key (Some rec) spoken) active free).0))
    where
      named : the_catalog.name ≡ catalog_name
      named = ap (λ (x : Table). x.name) shows.stands.shows.sound.catalog

  -- nobody speaks for the table's own row: then nobody does for a column's
  column_none : (name : List ℕ) (key : Value) (n : ℕ) (rec : Option RecId) → key ≡ column_key name n
      → IsSilent old.store.geometry.size o h (standing_of old stands.numbers stands.tables)
      (shown old.store.dirty shows.image) knows the_catalog.name (table_key name)
      → IsSpeaker (said old.list) old.live (shown old.store.dirty shows.image) the_catalog key rec → rec ≢ None → ⊥
  column_none name key n None is silent spoken some = some refl
  column_none name key n (Some rec) is silent spoken some = column_refuted parts.stay parts.new parts.speak
      old.store.geometry.size o h (standing_of old stands.numbers stands.tables)
      (shown old.store.dirty shows.image) knows (parts.begin o shows.stands.opening) shows.stands.legal stands.grows
      name n rec (with_row (column_key name n) rec (subst (λ (k : Value). IsSpeaker (said old.list) old.live
      (shown old.store.dirty shows.image) the_catalog k (Some rec)) is spoken)) silent

  -- ---- the keys, one after another

  -- the catalog has no directory
  bare_at : (now : Core D) → HasRead m old now t.0 → (key : Value)
      → KnowsKey now now.catalog key (shown now.store.dirty shows.image)
  bare_at now had key candidates is =
      let bare : by_table now.directories.dirs now.catalog.pointer.0 ≡ None =
      ap (λ (c : Core D). by_table c.directories.dirs c.catalog.pointer.0) had.same ∙ shows.no_directory in
      let none : None ≡ Some candidates =
      sym (ap (λ (found : Option ByKey). at_key found (key_bytes key)) bare) ∙ is in absurd cc

  unread : (now : Core D) → HasRead m old now t.0 → (key : Value) (refusal : Refusal)
      → FailsReading m now new (WhyOfKey m now t now.catalog key) refusal → new.damage ≡ old.damage
  unread now had key refusal fails = unread_stands m now new (WhyOfKey m now t now.catalog key) refusal fails
      (λ page field a b same. parts.rows_found now new shows.image now.catalog (catalog_at now had) t key
      (writes.Erase key) (bare_at now had key) page field a b (row_unread (as_known (Damaged page field a b)
      (subst (FailsReading m now new (WhyOfKey m now t now.catalog key)) same fails)))) ∙ count_at now had
    where
      as_known : (r : Refusal) → FailsReading m now new (WhyOfKey m now t now.catalog key) r
          → FailsReading m now new (WhyOfKnown m now t now.catalog key) r
      as_known r is = record {
        fault = is.fault;
        is = is.is;
        own = is.own;
        told = is.told;
        keeps = is.keeps;
        caused = λ image tells known. is.caused image tells;
        counts = is.counts;
        same = is.same;
      }

  free_on : (now read : Core D) (key : Value) → HasRead m old now t.0 → IsFreeKey m now read t key
      → HasRead m old read t.0
  free_on now read key had free = reads_on m parts.counts_now old now read t.0 had free.reads.reads

  pub all_on : (keys : List Value) (now free : Core D) → HasRead m old now t.0 → AreFreeKeys m t keys now free
      → HasRead m old free t.0
  all_on keys now free had (free_none c) = had
  all_on keys now free had (free_more key more first read last one rest) =
      all_on more read free (free_on now read key had one) rest

  own_key : (now : Core D) → HasRead m old now t.0 → (wait : Bool) (all : ℕ) (key : Value) (refusal : Refusal)
      → FailsOwnKey m now new t wait all key refusal → new.damage ≡ old.damage
  own_key now had wait all key refusal (own_unread fails) = unread now had key refusal fails
  own_key now had wait all key refusal (own_seen found reads some is) =
      read_stands m now new reads.reads ∙ count_at now had
  own_key now had wait all key refusal (own_hindered read found reads none stops) =
      let at : HasRead m old read t.0 = reads_on m parts.counts_now old now read t.0 had reads.reads in
      stops_stand m read new t.0 wait _ _ refusal stops (λ page field a b same. parts.passed read new shows.image
      now.catalog (subst (ShowsTable m read shows.image) (ap (λ (c : Core D). c.catalog) reads.reads.same)
      (catalog_at read at)) t wait key found.rec (speaks_on m now read shows.image now.catalog key found.rec
      reads.reads (reads.told shows.image (tells_on m old.store now.store shows.image had.keeps tells_it)).spoken)
      page field a b (subst (StopsAtRecord m read new t wait found.rec) same stops)) ∙ count_at read at
  own_key now had wait all key refusal (own_spoken read passed found reads none some passes counts) =
      let at : HasRead m old read t.0 = reads_on m parts.counts_now old now read t.0 had reads.reads in
      let here = row_read now read had key found reads in
      absurd (own_none key found.rec found.row here.spoken here.seen none some
      (none_passed (said old.list) old.live t.0 (shown old.store.dirty shows.image) found.rec (edges_in read.waits)
      wait passes.found (told_before m old read t.0 at (λ (c : Core D) (view_ : Pages). IsOfRecord c t found.rec view_
      passes.found) passes.told shows.image tells_it) passes.passed))

  columns : (name : List ℕ) → IsSilent old.store.geometry.size o h (standing_of old stands.numbers stands.tables)
      (shown old.store.dirty shows.image) knows the_catalog.name (table_key name) → (all : ℕ) (refusal : Refusal)
      (place : ℕ) (keys : List Value) (now : Core D) → HasRead m old now t.0 → AreColumnKeys name keys
      → FailsColumnKeys m t all new refusal place keys now → new.damage ≡ old.damage
  columns name silent all refusal place keys now had keyed (first_taken at key more first (column_unread fails)) =
      unread now had key refusal fails
  columns name silent all refusal place keys now had keyed
      (first_taken at key more first (column_spoken read found reads some counts)) =
      absurd (column_none name key keyed.0.0 found.rec keyed.0.1 silent (row_read now read had key found reads).spoken
      some)
  columns name silent all refusal place keys now had keyed (later_taken at key more first read free fails) =
      columns name silent all refusal (at + 1) more read (free_on now read key had free) keyed.1 fails

  keys_stand : (name : List ℕ) (begun : Core D) → HasRead m old begun t.0 → (wait : Bool) (all : ℕ)
      (refusal : Refusal) (keys : List Value) → AreTableKeys name keys
      → FailsFree m begun new t wait all refusal keys → new.damage ≡ old.damage
  keys_stand name begun had wait all refusal keys keyed (own_taken own more fails) =
      own_key begun had wait all own refusal fails
  keys_stand name begun had wait all refusal keys keyed (column_taken own more later) =
      columns name silent all refusal 1 more later.read (free_on begun later.read own had later.free) keyed.1
      later.fails
    where
      here : IsSpeaker (said old.list) old.live (shown old.store.dirty shows.image) the_catalog own None
      here = subst (λ (r : Option RecId). IsSpeaker (said old.list) old.live (shown old.store.dirty shows.image)
          the_catalog own r) later.free.none
          (row_read begun later.read had own later.free.found later.free.reads).spoken

      silent : IsSilent old.store.geometry.size o h (standing_of old stands.numbers stands.tables)
          (shown old.store.dirty shows.image) knows the_catalog.name (table_key name)
      silent = subst (λ (k : Value). IsSilent old.store.geometry.size o h
          (standing_of old stands.numbers stands.tables) (shown old.store.dirty shows.image) knows the_catalog.name k)
          keyed.0 (tells own None here).1

  -- ---- the batch

  -- the pages where those that have not ended count as dead
  pub kept : IsKept packed_form old.store.geometry.size o h (left_state nobody (said old.list))
      (shown old.store.dirty shows.image) (shown old.store.dirty shows.image)
  kept = pool_is_kept packed_form D FireLinks old.store.geometry.size o h (said old.list) (asked_in old.works)
      (sessions_in old.works) old.store shows.image nobody (kept_from m packed_form o h
      (standing_of old stands.numbers stands.tables) old.store shows.image (asked_in old.works)
      (sessions_in old.works) shows.stands.memory core.pool shows.held shows.lasts)

  pub its_catalog : kept.of_pool.catalog.table ≡ old.catalog
  its_catalog = kept.pool_sound.catalog ∙ (sym shows.stands.shows.sound.catalog ∙ sym catalog_is)

  pub dead : left_state nobody (said old.list) t.0 ≡ Dead
  dead = ap (left_by false) continues.1

  may_make : {P : Type 0} (places : Places P) (name : List ℕ) (shape : Shape) → MayHave m places old name shape
      → MayMake old.store.geometry.size (left_state nobody (said old.list)) (shown old.store.dirty shows.image)
      kept.of_pool old.catalog t.0 name shape
  may_make places name shape may = record {
    named = may.named;
    columns = may.new.named;
    most = may.new.most;
    rows = λ page below. subst (λ (c : Table). EachRow (MayBePut old.store.geometry.size
        (left_state nobody (said old.list)) (shown old.store.dirty shows.image) kept.of_pool c t.0)
        (rows_at name shape page)) (sym kept.pool_sound.catalog ∙ its_catalog)
        (each_row _ (rows_at name shape page) (λ row is at v stores. (rows_may parts.one parts.begin
        old.store.geometry.size o h (standing_of old stands.numbers stands.tables)
        (shown old.store.dirty shows.image) shows.stands t continues.1 name shape page may.new below row is at v
        stores).1 nobody kept.of_pool kept.in_pool kept.pool_sound));
  }

  module _ {P : Type 0} (places : Places P) (name : List ℕ) (shape : Shape) (may : MayHave m places old name shape)
      (free : Core D) (had : HasRead m old free t.0) where
    pub sound_free : ShowsSound m free.store shows.image (left_state nobody (said old.list)) kept.of_pool kept.in_pool
    sound_free = record {
      tells = tells_on m old.store free.store shows.image had.keeps tells_it;
      geometry = subst IsGeometry (sym had.keeps.geometry) core.geometry;
      sound = subst (λ (g : Geometry). IsSoundBy packed_form g.size (left_state nobody (said old.list))
          (shown free.store.dirty shows.image) kept.of_pool kept.in_pool) (sym had.keeps.geometry)
          (subst (λ (d : DirtyPages). IsSoundBy packed_form old.store.geometry.size
          (left_state nobody (said old.list)) (shown d shows.image) kept.of_pool kept.in_pool) (sym had.keeps.dirty)
          kept.pool_sound);
    }

    pub may_free : MayMake free.store.geometry.size (left_state nobody (said old.list))
        (shown free.store.dirty shows.image) kept.of_pool free.catalog t.0 name shape
    may_free = subst (λ (c : Table). MayMake free.store.geometry.size (left_state nobody (said old.list))
        (shown free.store.dirty shows.image) kept.of_pool c t.0 name shape)
        (sym (ap (λ (c : Core D). c.catalog) had.same))
        (subst (λ (g : Geometry). MayMake g.size (left_state nobody (said old.list))
        (shown free.store.dirty shows.image) kept.of_pool old.catalog t.0 name shape) (sym had.keeps.geometry)
        (subst (λ (d : DirtyPages). MayMake old.store.geometry.size (left_state nobody (said old.list))
        (shown d shows.image) kept.of_pool old.catalog t.0 name shape) (sym had.keeps.dirty)
        (may_make places name shape may)))

    put_stands : (keys : List Value) (refusal : Refusal) → FailsPut m free new t name shape keys refusal
        → new.damage ≡ old.damage
    put_stands keys refusal (no_catalog zero counts) =
        let on = (catalog_at free had).sees.stands in
        absurd (on.has.first (ap (λ (p : PageNo). p.0) on.same.pointer ∙ zero))
    put_stands keys refusal (not_kept fails) = ap count fails.same ∙ count_at free had
    put_stands keys refusal (not_made fails) = at fails.fault fails.fails fails.counts ∙ count_at free had
      where
        at : (fault : SpaceFault) → FailsTable m free.catalog t.0 name shape free.store new.store fault
            → CountsFault fault free.damage new.damage free.shortages new.shortages → new.damage ≡ free.damage
        at (space.Full limit) fails_ counts = counts.0
        at (space.Damaged it) fails_ counts = absurd (parts.made free.store new.store shows.image
            (left_state nobody (said old.list)) kept.of_pool kept.in_pool sound_free free.catalog
            (its_catalog ∙ sym (ap (λ (c : Core D). c.catalog) had.same)) t.0 dead name shape may_free it fails_)
        at (space.Pool (faults.DiskRead n)) fails_ counts = counts.0
        at (space.Pool (faults.DiskWrite n)) fails_ counts = counts.0
        at (space.Pool (faults.Offline n)) fails_ counts = counts.0
        at (space.Pool (faults.Absent n)) fails_ counts =
            absurd (table_there m free.catalog t.0 name shape free.store new.store n fails_)
        at (space.Pool faults.Memory) fails_ counts = counts.0

-- ---- the call

pub begun_on : {D : Type 0} (m : Meaning D) (counts_now : CountsNow m) (old : Core D) (core : IsCore m old) (t : TxNo)
    (begun : Core D) (wait : Bool) → HasBegun old begun t wait → HasRead m old begun t.0
begun_on m counts_now old core t begun wait has =
    begun_read m counts_now old core t old.catalog (writes.Erase Null) begun wait has

pub creations : {D P : Type 0} (m : Meaning D) → MakingParts m → CreationsMeetNone D P m
creations m parts places old new t name shape (Ok x) core may creates o h stands told_ =
    ap count creates.puts.same ∙ ap count (all_on m parts old new t core o h stands told_
    creates.may.has_begun.continues (keys_made old.catalog.shape name shape) creates.may.begun creates.free
    (begun_on m parts.counts_now old core t creates.may.begun creates.may.wait creates.may.has_begun)
    creates.may.are_free).same
creations m parts places old new t name shape (Err refusal) core may (not_begun is) o h stands told_ =
    refused old new t.0 refusal is
creations m parts places old new t name shape (Err refusal) core may (only_reads continues wait only) o h stands told_ =
    ended old new t.0 wait
creations m parts places old new t name shape (Err refusal) core may (no_keys begun wait has fails) o h stands told_ =
    ap count fails.1 ∙ ap count (begun_on m parts.counts_now old core t begun wait has).same
creations m parts places old new t name shape (Err refusal) core may (not_free begun wait has fails) o h stands told_ =
    keys_stand m parts old new t core o h stands told_ has.continues name begun
    (begun_on m parts.counts_now old core t begun wait has) wait (length (keys_made old.catalog.shape name shape))
    refusal (keys_made old.catalog.shape name shape)
    (made_keyed old.catalog.shape name shape core.catalog.shape) fails
creations m parts places old new t name shape (Err refusal) core may (not_put free made fails) o h stands told_ =
    put_stands m parts old new t core o h stands told_ made.has_begun.continues places name shape may free
    (all_on m parts old new t core o h stands told_ made.has_begun.continues (keys_made old.catalog.shape name shape)
    made.begun free (begun_on m parts.counts_now old core t made.begun made.wait made.has_begun) made.are_free)
    (keys_made old.catalog.shape name shape) refusal fails
