-- The rows of the catalog that an active transaction sees are lawful.
use Rattle.std.proofs.Common.{◌≡◌, ◌<◌, ◌++◌, ◌==◌, inl, inr, refl, sym, ap, ◌∙◌, subst, arith, length, get_or, ℕ, zero, suc, true, false, List, [], ◌∷◌, Option, None, Some}
use Rattle.std.specs.Prelude.{IsSome, is_some}
use Rattle.mg_base.specs.declared.numbers.RecId.{RecId}
use Rattle.mg_base.specs.declared.numbers.TxNo.{TxNo}
use Rattle.mg_base.specs.declared.transaction.TxState.{TxState}
use Rattle.mg_base.specs.declared.transaction.TxState.TheVariants.{Active}
use Rattle.mg_value.specs.declared.value.Value.{Value}
use Rattle.mg_model.specs.declared.opening.Opening.{Opening}
use Rattle.mg_model.specs.declared.table.Table.{Table}
use Rattle.mg_model.specs.Answers.{is_open}
use Rattle.mg_model.specs.Catalog.{CatalogRows, catalog_name, column_key, index_key, said_b, said_name, table_key, told_cells, told_if_there}
use Rattle.mg_model.specs.CatalogRules.{IsCatalog}
use Rattle.mg_model.specs.Changes.{Cells, has_change, row_at}
use Rattle.mg_model.specs.History.{Entries}
use Rattle.mg_model.specs.Legal.{IsLegal, MayBegin}
use Rattle.mg_model.specs.Machine.{base, database, own, state_of, view}
use Rattle.mg_model.specs.Openings.{IsToldCatalog, everyone}
use Rattle.mg_catalog.specs.ByKey.{HasKey, by_key, row_key}
use Rattle.mg_catalog.specs.FirstBad.{IsLawfulAt}
use Rattle.mg_catalog.specs.KeyLaws.{key_found}
use Rattle.mg_catalog.specs.LawfulLaws.{index_lawful, table_lawful}
use Rattle.mg_catalog.specs.TableLaws.{some_row}
use Rattle.mg_generation_laws.specs.Laws.{ChainsShowDatabase}
use Rattle.mg_chain.specs.Chains.{newest_link, takes_version}
use Rattle.mg_snap.specs.Live.{State}
use Rattle.mg_image.specs.declared.entry.Entry.{Entry}
use Rattle.mg_image.specs.Form.{Pages, Row}
use Rattle.mg_image.specs.RecordRules.{Facts, table_in}
use Rattle.mg_image.specs.Records.{Chain, Reading, cells_of, key_of, record_key}
use Rattle.mg_overlay_laws.specs.Overlays.{left_state}
use Rattle.mg_image_overlay_laws.specs.tables.Growing.{IsTableOf}
use Rattle.mg_image_overlay_laws.specs.tables.OneTable.{stands_in}
use Rattle.mg_seek.specs.Histories.{HasSpeaker}
use Rattle.mg_seek.specs.Readings.{RowsOfReadings}
use Rattle.mg_seek.specs.TableRecords.{IsAmong}
use Rattle.mg_seek.specs.TableRows.{AreRowsSeen, AreSeen, with_row}
use Rattle.mg_seek.specs.Views.{IsRowSeen}
use Rattle.mg_engine_step_laws.specs.standing.StandingLaws.{ChainsGoOn}
use Rattle.mg_engine_step_laws.specs.standing.Standing.{Standing}
use Rattle.mg_engine_step_laws.specs.standing.Versions.{SpeaksFor}
use Rattle.mg_engine_step_laws.specs.standing.Known.{KnowsPages, catalog_is_shown, facts_shown, speaker_of}
use Rattle.mg_engine_step_laws.specs.reads.KeyAnswers.{has_speaker, read_at}
use Rattle.mg_engine_step_laws.specs.reads.AnswersLaws.{NothingAtKeys, RowsAtKeys}
use Rattle.mg_engine_step_laws.specs.standing.Listed.{is_listed}
use Rattle.mg_engine_step_laws.specs.reads.TableAnswers.{shown_key}
use Rattle.mg_engine_step_laws.specs.tables.TablePages.{data_there}
use Rattle.mg_grown_catalog_laws.specs.Grown.{BasesAreWithin, CatalogGrows, OwnRowsAreNew}
use Rattle.mg_engine_step_laws.specs.tables_back.CatalogParts.{count_told, part_lawful, row_there, seen_column, seen_indexes, seen_owner, seen_table}
use Rattle.mg_engine_step_laws.specs.tables.FoundLaws.{of_catalog, records_are, seen_in_all, seen_is_told}
use Rattle.mg_engine_step_laws.specs.tables.Lawful.{DatabasesAreLawful, SeenRowsAreLawful}
use Rattle.mg_engine_step_laws.specs.tables.NamedTables.{told_lawful}
use Rattle.mg_engine_step_laws.specs.tables.Seen.{NewestIsSeen}
use Rattle.mg_engine_step_laws.specs.tables_back.WholeIndexes.{HasIndexRows, name_told, told_of}
use Rattle.mg_engine_step_laws.specs.tables.SeenRows.{row_found}
use Rattle.mg_engine_step_laws.specs.tables.SeenTables.{tells_database, tells_with_own}

-- ---- rows that are seen of records

module _ (state : ℕ → TxState) (live : State) (t : TxNo) (pages : Pages) (cat : Table) where
  -- of a record something is seen; a row of it is one of the rows
  seen_of : (recs : List RecId) (rows : List Row) (rec : RecId) → AreSeen state live t pages cat recs rows
      → IsAmong recs rec → (found : Option Row) × IsRowSeen state live t pages cat rec found
      × ((row : Row) → found ≡ Some row → HasKey rows (row_key row))
  seen_of [] rows rec seen among = absurd among
  seen_of (first ∷ recs) rows rec (found, later, here, rest, are) (inl same) = (
    found,
    subst (λ (x : RecId). IsRowSeen state live t pages cat x found) same here,
    λ row is. subst (λ (xs : List Row). HasKey xs (row_key row))
        (sym (are ∙ ap (λ (x : Option Row). with_row x later) is)) (inl refl),
  )
  seen_of (first ∷ recs) rows rec (found, later, here, rest, are) (inr more) =
      let its = seen_of recs later rec rest more in (
        its.0,
        its.1,
        λ row is. subst (λ (xs : List Row). HasKey xs (row_key row)) (sym are)
            (behind found (row_key row) (its.2 row is)),
      )
    where
      behind : (x : Option Row) (key : Value) → HasKey later key → HasKey (with_row x later) key
      behind None key has = has
      behind (Some row) key has = inr has

  -- the row at a place is seen of a record
  record_at : (recs : List RecId) (rows : List Row) → AreSeen state live t pages cat recs rows → (at : ℕ)
      → at < length rows → (rec : RecId) × IsAmong recs rec
      × IsRowSeen state live t pages cat rec (Some (get_or rows at []))
  record_at [] rows seen at below = let none : length rows ≡ 0 = ap length seen in absurd (omega (arith, below, none))
  record_at (rec ∷ recs) rows (found, later, here, rest, are) at below =
      subst (λ (xs : List Row). (x : RecId) × IsAmong (rec ∷ recs) x
      × IsRowSeen state live t pages cat x (Some (get_or xs at []))) (sym are)
      (by found here at (subst (λ (xs : List Row). at < length xs) are below)
      (λ n less. record_at recs later rest n less))
    where
      further : (n : ℕ) → (x : RecId) × IsAmong recs x
          × IsRowSeen state live t pages cat x (Some (get_or later n []))
          → (x : RecId) × IsAmong (rec ∷ recs) x
          × IsRowSeen state live t pages cat x (Some (get_or later n []))
      further n (x, among, seen) = (x, inr among, seen)

      by : (x : Option Row) → IsRowSeen state live t pages cat rec x → (n : ℕ)
          → n < length (with_row x later)
          → ((k : ℕ) → k < length later → (y : RecId) × IsAmong recs y
          × IsRowSeen state live t pages cat y (Some (get_or later k [])))
          → (y : RecId) × IsAmong (rec ∷ recs) y
          × IsRowSeen state live t pages cat y (Some (get_or (with_row x later) n []))
      by None seen n less more = further n (more n less)
      by (Some row) seen zero less more = (rec, inl refl, seen)
      by (Some row) seen (suc n) less more = further n (more n (omega (arith, less)))

-- a row of a list has its key there
key_at : (rows : List Row) (at : ℕ) → at < length rows → HasKey rows (row_key (get_or rows at []))
key_at [] at below = absurd (omega arith)
key_at (first ∷ rows) zero below = inl refl
key_at (first ∷ rows) (suc at) below = inr (key_at rows at (omega arith))

-- ---- the catalog of the database

pub databases_are_lawful : ChainsShowDatabase → DatabasesAreLawful
databases_are_lawful shows size o h s pages knows =
    told_lawful size o h s pages knows (λ u. false) (database o h)
    (tells_database size o h s pages knows shows)

-- ---- what one sees of it

module _ (rows_law : RowsOfReadings) (rows_at : RowsAtKeys) (nothing : NothingAtKeys) (newest : NewestIsSeen)
    (shows : ChainsShowDatabase) (go_on : ChainsGoOn) (own_new : OwnRowsAreNew) (older : BasesAreWithin) (size : ℕ)
    (o : Opening) (h : Entries) (s : Standing) (pages : Pages) (knows : KnowsPages size o h s pages) (t : TxNo)
    (rows : List Row) (opening : MayBegin o) (legal : IsLegal o h) (grows : CatalogGrows o h)
    (active : state_of o h t.0 ≡ Active) (base_is : IsToldCatalog (row_at (base o h t.0) catalog_name))
    (seen : AreRowsSeen s.state s.live t pages knows.shows.layout.catalog.table rows) where
  abbrev f : Facts
  f = facts_shown size o h s pages knows

  abbrev r : Reading
  r = knows.shows.reading

  abbrev cat : Table
  cat = knows.shows.layout.catalog.table

  abbrev all : CatalogRows
  all = knows.shows.sound.names.all.rows

  named : cat.name ≡ catalog_name
  named = ap (λ (x : Table). x.name) knows.shows.sound.catalog

  key_is : (row : Row) → key_of cat row ≡ row_key row
  key_is row = ap (λ (x : Table). key_of x row) knows.shows.sound.catalog

  abbrev stands : IsTableOf knows.shows.layout cat
  stands = stands_in knows.shows.layout cat (inl refl)

  of_cat : (rec : RecId) → IsAmong seen.records rec → table_in f rec ≡ Some cat
  of_cat rec among = of_catalog rows_law rows_at nothing newest size o h s pages knows t opening legal grows active
      seen.records seen.of_table rec among

  in_all : (rec : RecId) (row : Row) → IsAmong seen.records rec
      → IsRowSeen s.state s.live t pages cat rec (Some row) → all (row_key row) ≡ Some row
  in_all rec row among is = seen_in_all rows_law rows_at nothing newest size o h s pages knows t opening legal grows
      active rec row (of_cat rec among) is

  pub within : (key : Value) (row : Row) → by_key rows key ≡ Some row → all key ≡ Some row
  within key row is =
      let it = row_found s.state s.live t pages cat seen.records rows key row seen.seen is in
      subst (λ (k : Value). all k ≡ Some row) it.keyed (in_all it.rec row it.among it.seen)

  -- ---- what is seen is told, and what is told is seen

  told_there : (key : Value) (row : Row) → by_key rows key ≡ Some row
      → row_at (view o h t.0) catalog_name key ≡ Some (told_cells row)
  told_there key row is =
      let it = row_found s.state s.live t pages cat seen.records rows key row seen.seen is in
      subst (λ (k : Value). row_at (view o h t.0) catalog_name k ≡ Some (told_cells row)) it.keyed
      (seen_is_told rows_law rows_at nothing newest size o h s pages knows t opening legal grows active it.rec row
      (of_cat it.rec it.among) it.seen)

  seen_there : (key : Value) → IsSome (row_at (view o h t.0) catalog_name key) → IsSome (by_key rows key)
  seen_there key told = by (row_there (row_at (view o h t.0) catalog_name key) told) spoken refl
    where
      spoken : Option RecId
      spoken = speaker_of size o h s pages knows cat.name key

      has : HasSpeaker o h f r cat key spoken
      has = has_speaker size o h s pages knows cat stands key

      viewed : (x : Option Row) → row_at (view o h t.0) catalog_name key ≡ x
          → row_at (view o h t.0) cat.name key ≡ x
      viewed x is = ap (λ (n : List ℕ). row_at (view o h t.0) n key) named ∙ is

      row_keyed : (rec : RecId) → spoken ≡ Some rec → (row : Row)
          → IsRowSeen s.state s.live t pages cat rec (Some row) → row_key row ≡ key
      row_keyed rec some row here = sym (key_is row)
          ∙ (shown_key f (takes_version s.state s.live t.0) cat (record_key cat (r rec)) (r rec) row
          (knows.shows.sound.records.each rec cat (has.some rec some).0).each
          (sym (rows_law s.state s.live t pages cat rec (Some row) f r
          (read_at size o h s pages knows cat rec (has.some rec some).0) here)) ∙ (has.some rec some).1)

      among : (rec : RecId) → spoken ≡ Some rec → IsAmong seen.records rec
      among rec some = at (r rec) refl
        where
          spoke : SpeaksFor o h f r cat.name key (Some rec)
          spoke = subst (SpeaksFor o h f r cat.name key) some (knows.shows.versions.speaks cat.name key)

          at : (es : List Entry) → r rec ≡ es → IsAmong seen.records rec
          at [] empty = absurd (spoke.0.some empty)
          at (e ∷ es) are = subst (λ (xs : List RecId). IsAmong xs rec)
              (sym (records_are rows_law rows_at nothing newest size o h s pages knows t opening legal grows active
              seen.records seen.of_table))
              (is_listed pages stands.stand.data_pages rec e es
              ((data_there size (left_state everyone s.state) pages knows.shows.layout r knows.shows.sound cat
              stands rec.page.0).0 (has.some rec some).0)
              (subst (Chain (cells_of pages) (newest_link pages rec)) are
              (knows.shows.sound.records.reads rec cat (has.some rec some).0)))

      found_there : (row : Row) → row_at (view o h t.0) catalog_name key ≡ Some row → (rec : RecId)
          → spoken ≡ Some rec → (x : Option Row) → IsRowSeen s.state s.live t pages cat rec x
          → ((y : Row) → x ≡ Some y → HasKey rows (row_key y)) → IsSome (by_key rows key)
      found_there row is rec some None here keys =
          let none : None ≡ Some row = sym (rows_at size o h s pages knows cat key rec t None
          (catalog_is_shown knows.shows.layout) some active here) ∙ viewed (Some row) is in absurd cc
      found_there row is rec some (Some y) here keys =
          let it = key_found rows (row_key y) (keys y refl) in
          ap is_some (ap (by_key rows) (sym (row_keyed rec some y here)) ∙ it.1)

      by : (row : Row) × (row_at (view o h t.0) catalog_name key ≡ Some row) → (x : Option RecId)
          → spoken ≡ x → IsSome (by_key rows key)
      by (row, is) None none =
          let none_ : None ≡ Some row = sym (nothing o h cat.name key t.0 opening legal (has.none none) active).0
          ∙ viewed (Some row) is in absurd cc
      by (row, is) (Some rec) some =
          let it = seen_of s.state s.live t pages cat seen.records rows rec seen.seen (among rec some) in
          found_there row is rec some it.0 it.1 it.2

  -- ---- so the rows are whole tables of a lawful catalog

  lawful : IsCatalog all
  lawful = knows.shows.sound.names.all.are_tables.lawful

  data_is : IsToldCatalog (row_at (database o h) catalog_name)
  data_is = databases_are_lawful shows size o h s pages knows

  with_is : IsToldCatalog (row_at (own o h t.0 ++ database o h) catalog_name)
  with_is = told_lawful size o h s pages knows (λ u. u == t.0) (own o h t.0 ++ database o h)
      (tells_with_own size o h s pages knows t.0 active opening legal go_on shows)

  new_rows : (key : Value) → has_change (own o h t.0) catalog_name key ≡ true
      → IsSome (row_at (own o h t.0) catalog_name key) × (row_at (database o h) catalog_name key ≡ None)
  new_rows key has = own_new o h t.0 key opening legal grows (ap is_open active) has

  base_within : (key : Value) (row : Cells) → row_at (base o h t.0) catalog_name key ≡ Some row
      → row_at (database o h) catalog_name key ≡ Some row
  base_within key row is = older o h t.0 key row opening legal grows is

  told_some : (key : Value) → IsSome (by_key rows key) → IsSome (row_at (view o h t.0) catalog_name key)
  told_some key some = let it = row_there (by_key rows key) some in ap is_some (told_there key it.0 it.1)

  tables_whole : (table : List ℕ) (place : ℕ) → IsSome (by_key rows (column_key table place))
      → IsSome (by_key rows (table_key table))
  tables_whole table place some = seen_there (table_key table)
      (seen_table (own o h t.0) (base o h t.0) (database o h) base_is data_is with_is new_rows base_within table place
      (told_some (column_key table place) some))

  columns_whole : (name : List ℕ) (row : Row) → by_key rows (table_key name) ≡ Some row → (place : ℕ)
      → place < said_b row → IsSome (by_key rows (column_key name place))
  columns_whole name row here place below = seen_there (column_key name place)
      (seen_column (own o h t.0) (base o h t.0) (database o h) base_is data_is with_is new_rows base_within name
      (told_cells row) (told_there (table_key name) row here) place
      (subst (λ (n : ℕ). place < n) (sym (count_told all name row (table_lawful all lawful name row
      (within (table_key name) row here)))) below))

  -- ---- indexes are whole

  -- a row that the history tells it is one of the catalog, without its page numbers
  told_all : (key : Value) (row : Cells) → row_at (view o h t.0) catalog_name key ≡ Some row
      → told_if_there (all key) ≡ Some row
  told_all key row is =
      let found = row_there (by_key rows key) (seen_there key (ap is_some is)) in
      ap told_if_there (within key found.0 found.1) ∙ (sym (told_there key found.0 found.1) ∙ is)

  owners_whole : (name : List ℕ) (row : Cells) → by_key rows (index_key name) ≡ Some row
      → IsSome (by_key rows (table_key (said_name row)))
  owners_whole name row here = subst (λ (n : List ℕ). IsSome (by_key rows (table_key n)))
      (name_told all name row (index_lawful all lawful name row (within (index_key name) row here)))
      (seen_there (table_key (said_name (told_cells row))) (seen_owner (own o h t.0) (base o h t.0) (database o h) base_is
      data_is with_is new_rows base_within name (told_cells row) (told_there (index_key name) row here)))

  pub indexes_whole : (table : List ℕ) (row : Cells) → by_key rows (table_key table) ≡ Some row
      → HasIndexRows all (by_key rows) table
  indexes_whole table row here name index is of_table =
      let found = row_there (by_key rows (index_key name)) (seen_there (index_key name) (ap is_some told_index)) in
      found.1 ∙ (sym (within (index_key name) found.0 found.1) ∙ is)
    where
      told_index : row_at (view o h t.0) catalog_name (index_key name) ≡ Some (told_cells index)
      told_index = seen_indexes (own o h t.0) (base o h t.0) (database o h) base_is data_is with_is new_rows base_within
          (λ key. told_if_there (all key)) (told_of all lawful) told_all table (told_cells row)
          (told_there (table_key table) row here) name (told_cells index) (ap told_if_there is)
          (name_told all name index (index_lawful all lawful name index is) ∙ of_table)

  lawful_rows : IsCatalog (by_key rows)
  lawful_rows = part_lawful all (by_key rows) lawful within tables_whole columns_whole owners_whole indexes_whole

  pub each_lawful : (at : ℕ) → at < length rows → IsLawfulAt rows at
  each_lawful at below = lawful_rows (row_key (get_or rows at [])) (get_or rows at []) (first.1 ∙ ap Some same)
    where
      here : (rec : RecId) × IsAmong seen.records rec
          × IsRowSeen s.state s.live t pages cat rec (Some (get_or rows at []))
      here = record_at s.state s.live t pages cat seen.records rows seen.seen at below

      first : (row : Row) × (by_key rows (row_key (get_or rows at [])) ≡ Some row)
      first = key_found rows (row_key (get_or rows at [])) (key_at rows at below)

      same : first.0 ≡ get_or rows at []
      same = some_row first.0 (get_or rows at [])
          (sym (within (row_key (get_or rows at [])) first.0 first.1) ∙ in_all here.0 (get_or rows at []) here.1 here.2)

-- ---- the law

pub seen_rows_are_lawful : RowsOfReadings → RowsAtKeys → NothingAtKeys → NewestIsSeen → ChainsShowDatabase
    → ChainsGoOn → OwnRowsAreNew → BasesAreWithin → SeenRowsAreLawful
seen_rows_are_lawful rows_law rows_at nothing newest shows go_on own_new older size o h s pages knows t rows opening
    legal grows active base_is seen =
    each_lawful rows_law rows_at nothing newest shows go_on own_new older size o h s pages knows t rows opening legal
    grows active base_is seen
