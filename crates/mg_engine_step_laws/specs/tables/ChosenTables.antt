-- Rows of the catalog are only made. So whichever transactions that have not ended come to be committed, a row that the
-- catalog then shows it shows with all of them, and a table that it then names is one of the layout's.
use Rattle.std.proofs.Common.{◌≡◌, ◌||◌, ◌&&◌, inl, inr, refl, sym, ap, ◌∙◌, subst, ℕ, Bool, true, false, List, [], ◌∷◌, Option, None, Some}
use Rattle.std.specs.Prelude.{if◌then◌else◌, map}
use Rattle.std.proofs.Math.Path.{fun_ext}
use Rattle.std.proofs.lemmas.Bool.{eq-eqb, eqb-true, false≢true}
use Rattle.mg_base.specs.declared.numbers.RecId.{RecId}
use Rattle.mg_base.specs.declared.transaction.TxState.{TxState}
use Rattle.mg_base.specs.declared.transaction.TxState.TheVariants.{Active, Committed, Dead, Limbo}
use Rattle.mg_value.specs.declared.value.Value.{Value}
use Rattle.mg_model.specs.declared.opening.Opening.{Opening}
use Rattle.mg_model.specs.declared.table.Table.{Table}
use Rattle.mg_model.specs.Answers.{is_committed, is_open}
use Rattle.mg_model.specs.Catalog.{CatalogRows, catalog_name, index_key, table_key, told_cells, told_if_there}
use Rattle.mg_model.specs.CatalogRules.{AreTables, IsTable}
use Rattle.mg_model.specs.Changes.{Cells, has_change, row_at}
use Rattle.mg_model.specs.History.{Entries}
use Rattle.mg_model.specs.Legal.{IsLegal, MayBegin, is_limbo}
use Rattle.mg_model.specs.Machine.{database, own, state_of}
use Rattle.mg_catalog.specs.LawfulLaws.{index_lawful}
use Rattle.mg_catalog.specs.TableLaws.{tables_once}
use Rattle.mg_generation_laws.specs.GarbageLaws.{BeginAlike, begin_alike, begins_so, both_empty, erased_all}
use Rattle.mg_generation_laws.specs.Generations.{Generation, is_newest_by}
use Rattle.mg_generation_laws.specs.Kept.{IsErasedForAll, StandFor}
use Rattle.mg_generation_laws.specs.Laws.{ChainsShowDatabase}
use Rattle.mg_image.specs.declared.entry.Entry.{Entry}
use Rattle.mg_image.specs.Catalog.{CatalogNames, StaysAmong, committed_with}
use Rattle.mg_image.specs.Form.{Pages, Row}
use Rattle.mg_image.specs.RecordRules.{Each, EachBack, Facts, table_in}
use Rattle.mg_image.specs.Records.{Reading, key_of, record_key, shown, writer}
use Rattle.mg_image_opening_laws.specs.Catalogs.{rows_once}
use Rattle.mg_image_overlay_laws.specs.records.Fronts.{is_dead}
use Rattle.mg_image_overlay_laws.specs.tables.OneTable.{stands_in}
use Rattle.mg_image_overlay_laws.specs.tables.TableOwners.{IsOneOf, one_each}
use Rattle.mg_overlay_laws.specs.Overlays.{left_by}
use Rattle.mg_grown_catalog_laws.specs.Grown.{CatalogGrows, OwnRowsAreNew}
use Rattle.mg_seek.specs.Histories.{told_all, told_versions}
use Rattle.mg_engine_step_laws.specs.tables.FoundLaws.{first_shown}
use Rattle.mg_engine_step_laws.specs.reads.KeyAnswers.{has_speaker}
use Rattle.mg_engine_step_laws.specs.standing.Known.{KnowsPages, facts_shown}
use Rattle.mg_engine_step_laws.specs.tables.NamedTables.{one_among, rows_told}
use Rattle.mg_engine_step_laws.specs.tables.SeenTables.{tells_database}
use Rattle.mg_engine_step_laws.specs.standing.Standing.{Standing}
use Rattle.mg_engine_step_laws.specs.reads.TableAnswers.{shown_key}
use Rattle.mg_engine_step_laws.specs.standing.Versions.{SpeaksOrSilent}
use Rattle.mg_engine_step_laws.specs.tables_back.WholeIndexes.{HasIndexRows, indexes_whole, name_told, same_table, told_of}

-- ---- definitions

-- whichever transactions come to be committed, each table that the catalog then names is one of the layout's, with all
-- its indexes
abbrev pub ChosenTablesStand : Type 0
ChosenTablesStand = (size : ℕ) (o : Opening) (h : Entries) (s : Standing) (pages : Pages)
    (knows : KnowsPages size o h s pages) (chosen : ℕ → Bool) (x : Table) → MayBegin o → IsLegal o h → CatalogGrows o h
    → IsOneOf (knows.shows.sound.names.named chosen) x
    → IsOneOf (map (λ stand. stand.table) knows.shows.layout.tables) x

-- ---- the newest version of a key

-- a version that is erased for all is of nobody who has not ended
pub not_open : (o : Opening) (h : Entries) (u : ℕ) (gs : List Generation) → is_open (state_of o h u) ≡ true
    → IsErasedForAll o h gs → is_newest_by u gs ≡ true → ⊥
not_open o h u [] open_ gone newest = gone
not_open o h u (g ∷ gs) open_ gone newest =
    let same : g.writer ≡ u = eqb-true g.writer u newest in
    let committed : state_of o h u ≡ Committed = ap (state_of o h) (sym same) ∙ gone.0.committed in
    false≢true (sym (ap is_open committed) ∙ open_)

-- who has not ended and has written the newest has changed the key
pub newest_changed : (o : Opening) (h : Entries) (name : List ℕ) (key : Value) (chain : List Generation) (u : ℕ)
    → is_open (state_of o h u) ≡ true → StandFor o h name key chain → is_newest_by u chain ≡ true
    → has_change (own o h u) name key ≡ true
newest_changed o h name key chain u open_ stand newest =
    stand.are.open_ u open_ ∙ at (begin_alike o h stand.all chain stand.thinned)
  where
    none_newest : chain ≡ [] → ⊥
    none_newest is = let both : true ≡ false = sym newest ∙ ap (is_newest_by u) is in absurd cc

    at : BeginAlike o h stand.all chain → is_newest_by u stand.all ≡ true
    at (begins_so g gs cs all_is chain_is) = ap (is_newest_by u) all_is ∙ (sym (ap (is_newest_by u) chain_is) ∙ newest)
    at (both_empty all_is chain_is) = absurd (none_newest chain_is)
    at (erased_all gone chain_is) = absurd (none_newest chain_is)

-- ---- who counts

counts_by : (f : Facts) (who : ℕ → Bool) (u : ℕ) (x : TxState) → f.state u ≡ x
    → committed_with f who u ≡ (is_committed x || (is_limbo x && who u))
counts_by f who u x is = ap (λ (y : TxState). is_committed y || (is_limbo y && who u)) is

-- of versions that are all committed the same row is shown, whoever is chosen
shown_alike : (f : Facts) (who other : ℕ → Bool) (es : List Entry) → Each (λ e. f.state (writer e) ≡ Committed) es
    → shown (committed_with f who) es ≡ shown (committed_with f other) es
shown_alike f who other [] each = refl
shown_alike f who other (e ∷ es) each =
    let here : committed_with f who (writer e) ≡ true = counts_by f who (writer e) Committed each.0 in
    let there : committed_with f other (writer e) ≡ true = counts_by f other (writer e) Committed each.0 in
    rw (here, there) refl

-- one that does not count shows what stands behind it
behind : (counts : ℕ → Bool) (e : Entry) (es : List Entry) → counts (writer e) ≡ false
    → shown counts (e ∷ es) ≡ shown counts es
behind counts e es off = rw off refl

module _ (shows_law : ChainsShowDatabase) (own_new : OwnRowsAreNew) (size : ℕ) (o : Opening) (h : Entries) (s : Standing)
    (pages : Pages) (knows : KnowsPages size o h s pages) (chosen : ℕ → Bool) (opening : MayBegin o) (legal : IsLegal o h)
    (grows : CatalogGrows o h) where
  abbrev f : Facts
  f = facts_shown size o h s pages knows

  abbrev r : Reading
  r = knows.shows.reading

  abbrev cat : Table
  cat = knows.shows.layout.catalog.table

  named : cat.name ≡ catalog_name
  named = ap (λ (x : Table). x.name) knows.shows.sound.catalog

  abbrev counts : ℕ → Bool
  counts = committed_with f chosen

  abbrev all : ℕ → Bool
  all = committed_with f (λ u. true)

  abbrev nobody : ℕ → Bool
  nobody = committed_with f (λ u. false)

  -- ---- no row stands over a committed one

  module _ (p : RecId) (row : Row) (e : Entry) (es : List Entry) (of : table_in f p ≡ Some cat) (are : r p ≡ e ∷ es)
      (limbo : f.state (writer e) ≡ Limbo) (over : shown nobody es ≡ Some row) where
    abbrev w : ℕ
    w = writer e

    is_open_then : is_open (state_of o h (writer e)) ≡ true
    is_open_then = ap is_open (sym (knows.memory.state (writer e))) ∙ at (s.state (writer e)) limbo
      where
        at : (x : TxState) → left_by true x ≡ Limbo → is_open x ≡ true
        at Active same = refl
        at Limbo same = refl
        at Dead same = absurd cc
        at Committed same = absurd cc

    shown_then : shown nobody (r p) ≡ Some row
    shown_then = ap (shown nobody) are ∙ (behind nobody e es (counts_by f (λ u. false) (writer e) Limbo limbo) ∙ over)

    -- the database has the row
    in_database : row_at (database o h) catalog_name (key_of cat row) ≡ Some (told_cells row)
    in_database = rows_told size o h s pages knows (λ u. false) (database o h)
        (tells_database size o h s pages knows shows_law) (key_of cat row)
        ∙ ap told_if_there ((knows.shows.sound.names.lawful (λ u. false)).are_rows.there p row
        (record { of_table = of; row_shown = shown_then }))

    key_is : record_key cat (r p) ≡ key_of cat row
    key_is = sym (shown_key f nobody cat (record_key cat (r p)) (r p) row (knows.shows.sound.records.each p cat of).each
        shown_then)

    newest : is_newest_by (writer e) (told_versions f.state cat (r p)) ≡ true
    newest = ap (λ (xs : List Entry). is_newest_by (writer e) (told_versions f.state cat xs)) are
        ∙ (ap (λ (d : Bool). is_newest_by (writer e) (told_all cat (if d then es else e ∷ es))) (ap is_dead limbo)
        ∙ eq-eqb (writer e) (writer e) refl)

    -- so who has written over it would have changed a committed row
    never : SpeaksOrSilent o h f r knows.shows.versions.speaker p cat → ⊥
    never (inl empty) = false≢true (sym (ap (is_newest_by (writer e)) empty) ∙ newest)
    never (inr (inl gone)) = not_open o h (writer e) (told_versions f.state cat (r p)) is_open_then gone newest
    never (inr (inr speaks)) =
        let stand : StandFor o h cat.name (record_key cat (r p)) (told_versions f.state cat (r p)) =
        ((has_speaker size o h s pages knows cat (stands_in knows.shows.layout cat (inl refl))
        (record_key cat (r p))).some p speaks).2 in
        let changed : has_change (own o h (writer e)) cat.name (record_key cat (r p)) ≡ true = newest_changed o h cat.name
        (record_key cat (r p)) (told_versions f.state cat (r p)) (writer e) is_open_then stand newest in
        let there : has_change (own o h (writer e)) catalog_name (key_of cat row) ≡ true =
        subst (λ (k : Value). has_change (own o h (writer e)) catalog_name k ≡ true) key_is
        (subst (λ (n : List ℕ). has_change (own o h (writer e)) n (record_key cat (r p)) ≡ true) named changed) in
        let both : None ≡ Some (told_cells row) = sym (own_new o h (writer e) (key_of cat row) opening legal grows
        is_open_then there).1 ∙ in_database in absurd cc

  -- ---- what is shown is shown with all

  shown_with_all : (p : RecId) (row : Row) → table_in f p ≡ Some cat → shown counts (r p) ≡ Some row
      → shown all (r p) ≡ Some row
  shown_with_all p row of is = at (r p) refl (knows.shows.sound.records.each p cat of).backs is
    where
      at : (es : List Entry) → r p ≡ es → EachBack (λ e. f.state (writer e) ≡ Committed) es → shown counts es ≡ Some row
          → shown all (r p) ≡ Some row
      at [] are backs some = absurd cc
      at (e ∷ es) are backs some = ap (shown all) are ∙ by (f.state (writer e)) refl
        where
          off : (x : TxState) → f.state (writer e) ≡ x → (is_committed x || (is_limbo x && chosen (writer e))) ≡ false
              → shown nobody es ≡ Some row
          off x state none = shown_alike f (λ u. false) chosen es backs
              ∙ (sym (behind counts e es (counts_by f chosen (writer e) x state ∙ none)) ∙ some)

          on : (x : TxState) → f.state (writer e) ≡ x → (is_committed x || (is_limbo x && chosen (writer e))) ≡ true
              → (is_committed x || (is_limbo x && true)) ≡ true → shown all (e ∷ es) ≡ Some row
          on x state here there = first_shown counts e es row (counts_by f chosen (writer e) x state ∙ here) some all
              (counts_by f (λ u. true) (writer e) x state ∙ there)

          gone : (x : TxState) → f.state (writer e) ≡ x → (is_committed x || (is_limbo x && chosen (writer e))) ≡ false
              → (is_committed x || (is_limbo x && true)) ≡ false → shown all (e ∷ es) ≡ Some row
          gone x state here there = behind all e es (counts_by f (λ u. true) (writer e) x state ∙ there)
              ∙ (shown_alike f (λ u. true) (λ u. false) es backs ∙ off x state here)

          chosen_or_not : (b : Bool) → chosen (writer e) ≡ b → f.state (writer e) ≡ Limbo → shown all (e ∷ es) ≡ Some row
          chosen_or_not true yes_ state = on Limbo state yes_ refl
          chosen_or_not false no_ state = absurd (never p row e es of are state (off Limbo state no_)
              (knows.shows.versions.others p cat of))

          by : (x : TxState) → f.state (writer e) ≡ x → shown all (e ∷ es) ≡ Some row
          by Committed state = on Committed state refl refl
          by Active state = gone Active state refl refl
          by Dead state = gone Dead state refl refl
          by Limbo state = chosen_or_not (chosen (writer e)) refl state

  -- ---- rows of the catalog

  abbrev some_names : CatalogNames size f counts r cat (knows.shows.sound.names.named chosen)
  some_names = knows.shows.sound.names.lawful chosen

  abbrev part : CatalogRows
  part = some_names.rows

  abbrev whole : CatalogRows
  whole = knows.shows.sound.names.all.rows

  within : (key : Value) (row : Cells) → part key ≡ Some row → whole key ≡ Some row
  within key row is =
      let (p, shows, keyed) = some_names.are_rows.whole key row is in
      ap whole (sym keyed) ∙ knows.shows.sound.names.all.are_rows.there p row (record {
        of_table = shows.of_table;
        row_shown = shown_with_all p row shows.of_table shows.row_shown;
      })

  told_within : (table : List ℕ) → HasIndexRows (λ key. told_if_there (part key)) (λ key. told_if_there (whole key)) table
  told_within table name row is of_table = at (part (index_key name)) refl
    where
      at : (x : Option Cells) → part (index_key name) ≡ x → told_if_there (whole (index_key name)) ≡ Some row
      at None none = let both : None ≡ Some row = sym (ap told_if_there none) ∙ is in absurd cc
      at (Some stored) some = ap told_if_there (within (index_key name) stored some) ∙ (sym (ap told_if_there some) ∙ is)

  -- a table that they name has all its indexes there
  indexes_there : (x : Table) → IsTable part x → HasIndexRows whole part x.name
  indexes_there x its name row is of_table = at (part (index_key name)) refl
    where
      told : told_if_there (part (index_key name)) ≡ Some (told_cells row)
      told = indexes_whole (λ key. told_if_there (part key)) (λ key. told_if_there (whole key))
          (told_of part some_names.are_tables.lawful) (told_of whole knows.shows.sound.names.all.are_tables.lawful) x.name
          (told_cells its.row) (ap told_if_there its.there)
          (ap told_if_there (within (table_key x.name) its.row its.there)) (told_within x.name) name (told_cells row)
          (ap told_if_there is) (name_told whole name row
          (index_lawful whole knows.shows.sound.names.all.are_tables.lawful name row is) ∙ of_table)

      at : (y : Option Cells) → part (index_key name) ≡ y → part (index_key name) ≡ Some row
      at None none = let both : None ≡ Some (told_cells row) = sym (ap told_if_there none) ∙ told in absurd cc
      at (Some stored) some = some ∙ (sym (within (index_key name) stored some) ∙ is)

  -- ---- tables

  all_tables : knows.shows.sound.names.named (λ u. true) ≡ map (λ stand. stand.table) knows.shows.layout.tables
  all_tables = tables_once (knows.shows.sound.names.lawful (λ u. true)).rows
      (knows.shows.sound.names.named (λ u. true)) (map (λ stand. stand.table) knows.shows.layout.tables)
      (knows.shows.sound.names.lawful (λ u. true)).are_tables
      (subst (λ (rows : CatalogRows). AreTables rows (map (λ stand. stand.table) knows.shows.layout.tables))
      (fun_ext (λ key. rows_once f (committed_with f (λ u. true)) r cat knows.shows.sound.names.all.rows
      (knows.shows.sound.names.lawful (λ u. true)).rows knows.shows.sound.names.all.are_rows
      (knows.shows.sound.names.lawful (λ u. true)).are_rows key)) knows.shows.sound.names.all.are_tables)

  pub chosen_stands : (x : Table) → IsOneOf (knows.shows.sound.names.named chosen) x
      → IsOneOf (map (λ stand. stand.table) knows.shows.layout.tables) x
  chosen_stands x one =
      let its : IsTable part x = one_each (IsTable part) (knows.shows.sound.names.named chosen) x
      some_names.are_tables.each one in
      let (y, there, same) = one_among (map (λ stand. stand.table) knows.shows.layout.tables) x
      (subst (λ (ts : List Table). StaysAmong ts x) all_tables
      (one_each (StaysAmong (knows.shows.sound.names.named (λ u. true))) (knows.shows.sound.names.named chosen) x
      (knows.shows.sound.names.stay chosen (λ u. true) (λ u is. refl)) one)) in
      subst (IsOneOf (map (λ stand. stand.table) knows.shows.layout.tables)) (same_table part whole within x y its
      (one_each (IsTable whole) (map (λ stand. stand.table) knows.shows.layout.tables) y
      knows.shows.sound.names.all.are_tables.each there) same.name same.shape (indexes_there x its)) there

-- ---- the law

pub chosen_tables_stand : ChainsShowDatabase → OwnRowsAreNew → ChosenTablesStand
chosen_tables_stand shows_law own_new size o h s pages knows chosen x opening legal grows one =
    chosen_stands shows_law own_new size o h s pages knows chosen opening legal grows x one
