-- The tables that the system's transaction sees named are those that committed rows of the catalog name, and where each of
-- them begins a table stands in the image.
use Rattle.std.proofs.Common.{◌≡◌, ◌≢◌, ◌⊎◌, ◌∙◌, ◌<◌, ◌≤◌, ◌+◌, ◌&&◌, ◌||◌, inl, inr, refl, sym, ap, subst, arith, get_or, length, max, nat_lt, not, eq-eqb, lt-ltb, ℕ, zero, suc, Bool, true, false, List, [], ◌∷◌, None, Option, Some}
use Rattle.std.specs.Prelude.{map}
use Rattle.std.proofs.Math.Path.{fun_ext}
use Rattle.std.proofs.lemmas.Bool.{cases_lt, ne_eqb}
use Rattle.mg_base.specs.declared.numbers.RecId.{RecId}
use Rattle.mg_base.specs.declared.transaction.TxState.{TxState}
use Rattle.mg_base.specs.declared.transaction.TxState.TheVariants.{Active, Committed, Dead, Limbo}
use Rattle.mg_value.specs.declared.value.Value.{Value}
use Rattle.mg_catalog.specs.ByKey.{HasKey, by_key, row_key}
use Rattle.mg_catalog.specs.FirstBad.{IsLawfulAt}
use Rattle.mg_catalog.specs.KeyLaws.{key_found}
use Rattle.mg_catalog.specs.TableLaws.{tables_once}
use Rattle.mg_chain.specs.Chains.{newest_link, takes_version}
use Rattle.mg_core_collecting.specs.Every.{AreNamed, system_base, the_system}
use Rattle.mg_engine_change_laws.specs.rows.OwnerLaws.{committed_only}
use Rattle.mg_engine_step_laws.specs.standing.Listed.{is_listed, page_listed}
use Rattle.mg_engine_step_laws.specs.tables.SeenRows.{IsRowOf, row_found}
use Rattle.mg_engine_step_laws.specs.tables.TablePages.{data_there, table_there}
use Rattle.mg_heap.specs.TableLaws.{table_once}
use Rattle.mg_image.specs.Catalog.{CatalogNames, StaysAmong, committed_with}
use Rattle.mg_image.specs.Form.{Pages, Row, packed_form}
use Rattle.mg_image.specs.Held.{Shows}
use Rattle.mg_image.specs.RecordRules.{Facts, committed_in, table_in}
use Rattle.mg_image.specs.Records.{Chain, Reading, cells_of, key_of, shown as shown_row}
use Rattle.mg_image.specs.Sound.{IsSoundBy, facts_by}
use Rattle.mg_image.specs.Tables.{Layout}
use Rattle.mg_image.specs.declared.entry.Entry.{Entry}
use Rattle.mg_image_opening_laws.specs.Catalogs.{rows_once}
use Rattle.mg_image_overlay_laws.specs.tables.Growing.{IsTableOf}
use Rattle.mg_image_overlay_laws.specs.tables.OneTable.{stands_in}
use Rattle.mg_image_overlay_laws.specs.tables.TableOwners.{IsOneOf, one_each}
use Rattle.mg_model.specs.Answers.{is_committed}
use Rattle.mg_model.specs.Catalog.{CatalogRows}
use Rattle.mg_model.specs.CatalogRules.{AreTables, IsCatalogRow}
use Rattle.mg_model.specs.Openings.{everyone}
use Rattle.mg_model.specs.declared.table.Table.{Table}
use Rattle.mg_overlay_laws.specs.Overlays.{left_by, left_state}
use Rattle.mg_seek.specs.Readings.{RowsOfReadings}
use Rattle.mg_seek.specs.TableRecords.{IsAmong, records_in}
use Rattle.mg_seek.specs.TableRows.{AreRowsSeen, AreSeen, with_row}
use Rattle.mg_seek.specs.Views.{IsRowSeen}
use Rattle.mg_snap.specs.Live.{State, is_among, sees}

-- ---- who is seen

-- the system's transaction takes the versions of each committed one, which are below the next number
module _ (state : ℕ → TxState) (next : ℕ) (system : state 0 ≡ Committed)
    (past : (u : ℕ) → next ≤ u → is_committed (state u) ≡ false) where
  takes_later : (u : ℕ) → u ≢ 0 → takes_version state (system_base next) 0 u ≡ is_committed (state u)
  takes_later u other = ap (λ (b : Bool). b || (is_committed (state u) && sees (system_base next) 0 u)) (ne_eqb u 0 other)
      ∙ at (cases_lt u next)
    where
      unlisted : is_among (0 ∷ []) u ≡ false
      unlisted = ap (λ (b : Bool). b || false) (ne_eqb 0 u (λ same. other (sym same)))

      kept : (b c d : Bool) → c ≡ true → d ≡ false → (b && (c && not d)) ≡ b
      kept true c d is off = ap (λ (x : Bool). x && not d) is ∙ ap (λ (x : Bool). not x) off
      kept false c d is off = refl

      gone : (b c : Bool) → b ≡ false → (b && c) ≡ b
      gone true c is = absurd cc
      gone false c is = refl

      at : (u < next) ⊎ (next ≤ u) → (is_committed (state u) && sees (system_base next) 0 u) ≡ is_committed (state u)
      at (inl below) = kept (is_committed (state u)) (nat_lt u (max next (0 + 1))) (is_among (0 ∷ []) u)
          (lt-ltb u (max next (0 + 1)) (omega (arith, below))) unlisted
      at (inr above) = gone (is_committed (state u)) (sees (system_base next) 0 u) (past u above)

  pub takes_committed : (u : ℕ) → takes_version state (system_base next) 0 u ≡ is_committed (state u)
  takes_committed zero = ap (λ (b : Bool). b || (is_committed (state 0) && sees (system_base next) 0 0)) (eq-eqb 0 0 refl)
      ∙ sym (ap is_committed system)
  takes_committed (suc n) = takes_later (suc n) (λ same. absurd (omega (arith, same)))

left_same : (x : TxState) → is_committed (left_by true x) ≡ is_committed x
left_same Active = refl
left_same Limbo = refl
left_same Dead = refl
left_same Committed = refl

-- ---- rows that are seen of records

module _ (state : ℕ → TxState) (live : State) (pages : Pages) (cat : Table) where
  -- of a record something is seen; a row of it is one of the rows
  seen_of : (recs : List RecId) (rows : List Row) (rec : RecId) → AreSeen state live the_system pages cat recs rows
      → IsAmong recs rec → (found : Option Row) × IsRowSeen state live the_system pages cat rec found
      × ((row : Row) → found ≡ Some row → HasKey rows (row_key row))
  seen_of [] rows rec seen among = absurd among
  seen_of (first ∷ recs) rows rec (found, later, here, rest, are) (inl same) = (
    found,
    subst (λ (x : RecId). IsRowSeen state live the_system pages cat x found) same here,
    λ row is. subst (λ (xs : List Row). HasKey xs (row_key row))
        (sym (are ∙ ap (λ (x : Option Row). with_row x later) is)) (inl refl),
  )
  seen_of (first ∷ recs) rows rec (found, later, here, rest, are) (inr more) =
      let its = seen_of recs later rec rest more in (
        its.0,
        its.1,
        λ row is. subst (λ (xs : List Row). HasKey xs (row_key row)) (sym are)
            (behind found (row_key row) (its.2 row is)),
      )
    where
      behind : (x : Option Row) (key : Value) → HasKey later key → HasKey (with_row x later) key
      behind None key has = has
      behind (Some row) key has = inr has

  -- the row at a place is seen of a record
  row_at_place : (recs : List RecId) (rows : List Row) → AreSeen state live the_system pages cat recs rows → (at : ℕ)
      → at < length rows → (rec : RecId) × IsAmong recs rec
      × IsRowSeen state live the_system pages cat rec (Some (get_or rows at []))
  row_at_place [] rows seen at below =
      let none : length rows ≡ 0 = ap length seen in absurd (omega (arith, below, none))
  row_at_place (rec ∷ recs) rows (found, later, here, rest, are) at below =
      subst (λ (xs : List Row). (x : RecId) × IsAmong (rec ∷ recs) x
      × IsRowSeen state live the_system pages cat x (Some (get_or xs at []))) (sym are)
      (by found here at (subst (λ (xs : List Row). at < length xs) are below)
      (λ n less. row_at_place recs later rest n less))
    where
      further : (n : ℕ) → (x : RecId) × IsAmong recs x
          × IsRowSeen state live the_system pages cat x (Some (get_or later n []))
          → (x : RecId) × IsAmong (rec ∷ recs) x
          × IsRowSeen state live the_system pages cat x (Some (get_or later n []))
      further n (x, among, seen) = (x, inr among, seen)

      by : (x : Option Row) → IsRowSeen state live the_system pages cat rec x → (n : ℕ)
          → n < length (with_row x later)
          → ((k : ℕ) → k < length later → (y : RecId) × IsAmong recs y
          × IsRowSeen state live the_system pages cat y (Some (get_or later k [])))
          → (y : RecId) × IsAmong (rec ∷ recs) y
          × IsRowSeen state live the_system pages cat y (Some (get_or (with_row x later) n []))
      by None seen n less more = further n (more n less)
      by (Some row) seen zero less more = (rec, inl refl, seen)
      by (Some row) seen (suc n) less more = further n (more n (omega (arith, less)))

-- ---- the tables

module _ (rows_law : RowsOfReadings) (size : ℕ) (state : ℕ → TxState) (pages : Pages) (layout : Layout) (r : Reading)
    (sound : IsSoundBy packed_form size (left_state everyone state) pages layout r) where
  abbrev f : Facts
  f = facts_by (left_state everyone state) pages layout

  abbrev cat : Table
  cat = layout.catalog.table

  there : IsTableOf layout layout.catalog.table
  there = stands_in layout layout.catalog.table (inl refl)

  -- the tables that committed rows name
  pub committed_names : CatalogNames size (facts_by (left_state everyone state) pages layout)
      (committed_in (facts_by (left_state everyone state) pages layout)) r layout.catalog.table
      (sound.names.named (λ u. false))
  committed_names = subst (λ (c : ℕ → Bool). CatalogNames size f c r cat (sound.names.named (λ u. false)))
      (fun_ext (committed_only f)) (sound.names.lawful (λ u. false))

  all_named : sound.names.named (λ u. true) ≡ map (λ stand. stand.table) layout.tables
  all_named = tables_once (sound.names.lawful (λ u. true)).rows (sound.names.named (λ u. true))
      (map (λ stand. stand.table) layout.tables) (sound.names.lawful (λ u. true)).are_tables
      (subst (λ (rows : CatalogRows). AreTables rows (map (λ stand. stand.table) layout.tables))
      (fun_ext (λ key. rows_once f (committed_with f (λ u. true)) r cat sound.names.all.rows
      (sound.names.lawful (λ u. true)).rows sound.names.all.are_rows (sound.names.lawful (λ u. true)).are_rows key))
      sound.names.all.are_tables)

  among_same : (tables : List Table) (table : Table) → StaysAmong tables table
      → (its : Table) × IsOneOf tables its × (its.name ≡ table.name) × (its.pointer ≡ table.pointer)
  among_same [] table none = absurd none
  among_same (other ∷ tables) table (inl same) = (other, inl refl, same.name, same.pointer)
  among_same (other ∷ tables) table (inr more) =
      let it = among_same tables table more in (it.0, inr it.1, it.2, it.3)

  -- where a table begins that committed rows name one stands
  pub named_stands : (table : Table) → IsOneOf (sound.names.named (λ u. false)) table
      → (its : Table) × IsOneOf (map (λ stand. stand.table) layout.tables) its × (its.name ≡ table.name)
      × (its.pointer ≡ table.pointer)
  named_stands table one = among_same (map (λ stand. stand.table) layout.tables) table
      (subst (λ (ts : List Table). StaysAmong ts table) all_named
      (one_each (StaysAmong (sound.names.named (λ u. true))) (sound.names.named (λ u. false)) table
      (sound.names.stay (λ u. false) (λ u. true) (λ u is. refl)) one))

  -- ---- the rows that are seen

  module _ (next : ℕ) (system : state 0 ≡ Committed)
      (past : (u : ℕ) → next ≤ u → is_committed (state u) ≡ false) (given : List Row)
      (given_seen : AreRowsSeen state (system_base next) the_system pages layout.catalog.table given) where
    abbrev rows : CatalogRows
    rows = committed_names.rows

    counts_same : takes_version state (system_base next) 0 ≡ committed_in f
    counts_same = fun_ext (λ u. takes_committed state next system past u ∙ sym (left_same (state u)))

    records_are : given_seen.records ≡ records_in pages there.stand.data_pages
    records_are = given_seen.of_table.are ∙ ap (records_in pages) (table_once pages layout.catalog.table.pointer.0
        given_seen.of_table.pointers given_seen.of_table.data_pages there.stand.pointers there.stand.data_pages
        given_seen.of_table.table (table_there size (left_state everyone state) pages layout r sound
        layout.catalog.table there))

    of_cat : (rec : RecId) → IsAmong given_seen.records rec
        → table_in (facts_by (left_state everyone state) pages layout) rec ≡ Some layout.catalog.table
    of_cat rec among = (data_there size (left_state everyone state) pages layout r sound layout.catalog.table there
        rec.page.0).1 (page_listed pages there.stand.data_pages rec
        (subst (λ (xs : List RecId). IsAmong xs rec) records_are among))

    shown_is : (rec : RecId) (row : Option Row) → table_in f rec ≡ Some cat
        → IsRowSeen state (system_base next) the_system pages layout.catalog.table rec row
        → row ≡ shown_row (committed_in f) (r rec)
    shown_is rec row of seen = rows_law state (system_base next) the_system pages layout.catalog.table rec row f r
        (record { lawful = sound.records; of_table = of }) seen
        ∙ ap (λ (c : ℕ → Bool). shown_row c (r rec)) counts_same

    key_is : (row : Row) → key_of layout.catalog.table row ≡ row_key row
    key_is row = ap (λ (x : Table). key_of x row) sound.catalog

    -- each row that is seen is a committed one
    in_rows : (key : Value) (row : Row) → by_key given key ≡ Some row → rows key ≡ Some row
    in_rows key row is = subst (λ (k : Value). rows k ≡ Some row) (key_is row ∙ its.keyed)
        (committed_names.are_rows.there its.rec row (record {
          of_table = of_cat its.rec its.among;
          row_shown = sym (shown_is its.rec (Some row) (of_cat its.rec its.among) its.seen);
        }))
      where
        its : IsRowOf state (system_base next) the_system pages layout.catalog.table given_seen.records key row
        its = row_found state (system_base next) the_system pages layout.catalog.table given_seen.records given
            key row given_seen.seen is

    -- and each committed one is seen
    has_key : (key : Value) (row : Row) → rows key ≡ Some row → HasKey given key
    has_key key row is = subst (HasKey given) (sym (key_is row) ∙ whole.2)
        (seen.2 row (shown_is whole.0 seen.0 whole.1.of_table seen.1 ∙ whole.1.row_shown))
      where
        whole : (p : RecId) × Shows f (committed_in f) r p cat row × (key_of cat row ≡ key)
        whole = committed_names.are_rows.whole key row is

        among : IsAmong given_seen.records whole.0
        among = by (r whole.0) refl
          where
            none : {A : Type 0} → None ≡ Some row → A
            none is_ = absurd cc

            by : (es : List Entry) → r whole.0 ≡ es → IsAmong given_seen.records whole.0
            by [] are = none (ap (shown_row (committed_in f)) (sym are) ∙ whole.1.row_shown)
            by (e ∷ es) are = subst (λ (xs : List RecId). IsAmong xs whole.0) (sym records_are)
                (is_listed pages there.stand.data_pages whole.0 e es
                ((data_there size (left_state everyone state) pages layout r sound layout.catalog.table there
                whole.0.page.0).0 whole.1.of_table)
                (subst (Chain (cells_of pages) (newest_link pages whole.0)) are
                (sound.records.reads whole.0 layout.catalog.table whole.1.of_table)))

        seen : (got : Option Row) × IsRowSeen state (system_base next) the_system pages layout.catalog.table whole.0 got
            × ((a : Row) → got ≡ Some a → HasKey given (row_key a))
        seen = seen_of state (system_base next) pages layout.catalog.table given_seen.records given whole.0
            given_seen.seen among

    pub same_rows : (key : Value) → by_key given key ≡ committed_names.rows key
    same_rows key = by (by_key given key) refl (rows key) refl
      where
        by : (a : Option Row) → by_key given key ≡ a → (b : Option Row) → rows key ≡ b
            → by_key given key ≡ rows key
        by (Some row) is b other = is ∙ sym (in_rows key row is)
        by None is None other = is ∙ sym other
        by None is (Some row) other = let it = key_found given key (has_key key row other) in
            absurd (none it.0 (sym is ∙ it.1))
          where
            none : (got : Row) → None ≡ Some got → ⊥
            none got same = absurd cc

    -- so each of them is lawful
    pub each_lawful : (at : ℕ) → at < length given → IsLawfulAt given at
    each_lawful at below = subst (λ (rs : CatalogRows). IsCatalogRow rs (row_key (get_or given at []))
        (get_or given at [])) (sym (fun_ext same_rows)) (committed_names.are_tables.lawful
        (row_key (get_or given at [])) (get_or given at [])
        (subst (λ (k : Value). rows k ≡ Some (get_or given at [])) (key_is (get_or given at []))
        (committed_names.are_rows.there here.0 (get_or given at []) (record {
          of_table = of_cat here.0 here.1;
          row_shown = sym (shown_is here.0 (Some (get_or given at [])) (of_cat here.0 here.1) here.2);
        }))))
      where
        here : (rec : RecId) × IsAmong given_seen.records rec
            × IsRowSeen state (system_base next) the_system pages layout.catalog.table rec (Some (get_or given at []))
        here = row_at_place state (system_base next) pages layout.catalog.table given_seen.records given given_seen.seen
            at below

  -- the tables that are found are those that committed rows name
  pub found_are : (next : ℕ) (system : state 0 ≡ Committed)
      (past : (u : ℕ) → next ≤ u → is_committed (state u) ≡ false) (tables : List Table)
      → AreNamed state (system_base next) pages layout.catalog.table tables → tables ≡ sound.names.named (λ u. false)
  found_are next system past tables found = tables_once committed_names.rows tables (sound.names.named (λ u. false))
      (subst (λ (rs : CatalogRows). AreTables rs tables) (fun_ext (same_rows next system past found.rows found.seen))
      found.names) committed_names.are_tables
