-- What a history may begin with, of a sound image.
use Rattle.std.proofs.Common.{◌≡◌, ◌≢◌, ◌⊎◌, inl, inr, ap, sym, subst, ◌∙◌, refl, arith, ◌+◌, ◌-◌, ◌==◌, ◌<◌, ◌≤◌, ℕ, zero, suc, Bool, true, false, List, [], ◌∷◌, Option, None, Some, length, map, cond, get_or, le-ltb, lt-ltb}
use Rattle.std.proofs.Math.Path.{fun_ext}
use Rattle.std.proofs.lemmas.Bool.{cases_eq, cases_lt, ne_eqb}
use Rattle.std.specs.Prelude.{IsSome, if◌then◌else◌, max, min, nat_lt, pos, set, slice_index_or}
use Rattle.std.specs.Str.{bytes_eq}
use Rattle.mg_base.specs.Checks.{PassesAll, common_checks}
use Rattle.std.specs.Cmp.Lexicographic.{same_text}
use Rattle.mg_base.specs.Fields.{byte, u32_at}
use Rattle.mg_base.specs.declared.numbers.RecId.{RecId}
use Rattle.mg_base.specs.declared.transaction.TxState.{TxState}
use Rattle.mg_base.specs.declared.transaction.TxState.TheVariants.{Active, Committed, Dead, Limbo}
use Rattle.mg_header.specs.HeaderPage.{marker_checks, page_checks}
use Rattle.mg_value.specs.declared.shape.Shape.{Shape}
use Rattle.mg_value.specs.Values.{bytes_of}
use Rattle.mg_value.specs.declared.value.Value.{Value}
use Rattle.mg_value.specs.declared.value.Value.TheVariants.{Int, Null}
use Rattle.mg_model.specs.Catalog.{CatalogRows, catalog_name, catalog_shape, key_by, key_in, shape_in, told_if_there}
use Rattle.mg_model.specs.Catalog as model
use Rattle.mg_model.specs.Changes.{row_at}
use Rattle.mg_model.specs.Machine.{catalog_changes, opening_rows, opening_state}
use Rattle.mg_model.specs.Openings.{Each, FitsTable, FitsUnder, HaveOwnKeys, IsOpening, IsToldCatalog, catalog_with, everyone, opening_catalog}
use Rattle.mg_model.specs.declared.change.Change.{Change as AnyChange}
use Rattle.mg_model.specs.declared.opening.LimboChange.{LimboChange}
use Rattle.mg_model.specs.declared.opening.Opening.{Opening}
use Rattle.mg_model.specs.declared.opening.TheConstants.{MOST_TRANSACTIONS}
use Rattle.mg_model.specs.declared.table.Table.{Table}
use Rattle.mg_image.specs.declared.entry.Entry.{Entry}
use Rattle.mg_image.specs.Form.{Form, Pages, Row}
use Rattle.mg_image.specs.Held.{Database, told_row}
use Rattle.mg_image.specs.Histories.{Begins, newest_at}
use Rattle.mg_image.specs.Inventory.{bits_state, next_of, settled, state_at}
use Rattle.mg_image.specs.Opening.{IsOpened, Opened}
use Rattle.mg_image.specs.RecordRules.{Facts, IsVersion, committed_in, table_in}
use Rattle.mg_image.specs.RecordRules as records
use Rattle.mg_image.specs.Records.{Reading, change_in, key_of, record_key, writer}
use Rattle.mg_image.specs.Sound.{IsSound, facts_of}
use Rattle.mg_image.specs.Tables.{Layout, stands_of}
use Rattle.mg_image_overlay_laws.specs.tables.TableOwners.{IsOneOf, has_stand, named_other}
use Rattle.mg_image_opening_laws.specs.Catalogs.{chosen_told, db_told, every_shape, nobody, now_shape, shape_grows, stored_with}
use Rattle.mg_image_opening_laws.specs.Chosen.{KeyedRow, as_change, as_placed, catalog_is, each_in, each_mapped, everyone_is, own_is, placed_is}
use Rattle.mg_image_opening_laws.specs.Fits.{SpellsFitting, shown_fits, version_fits}
use Rattle.mg_image_opening_laws.specs.Gathered.{IsIn}
use Rattle.mg_image_opening_laws.specs.Items.{GivesLimbo, GivesRow, changes_are, has_named, limbo_from, limbo_gathered, limbo_list, names, row_from, rows_are, rows_gathered, rows_of, told_of}
use Rattle.mg_image_opening_laws.specs.Told.{shape_told}

-- ---- states

-- the states of so many transactions, from a number on
abbrev states_from : (ℕ → TxState) → ℕ → ℕ → List TxState
states_from state start zero = []
states_from state start (suc count) = state start ∷ states_from state (suc start) count

states_count : (state : ℕ → TxState) (start count : ℕ) → length (states_from state start count) ≡ count
states_count state start zero = refl
states_count state start (suc count) = ap suc (states_count state (suc start) count)

state_from : (state : ℕ → TxState) (start count n : ℕ) → n < count
    → slice_index_or (states_from state start count) n Dead ≡ state (start + n)
state_from state start zero n below = absurd (omega arith)
state_from state start (suc count) zero below =
    let e : start + 0 ≡ start = omega arith in ap state (sym e)
state_from state start (suc count) (suc n) below =
    let e : suc start + n ≡ start + suc n = omega arith in
    state_from state (suc start) count n (omega arith) ∙ ap state e

never_active : (size : ℕ) (pages : Pages) (t : ℕ) → state_at size pages t ≢ Active
unfolding state_at
never_active size pages t = at (t == 0) (nat_lt t (next_of pages)) (bits_state size pages t)
  where
    at : (first below : Bool) (s : TxState)
        → cond first Committed (cond below (settled s) Dead) ≢ Active
    at true below s is = absurd cc
    at false false s is = absurd cc
    at false true Active is = absurd cc
    at false true Limbo is = absurd cc
    at false true Dead is = absurd cc
    at false true Committed is = absurd cc

system_is : (size : ℕ) (pages : Pages) → state_at size pages 0 ≡ Committed
unfolding state_at
system_is size pages = refl

past_is_dead : (size : ℕ) (pages : Pages) (t : ℕ) → t ≢ 0 → next_of pages ≤ t
    → state_at size pages t ≡ Dead
unfolding state_at
past_is_dead size pages t some past = rw (ne_eqb t 0 some, le-ltb t (next_of pages) past) refl

-- numbers are drawn from 1 on, up to the greatest
drawn_between : (b : List ℕ) → PassesAll (page_checks b)
    → (1 ≤ u32_at b 28) × (u32_at b 28 ≤ MOST_TRANSACTIONS)
unfolding common_checks marker_checks
drawn_between b passes = by (u32_at b 28) passes.1.1.1.1.1.1.0
  where
    by : (next : ℕ) → next ≡ max (min next 1000000000) 1
        → (1 ≤ next) × (next ≤ MOST_TRANSACTIONS)
    by next is = (omega (arith, is), omega (arith, is))

-- ---- keys of told rows

told_first : (row : Row) → get_or (model.told_cells row) 0 Null ≡ get_or row 0 Null
told_first [] = refl
told_first (k ∷ ks) = by (letter == 84) (letter == 73)
  where
    letter : ℕ
    letter = byte (bytes_of k) 0

    zero_ : Value
    zero_ = Int (pos 0)

    by : (x y : Bool) → get_or (if x then set (set (k ∷ ks) 2 zero_) 4 zero_
        else (if y then set (k ∷ ks) 2 zero_ else k ∷ ks)) 0 Null ≡ k
    by true y = refl
    by false true = refl
    by false false = refl

module _ (form : Form) (fitting : SpellsFitting form.coding) (size : ℕ) (pages : Pages)
    (opened : Opened) (is : IsOpened form size pages opened) where
  abbrev layout : Layout
  layout = is.layout

  abbrev r : Reading
  r = is.reading

  abbrev f : Facts
  f = facts_of size pages layout

  abbrev state : ℕ → TxState
  state = state_at size pages

  abbrev sound : IsSound form size pages layout r
  sound = is.sound

  abbrev db : Database
  db = opened.rows

  abbrev ks : List KeyedRow
  ks = rows_of form size state pages layout r sound db is.held opened.limbo is.limbo

  abbrev ls : List LimboChange
  ls = limbo_list form size state pages layout r sound db is.held opened.limbo is.limbo

  abbrev stored : (ℕ → Bool) → CatalogRows
  stored chosen = stored_with form size state pages layout r sound db is.held opened.limbo is.limbo chosen

  abbrev pub begun : Opening
  begun = record {
    rows = map as_placed ks;
    limbo = ls;
    states = states_from state 1 (next_of pages - 1);
    next = record { 0 = next_of pages };
    limit = record { 0 = MOST_TRANSACTIONS };
    free = 0;
  }

  next_fits : (1 ≤ next_of pages) × (next_of pages ≤ MOST_TRANSACTIONS)
  next_fits = drawn_between (pages 0) sound.header.fields

  begun_state : (t : ℕ) → opening_state begun t ≡ state t
  begun_state t = at (cases_lt t (next_of pages)) (cases_eq t 0)
    where
      at : (t < next_of pages) ⊎ (next_of pages ≤ t) → (t ≡ 0) ⊎ (t ≢ 0)
          → opening_state begun t ≡ state t
      at below (inl e) = ap (opening_state begun) e ∙ (sym (system_is size pages) ∙ ap state (sym e))
      at (inr past) (inr ne) = rw (ne_eqb t 0 ne, le-ltb t (next_of pages) past)
          (sym (past_is_dead size pages t ne past))
      at (inl below) (inr ne) =
          let same : 1 + (t - 1) ≡ t = omega (arith, ne) in
          rw (ne_eqb t 0 ne, lt-ltb t (next_of pages) below)
          (state_from state 1 (next_of pages - 1) (t - 1) (omega (arith, below, ne)) ∙ ap state same)

  -- ---- rows and their keys

  told_key : (p : RecId) (table : Table) (row : Row) → table_in f p ≡ Some table
      → key_of table (told_row table row) ≡ key_of table row
  told_key p table row of = at (has_stand (stands_of layout) p.page.0 table of)
    where
      not_catalog : table.name ≢ catalog_name → bytes_eq table.name catalog_name ≡ false
      not_catalog other = by (bytes_eq table.name catalog_name) refl
        where
          by : (b : Bool) → bytes_eq table.name catalog_name ≡ b
              → bytes_eq table.name catalog_name ≡ false
          by true same = absurd (other (same_text table.name catalog_name (sym same)))
          by false apart = apart

      at : (layout.catalog.table ≡ table) ⊎ IsOneOf (map (λ s. s.table) layout.tables) table
          → key_of table (told_row table row) ≡ key_of table row
      at (inl same) = subst (λ (t : Table). key_of t (told_row t row) ≡ key_of t row)
          (sym sound.catalog ∙ same) (told_first row)
      at (inr one) = rw (not_catalog (named_other form size state pages layout r sound table one)) refl

  keys_now : (k : KeyedRow) → IsIn ks k → key_in (db catalog_name) k.table k.row ≡ k.key
  keys_now k there = by (row_from form size state pages layout r sound db is.held opened.limbo is.limbo k
      there)
    where
      by : (p : RecId) × GivesRow f r (names db) p k → key_in (db catalog_name) k.table k.row ≡ k.key
      by (p, gives) =
          let shape : shape_in (db catalog_name) gives.table.name ≡ Some gives.table.shape =
          now_shape form size state pages layout r sound db is.held opened.limbo is.limbo p gives.table
          gives.shows.of_table (has_named form size state pages layout r sound db is.held opened.limbo
          is.limbo gives.table.name gives.is_named) in
          let key : key_in (db catalog_name) gives.table.name (told_row gives.table gives.row)
          ≡ key_of gives.table gives.row =
          ap (λ (s : Option Shape). key_by s (told_row gives.table gives.row)) shape
          ∙ told_key p gives.table gives.row gives.shows.of_table in
          ap (λ (x : KeyedRow). key_in (db catalog_name) x.table x.row) (sym gives.is)
          ∙ (key ∙ ap (λ (x : KeyedRow). x.key) gives.is)

  catalog_keys : (k : KeyedRow) → IsIn ks k → k.table ≡ catalog_name
      → model.key_of catalog_shape k.row ≡ k.key
  catalog_keys k there name =
      let shape : shape_in (db catalog_name) k.table ≡ Some catalog_shape =
      ap (shape_in (db catalog_name)) name in
      sym (ap (λ (s : Option Shape). key_by s k.row) shape) ∙ keys_now k there

  catalog_now : row_at (catalog_changes begun.rows) catalog_name ≡ db catalog_name
  catalog_now = fun_ext (λ key. catalog_is ks catalog_keys key
      ∙ rows_are form size state pages layout r sound db is.held opened.limbo is.limbo catalog_name key)

  rows_now : opening_rows begun ≡ map as_change ks
  rows_now = placed_is (row_at (catalog_changes begun.rows) catalog_name) ks
      (λ k there. ap (λ (rows : CatalogRows). key_in rows k.table k.row) catalog_now ∙ keys_now k there)

  row_now : (name : List ℕ) (key : Value) → row_at (opening_rows begun) name key ≡ db name key
  row_now name key = ap (λ (cs : List AnyChange). row_at cs name key) rows_now
      ∙ rows_are form size state pages layout r sound db is.held opened.limbo is.limbo name key

  pub begins : Begins opened begun
  begins = record {
    rows = λ name key. sym (row_now name key);
    limbo = λ t name key.
        changes_are form size state pages layout r sound db is.held opened.limbo is.limbo t name key
        ∙ ap (λ (cs : List AnyChange). newest_at cs name key) (sym (own_is t ls));
    next = is.next;
    state = λ t below. is.state t below ∙ sym (begun_state t);
  }

  -- ---- it is whole

  told_with : (chosen : ℕ → Bool) (key : Value)
      → catalog_with begun chosen key ≡ told_if_there (stored chosen key)
  told_with chosen key = chosen_told form size state pages layout r sound db is.held opened.limbo is.limbo
      chosen (opening_rows begun) (row_now catalog_name) key

  lawful_with : (chosen : ℕ → Bool) → IsToldCatalog (catalog_with begun chosen)
  lawful_with chosen = record {
    stored = stored chosen;
    lawful = (sound.names.lawful chosen).are_tables.lawful;
    told = told_with chosen;
  }

  shape_with : (chosen : ℕ → Bool) (name : List ℕ)
      → shape_in (catalog_with begun chosen) name ≡ shape_in (stored chosen) name
  shape_with chosen name = shape_told (catalog_with begun chosen) (stored chosen)
      (sound.names.lawful chosen).are_tables.lawful (told_with chosen) name

  opening_is : opening_catalog begun ≡ db catalog_name
  opening_is = fun_ext (row_now catalog_name)

  shape_now : (name : List ℕ) → shape_in (opening_catalog begun) name ≡ shape_in (stored nobody) name
  shape_now name = ap (λ (rows : CatalogRows). shape_in rows name) opening_is
      ∙ shape_told (db catalog_name) (stored nobody) (sound.names.lawful nobody).are_tables.lawful
      (db_told form size state pages layout r sound db is.held opened.limbo is.limbo) name

  shapes_stay : (chosen : ℕ → Bool) (name : List ℕ) → IsSome (shape_in (opening_catalog begun) name)
      → shape_in (catalog_with begun chosen) name ≡ shape_in (opening_catalog begun) name
  shapes_stay chosen name some = at (shape_in (opening_catalog begun) name) refl some
    where
      at : (s : Option Shape) → shape_in (opening_catalog begun) name ≡ s → IsSome s
          → shape_in (catalog_with begun chosen) name ≡ shape_in (opening_catalog begun) name
      at None none some_ = absurd cc
      at (Some shape) said some_ = shape_with chosen name
          ∙ (shape_grows size f r layout.catalog.table (map (λ s. s.table) layout.tables) sound.names nobody
          chosen (λ t no. absurd cc) name shape (sym (shape_now name) ∙ said) ∙ sym said)

  limbo_so : Each (λ c. opening_state begun c.by.0 ≡ Limbo) ls
  limbo_so = each_in (λ c. opening_state begun c.by.0 ≡ Limbo) ls (λ c there. by c
      (limbo_from form size state pages layout r sound db is.held opened.limbo is.limbo c there))
    where
      by : (c : LimboChange) → (p : RecId) × GivesLimbo f r p c → opening_state begun c.by.0 ≡ Limbo
      by c (p, gives) = ap (λ (x : LimboChange). opening_state begun x.by.0) (sym gives.is)
          ∙ (begun_state (writer gives.e) ∙ gives.has.limbo)

  rows_fit : Each (λ p. FitsTable (opening_catalog begun) p.table p.row) begun.rows
  rows_fit = each_mapped (λ p. FitsTable (opening_catalog begun) p.table p.row) as_placed ks
      (λ k there. by k (row_from form size state pages layout r sound db is.held opened.limbo is.limbo k
      there))
    where
      by : (k : KeyedRow) → (p : RecId) × GivesRow f r (names db) p k
          → FitsTable (opening_catalog begun) k.table k.row
      by k (p, gives) = subst (λ (x : KeyedRow). FitsTable (opening_catalog begun) x.table x.row) gives.is (
        gives.table.shape,
        ap (λ (rows : CatalogRows). shape_in rows gives.table.name) opening_is
            ∙ now_shape form size state pages layout r sound db is.held opened.limbo is.limbo p gives.table
            gives.shows.of_table (has_named form size state pages layout r sound db is.held opened.limbo
            is.limbo gives.table.name gives.is_named),
        shown_fits form fitting size state pages layout r sound p gives.table (committed_in f) gives.row
            gives.shows.of_table gives.shows.row_shown,
      )

  changes_fit : Each (λ c. FitsUnder (catalog_with begun everyone) c.table c.key c.row) ls
  changes_fit = each_in (λ c. FitsUnder (catalog_with begun everyone) c.table c.key c.row) ls
      (λ c there. by c (limbo_from form size state pages layout r sound db is.held opened.limbo is.limbo c
      there))
    where
      by : (c : LimboChange) → (p : RecId) × GivesLimbo f r p c
          → FitsUnder (catalog_with begun everyone) c.table c.key c.row
      by c (p, gives) =
          subst (λ (x : LimboChange). FitsUnder (catalog_with begun everyone) x.table x.key x.row) gives.is
          (at gives.e.version.deleted refl)
        where
          shape : shape_in (catalog_with begun everyone) gives.table.name ≡ Some gives.table.shape
          shape = shape_with everyone gives.table.name
              ∙ every_shape form size state pages layout r sound db is.held opened.limbo is.limbo p
              gives.table gives.has.of_table

          at : (b : Bool) → gives.e.version.deleted ≡ b
              → FitsUnder (catalog_with begun everyone) gives.table.name
              (key_of gives.table gives.e.row) (told_of gives.table (change_in gives.e))
          at true deleted = rw deleted (subst IsSome (sym shape) refl)
          at false alive = rw alive (
            (
              gives.table.shape,
              shape,
              version_fits form fitting size state pages layout r sound p gives.table
                  (record_key gives.table (r p)) gives.e gives.has.of_table version alive,
            ),
            ap (λ (s : Option Shape). key_by s (told_row gives.table gives.e.row)) shape
                ∙ told_key p gives.table gives.e.row gives.has.of_table,
          )
            where
              each_of : (es : List Entry) → es ≡ gives.e ∷ gives.has.older
                  → records.Each (IsVersion form.coding f gives.table (record_key gives.table (r p))) es
                  → IsVersion form.coding f gives.table (record_key gives.table (r p)) gives.e
              each_of es parts each = (subst (records.Each (IsVersion form.coding f gives.table
                  (record_key gives.table (r p)))) parts each).0

              version : IsVersion form.coding f gives.table (record_key gives.table (r p)) gives.e
              version = each_of (r p) gives.has.newest
                  (sound.records.each p gives.table gives.has.of_table).each

  pub whole : IsOpening begun
  whole = record {
    first = next_fits.0;
    last = next_fits.1;
    limit = omega arith;
    states =
        let count : length begun.states ≡ next_of pages - 1 = states_count state 1 (next_of pages - 1) in
        let least : 1 ≤ next_of pages = next_fits.0 in omega (arith, count, least);
    ended = λ t active. never_active size pages t (sym (begun_state t) ∙ active);
    in_limbo = limbo_so;
    rows_apart = subst HaveOwnKeys (sym rows_now) (rows_gathered form size state pages layout r sound db
        is.held opened.limbo is.limbo).apart;
    changes_apart = subst HaveOwnKeys (sym (everyone_is ls)) (limbo_gathered form size state pages layout r
        sound db is.held opened.limbo is.limbo).apart;
    lawful = lawful_with;
    shapes = shapes_stay;
    rows_fit = rows_fit;
    changes_fit = changes_fit;
  }
