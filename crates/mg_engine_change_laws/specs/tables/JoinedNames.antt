-- The catalog names the tables that it named and the new one, under each choice of transactions in limbo.
use Rattle.std.proofs.Common.{◌≡◌, ◌≢◌, ◌⊎◌, inl, inr, refl, sym, ap, ◌∙◌, subst, ℕ, Bool, true, false, List, [], ◌∷◌, Option, None, Some}
use Rattle.std.specs.Prelude.{if◌then◌else◌, map}
use Rattle.std.proofs.lemmas.Bool.{false≢true}
use Rattle.mg_base.specs.declared.numbers.RecId.{RecId}
use Rattle.mg_base.specs.declared.transaction.TxState.{TxState}
use Rattle.mg_base.specs.declared.transaction.TxState.TheVariants.{Active, Committed, Dead, Limbo}
use Rattle.mg_value.specs.declared.value.Value.{Value}
use Rattle.mg_catalog.specs.ByKey.{row_key}
use Rattle.mg_catalog.specs.KeyLaws.{has_row}
use Rattle.mg_header.specs.HeaderPage.{header_in}
use Rattle.mg_model.specs.declared.table.Table.{Table}
use Rattle.mg_model.specs.Catalog.{table_key}
use Rattle.mg_model.specs.CatalogRules.{AreTables, EachTable}
use Rattle.mg_image.specs.declared.entry.Entry.{Entry}
use Rattle.mg_image.specs.Catalog.{CatalogNames, FitsPages, HasNames, IsWithin, StaysAmong, catalog_table, committed_with}
use Rattle.mg_image.specs.FactLaws.{shown_alike}
use Rattle.mg_image.specs.Form.{Form, Pages, Row, Rows}
use Rattle.mg_image.specs.Held.{AreRows, Shows}
use Rattle.mg_image.specs.RecordRules.{Each, EachBack, Facts, IsVersion, TakesKey, committed_in}
use Rattle.mg_image.specs.Records.{Reading, key_of, record_key, shown, writer}
use Rattle.mg_image.specs.Sound.{IsSoundBy, facts_by}
use Rattle.mg_image.specs.Tables.{Layout, Stand, has, table_at}
use Rattle.mg_image_overlay_laws.specs.transactions.Begins.{Raises}
use Rattle.mg_image_overlay_laws.specs.names.JoinedRows.{each_of_all, join_names, with_tables}
use Rattle.mg_image_overlay_laws.specs.names.MadeRows.{all_stay, joined_rows, made_stay, row_either}
use Rattle.mg_engine_change_laws.specs.tables.Joined.{IsMade, Joins, layout_with, rows_by, rows_stored}
use Rattle.mg_engine_change_laws.specs.tables.JoinedRows.{at_with, cases_made, catalog_named, catalog_page, made_by_key, other_name, reading_at, row_of, tables_with}
use Rattle.mg_engine_change_laws.specs.tables.Rows.{MadeRow, reading_with}
use Rattle.mg_engine_change_laws.specs.tables.MakingRowsLaws.{first_value}

-- ---- what a record shows

-- each version has a key, and so has the row that is shown
shown_keyed : (catalog : Table) (key : Value) (counts : ℕ → Bool) (es : List Entry)
    → Each (λ e. key_of catalog e.row ≡ key) es → (row : Row) → shown counts es ≡ Some row → key_of catalog row ≡ key
shown_keyed catalog key counts [] each row is = absurd cc
shown_keyed catalog key counts (e ∷ es) each row is =
    at (counts (writer e)) e.version.deleted is (shown_keyed catalog key counts es each.1 row)
  where
    at : (b d : Bool) → (if b then (if d then None else Some e.row) else shown counts es) ≡ Some row
        → (shown counts es ≡ Some row → key_of catalog row ≡ key) → key_of catalog row ≡ key
    at true true is_ more = absurd cc
    at true false is_ more = let same : e.row ≡ row = cc in ap (key_of catalog) (sym same) ∙ each.0
    at false d is_ more = more is_

backs_settled : (f : Facts) (chosen : ℕ → Bool) (es : List Entry) → Each (λ d. f.state (writer d) ≡ Committed) es
    → Each (λ d. committed_with f chosen (writer d) ≡ committed_in f (writer d)) es
backs_settled f chosen [] backs = tt
backs_settled f chosen (d ∷ ds) backs = (rw backs.0 refl, backs_settled f chosen ds backs.1)

-- what is shown under a choice takes its key
shown_takes : (f : Facts) (chosen : ℕ → Bool) (es : List Entry) → EachBack (λ d. f.state (writer d) ≡ Committed) es
    → (row : Row) → shown (committed_with f chosen) es ≡ Some row → TakesKey f es
shown_takes f chosen [] backs row is = absurd cc
shown_takes f chosen (e ∷ es) backs row is = at (f.state (writer e)) refl
  where
    plain : committed_with f chosen (writer e) ≡ committed_in f (writer e) → TakesKey f (e ∷ es)
    plain same = inl (
      row,
      sym (shown_alike (committed_in f) (committed_with f chosen) (e ∷ es) (same, backs_settled f chosen es backs))
          ∙ is,
    )

    at : (x : TxState) → f.state (writer e) ≡ x → TakesKey f (e ∷ es)
    at Limbo its = inr its
    at Active its = plain (rw its refl)
    at Dead its = plain (rw its refl)
    at Committed its = plain (rw its refl)

-- ---- the tables of pages

module _ (form : Form) (size : ℕ) (state now : ℕ → TxState) (t : ℕ) (old new : Pages) (a c : Layout) (r rc : Reading)
    (made : List MadeRow) (stand : Stand) (raises : Raises state now t) (before : IsSoundBy form size now old a r)
    (after : IsSoundBy form size state new c rc) (joins : Joins form size now t old new a c r rc made stand) where
  abbrev pub f : Facts
  f = facts_by now old a

  abbrev pub g : Facts
  g = facts_by now new (layout_with a c stand)

  abbrev pub cat : Table
  cat = a.catalog.table

  abbrev pub s : Reading
  s = reading_with made r

  pub same_catalog : c.catalog.table ≡ a.catalog.table
  same_catalog = after.catalog ∙ (ap (λ (page : List ℕ). catalog_table (header_in page).catalog.0) joins.header
      ∙ sym before.catalog)

  -- a page of the catalog, before and after
  pub was_catalog : (n : ℕ) → f.table_of n ≡ Some cat → has a.catalog.data_pages n ≡ true
  was_catalog n is = catalog_page form size now old a r before n is

  pub in_catalog : (n : ℕ) → g.table_of n ≡ Some cat → has c.catalog.data_pages n ≡ true
  in_catalog n is = at (has c.catalog.data_pages n) refl is
    where
      at : (b : Bool) → has c.catalog.data_pages n ≡ b
          → (if b then Some c.catalog.table else table_at (layout_with a c stand).tables n) ≡ Some cat
          → has c.catalog.data_pages n ≡ true
      at true here is_ = here
      at false off is_ = absurd (other_name form size now old a r before n cat
          (sym (at_with stand a.tables joins.empty n) ∙ is_) (catalog_named form size now old a r before))

  pub of_catalog : (n : ℕ) → has c.catalog.data_pages n ≡ true → g.table_of n ≡ Some cat
  of_catalog n is = rw is (ap (λ (x : Table). Some x) same_catalog)

  pub was_of_catalog : (n : ℕ) → has a.catalog.data_pages n ≡ true → f.table_of n ≡ Some cat
  was_of_catalog n is = rw is refl

  -- a page of another table
  pub of_other : (n : ℕ) → has c.catalog.data_pages n ≡ false → g.table_of n ≡ table_at a.tables n
  of_other n off = rw off (at_with stand a.tables joins.empty n)

  not_before : (n : ℕ) → has c.catalog.data_pages n ≡ false → has a.catalog.data_pages n ≡ false
  not_before n off = at (has a.catalog.data_pages n) refl
    where
      at : (b : Bool) → has a.catalog.data_pages n ≡ b → has a.catalog.data_pages n ≡ false
      at true is = absurd (false≢true (sym off ∙ joins.grown n is))
      at false is = is

  pub was_other : (n : ℕ) → has c.catalog.data_pages n ≡ false → f.table_of n ≡ table_at a.tables n
  was_other n off = rw (not_before n off) refl

  -- a record that had versions is none of the new ones
  pub read_still : (p : RecId) → r p ≢ [] → reading_with made r p ≡ r p
  read_still p some = at (cases_made made r p)
    where
      at : ((row : MadeRow) × IsMade made row × (row.at ≡ p) × (reading_with made r p ≡ row.first ∷ []))
          ⊎ (reading_with made r p ≡ r p) → reading_with made r p ≡ r p
      at (inl (row, is, here, reads)) = absurd (some (ap r (sym here) ∙ (joins.rows row is).empty))
      at (inr same) = same

  pub cat_is : (row : Row) → key_of a.catalog.table row ≡ row_key row
  cat_is row = ap (λ (x : Table). key_of x row) before.catalog ∙ first_value row

  shown_some : (counts : ℕ → Bool) (p : RecId) (row : Row) → shown counts (r p) ≡ Some row → r p ≢ []
  shown_some counts p row is none = let both : None ≡ Some row = sym (ap (shown counts) none) ∙ is in absurd cc

  -- ---- none of its keys was taken

  free_of : (chosen : ℕ → Bool) (rows : Rows) → AreRows f (committed_with f chosen) r cat rows → (row : MadeRow)
      → IsMade made row → rows (row_key row.first.row) ≡ None
  free_of chosen rows are row is = at (rows (row_key row.first.row)) refl
    where
      never : (x : Row) → (p : RecId) × Shows f (committed_with f chosen) r p cat x
          × (key_of a.catalog.table x ≡ row_key row.first.row) → ⊥
      never x (p, shows, keyed) = (joins.rows row is).free p shows.of_table
          (sym (shown_keyed cat (record_key cat (r p)) (committed_with f chosen) (r p)
          (each_keyed (r p) (before.records.each p cat shows.of_table).each) x shows.row_shown)
          ∙ (keyed ∙ sym (cat_is row.first.row)))
          (shown_takes f chosen (r p) (before.records.each p cat shows.of_table).backs x shows.row_shown)
        where
          each_keyed : (es : List Entry) → Each (IsVersion form.coding f cat (record_key cat (r p))) es
              → Each (λ e. key_of cat e.row ≡ record_key cat (r p)) es
          each_keyed [] each = tt
          each_keyed (e ∷ es) each = (each.0.keyed, each_keyed es each.1)

      at : (x : Option Row) → rows (row_key row.first.row) ≡ x → rows (row_key row.first.row) ≡ None
      at None none = none
      at (Some x) some = absurd (never x (are.whole (row_key row.first.row) x some))

  -- ---- the rows of a choice

  counts_it : (chosen : ℕ → Bool) → chosen t ≡ true → committed_with g chosen t ≡ true
  counts_it chosen on = rw (raises.limbo, on) refl

  counts_not : (chosen : ℕ → Bool) → chosen t ≡ false → committed_with g chosen t ≡ false
  counts_not chosen off = rw (raises.limbo, off) refl

  shown_new : (counts : ℕ → Bool) (b : Bool) (row : MadeRow) → IsMade made row → counts t ≡ b
      → shown counts (row.first ∷ []) ≡ (if b then Some row.first.row else None)
  shown_new counts b row is counted = rw (ap counts (joins.rows row is).its ∙ counted, (joins.rows row is).stays) refl

  -- where it is not chosen, they are as they were
  rows_without : (chosen : ℕ → Bool) → chosen t ≡ false → (rows : Rows)
      → AreRows f (committed_with f chosen) r cat rows → AreRows g (committed_with g chosen) s cat rows
  rows_without chosen off rows are = record {
    there = λ p row shows. there p row shows (cases_made made r p);
    whole = λ key row is. let (p, shows, keyed) = are.whole key row is in (
      p,
      record {
        of_table = of_catalog p.page.0 (joins.grown p.page.0 (was_catalog p.page.0 shows.of_table));
        row_shown = ap (shown (committed_with g chosen)) (read_still p (shown_some (committed_with f chosen) p row
            shows.row_shown)) ∙ shows.row_shown;
      },
      keyed,
    );
  }
    where
      there : (p : RecId) (row : Row) → Shows g (committed_with g chosen) s p cat row
          → ((x : MadeRow) × IsMade made x × (x.at ≡ p) × (reading_with made r p ≡ x.first ∷ []))
          ⊎ (reading_with made r p ≡ r p) → rows (key_of cat row) ≡ Some row
      there p row shows (inl (x, is, here, reads)) =
          let both : None ≡ Some row = sym (shown_new (committed_with g chosen) false x is (counts_not chosen off))
          ∙ (ap (shown (committed_with g chosen)) (sym reads) ∙ shows.row_shown) in absurd cc
      there p row shows (inr same) = by (joins.fresh p (in_catalog p.page.0 shows.of_table))
        where
          it : shown (committed_with g chosen) (r p) ≡ Some row
          it = ap (shown (committed_with g chosen)) (sym same) ∙ shows.row_shown

          by : (has a.catalog.data_pages p.page.0 ≡ true) ⊎ (r p ≡ []) → rows (key_of cat row) ≡ Some row
          by (inl was) = are.there p row (record { of_table = was_of_catalog p.page.0 was; row_shown = it })
          by (inr none) = absurd (shown_some (committed_with g chosen) p row it none)

  -- where it is, they have its own
  module _ (chosen : ℕ → Bool) (on : chosen t ≡ true) (rows : Rows)
      (are : AreRows f (committed_with f chosen) r cat rows) where
    abbrev all : Rows
    all = joined_rows rows (rows_by made)

    all_of_old : (key : Value) (row : Row) → rows key ≡ Some row → all key ≡ Some row
    all_of_old key row is = ap (λ (x : Option Row). row_either x (rows_by made key)) is

    -- a row of its own is of a record
    its_row : (key : Value) (row : Row) → rows_by made key ≡ Some row
        → (x : MadeRow) × IsMade made x × (x.first.row ≡ row) × (row_key row ≡ key)
    its_row key row is =
        let (there, keyed) = has_row (rows_stored made) key row is in
        let (x, its, same) = row_of made row there in (x, its, same, keyed)

    free_key : (key : Value) (row : Row) → rows_by made key ≡ Some row → rows key ≡ None
    free_key key row is =
        let (x, its, same, keyed) = its_row key row is in
        subst (λ (k : Value). rows k ≡ None) (ap row_key same ∙ keyed) (free_of chosen rows are x its)

    all_of_made : (key : Value) (row : Row) → rows_by made key ≡ Some row → all key ≡ Some row
    all_of_made key row is = ap (λ (x : Option Row). row_either x (rows_by made key)) (free_key key row is) ∙ is

    of_all : (key : Value) (row : Row) → all key ≡ Some row → (rows key ≡ Some row) ⊎ (rows_by made key ≡ Some row)
    of_all key row is = at (rows key) refl is
      where
        at : (x : Option Row) → rows key ≡ x → row_either x (rows_by made key) ≡ Some row
            → (rows key ≡ Some row) ⊎ (rows_by made key ≡ Some row)
        at None none is_ = inr is_
        at (Some b) here is_ = inl (here ∙ is_)

    rows_with : AreRows g (committed_with g chosen) s cat (joined_rows rows (rows_by made))
    rows_with = record {
      there = λ p row shows. there p row shows (cases_made made r p);
      whole = λ key row is. whole key row (of_all key row is);
    }
      where
        there : (p : RecId) (row : Row) → Shows g (committed_with g chosen) s p cat row
            → ((x : MadeRow) × IsMade made x × (x.at ≡ p) × (reading_with made r p ≡ x.first ∷ []))
            ⊎ (reading_with made r p ≡ r p) → joined_rows rows (rows_by made) (key_of cat row) ≡ Some row
        there p row shows (inl (x, is, here, reads)) =
            let both : Some x.first.row ≡ Some row =
            sym (shown_new (committed_with g chosen) true x is (counts_it chosen on))
            ∙ (ap (shown (committed_with g chosen)) (sym reads) ∙ shows.row_shown) in
            let same : x.first.row ≡ row = cc in
            subst (λ (y : Row). joined_rows rows (rows_by made) (key_of cat y) ≡ Some y) same
            (subst (λ (k : Value). joined_rows rows (rows_by made) k ≡ Some x.first.row) (sym (cat_is x.first.row))
            (all_of_made (row_key x.first.row) x.first.row (made_by_key made joins.keys x is)))
        there p row shows (inr same) = by (joins.fresh p (in_catalog p.page.0 shows.of_table))
          where
            it : shown (committed_with g chosen) (r p) ≡ Some row
            it = ap (shown (committed_with g chosen)) (sym same) ∙ shows.row_shown

            by : (has a.catalog.data_pages p.page.0 ≡ true) ⊎ (r p ≡ [])
                → joined_rows rows (rows_by made) (key_of cat row) ≡ Some row
            by (inl was) = all_of_old (key_of cat row) row
                (are.there p row (record { of_table = was_of_catalog p.page.0 was; row_shown = it }))
            by (inr none) = absurd (shown_some (committed_with g chosen) p row it none)

        whole : (key : Value) (row : Row) → (rows key ≡ Some row) ⊎ (rows_by made key ≡ Some row)
            → (p : RecId) × Shows g (committed_with g chosen) s p cat row × (key_of cat row ≡ key)
        whole key row (inl is) = let (p, shows, keyed) = are.whole key row is in (
          p,
          record {
            of_table = of_catalog p.page.0 (joins.grown p.page.0 (was_catalog p.page.0 shows.of_table));
            row_shown = ap (shown (committed_with g chosen)) (read_still p (shown_some (committed_with f chosen) p row
                shows.row_shown)) ∙ shows.row_shown;
          },
          keyed,
        )
        whole key row (inr is) = let (x, its, same, keyed) = its_row key row is in (
          x.at,
          record {
            of_table = of_catalog x.at.page.0 (joins.rows x its).placed;
            row_shown = ap (shown (committed_with g chosen)) (reading_at made joins.places r x its)
                ∙ (shown_new (committed_with g chosen) true x its (counts_it chosen on) ∙ ap (λ (y : Row). Some y) same);
          },
          cat_is row ∙ keyed,
        )

    names_with : (ts : List Table) → AreTables rows ts → EachTable (FitsPages size) ts
        → CatalogNames size g (committed_with g chosen) s cat (with_tables (stand.table ∷ []) ts)
    names_with ts are_tables fit = record {
      rows = joined_rows rows (rows_by made);
      are_rows = rows_with;
      are_tables = join_names rows (rows_by made) (joined_rows rows (rows_by made)) ts (stand.table ∷ []) (record {
        first = all_of_old;
        second = all_of_made;
        whole = of_all;
        lawful = are_tables.lawful;
        also = joins.alone.lawful;
        apart = λ name x y is other.
            let both : None ≡ Some x = sym (free_key (table_key name) y other) ∙ is in absurd cc;
      }) are_tables joins.alone;
      fit = each_of_all (FitsPages size) (stand.table ∷ []) ts (joins.fits, tt) fit;
    }

  -- ---- every choice

  abbrev named_with : (ℕ → Bool) → List Table
  named_with chosen = if chosen t then with_tables (stand.table ∷ []) (before.names.named chosen)
      else before.names.named chosen

  names_joined_at : HasNames size g s cat (with_tables (stand.table ∷ []) (map (λ x. x.table) a.tables))
  names_joined_at = record {
    named = named_with;
    lawful = λ chosen. lawful chosen (chosen t) refl;
    all = names_with (λ u. true) refl before.names.all.rows before.names.all.are_rows (map (λ x. x.table) a.tables)
        before.names.all.are_tables before.names.all.fit;
    stay = λ chosen more within. stay chosen more (chosen t) refl (more t) refl within
        (before.names.stay chosen more within);
  }
    where
      lawful : (chosen : ℕ → Bool) (b : Bool) → chosen t ≡ b
          → CatalogNames size g (committed_with g chosen) s cat (if b
          then with_tables (stand.table ∷ []) (before.names.named chosen) else before.names.named chosen)
      lawful chosen true on = names_with chosen on (before.names.lawful chosen).rows
          (before.names.lawful chosen).are_rows (before.names.named chosen) (before.names.lawful chosen).are_tables
          (before.names.lawful chosen).fit
      lawful chosen false off = record {
        rows = (before.names.lawful chosen).rows;
        are_rows = rows_without chosen off (before.names.lawful chosen).rows (before.names.lawful chosen).are_rows;
        are_tables = (before.names.lawful chosen).are_tables;
        fit = (before.names.lawful chosen).fit;
      }

      stay : (chosen more : ℕ → Bool) (x : Bool) → chosen t ≡ x → (y : Bool) → more t ≡ y → IsWithin chosen more
          → EachTable (StaysAmong (before.names.named more)) (before.names.named chosen)
          → EachTable (StaysAmong (if y then with_tables (stand.table ∷ []) (before.names.named more)
          else before.names.named more))
          (if x then with_tables (stand.table ∷ []) (before.names.named chosen) else before.names.named chosen)
      stay chosen more true on false off within each =
          let both : true ≡ false = sym (within t on) ∙ off in absurd cc
      stay chosen more true on true is within each = each_of_all
          (StaysAmong (with_tables (stand.table ∷ []) (before.names.named more))) (stand.table ∷ [])
          (before.names.named chosen) (made_stay (stand.table ∷ []) (before.names.named more))
          (all_stay (stand.table ∷ []) (before.names.named more) (before.names.named chosen) each)
      stay chosen more false off true is within each =
          all_stay (stand.table ∷ []) (before.names.named more) (before.names.named chosen) each
      stay chosen more false off false is within each = each

  pub names_joined : HasNames size g s c.catalog.table (map (λ x. x.table) (layout_with a c stand).tables)
  names_joined = subst (λ (x : Table). HasNames size g s x (map (λ y. y.table) (layout_with a c stand).tables))
      (sym same_catalog) (subst (HasNames size g s cat) (sym (tables_with stand a.tables)) names_joined_at)
