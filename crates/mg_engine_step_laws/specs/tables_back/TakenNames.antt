-- The catalog names the tables that are left, under each choice of transactions in limbo.
use Rattle.std.proofs.Common.{◌≡◌, ◌≢◌, ◌⊎◌, inl, inr, refl, sym, ap, ◌∙◌, subst, ℕ, Bool, true, false, List, [], ◌∷◌, None, Some}
use Rattle.std.specs.Prelude.{if◌then◌else◌, map}
use Rattle.std.proofs.lemmas.Bool.{false≢true}
use Rattle.mg_base.specs.declared.numbers.RecId.{RecId}
use Rattle.mg_base.specs.declared.transaction.TxState.{TxState}
use Rattle.mg_base.specs.declared.transaction.TxState.TheVariants.{Active, Committed, Dead, Limbo}
use Rattle.mg_header.specs.HeaderPage.{header_in}
use Rattle.mg_value.specs.declared.value.Value.{Value}
use Rattle.mg_model.specs.declared.table.Table.{Table}
use Rattle.mg_model.specs.Catalog.{catalog_name, table_key}
use Rattle.mg_model.specs.CatalogRules.{EachTable, IsCatalog, IsTable}
use Rattle.mg_catalog.specs.LawfulLaws.{table_lawful}
use Rattle.mg_image.specs.declared.entry.Entry.{Entry}
use Rattle.mg_image.specs.Catalog.{CatalogNames, FitsPages, HasNames, StaysAmong, catalog_table, committed_with}
use Rattle.mg_image.specs.FactLaws.{shown_alike}
use Rattle.mg_image.specs.Form.{Form, Pages, Row, Rows}
use Rattle.mg_image.specs.Held.{AreRows, Shows}
use Rattle.mg_image.specs.RecordRules.{Each, EachBack, Facts, IsVersion, TakesKey, committed_in}
use Rattle.mg_image.specs.Records.{Reading, key_of, record_key, shown, writer}
use Rattle.mg_image.specs.Sound.{IsSoundBy, facts_by}
use Rattle.mg_image.specs.Tables.{Layout, Stand, has, stands_of, table_at}
use Rattle.mg_image_overlay_laws.specs.transactions.Begins.{Raises}
use Rattle.mg_image_overlay_laws.specs.tables.TableOwners.{IsOneOf}
use Rattle.mg_engine_step_laws.specs.tables_back.Taken.{HasGone, IsLeft, TakesBack, layout_left, reading_left, stands_left}
use Rattle.mg_engine_step_laws.specs.tables_back.TakenRows.{each_left, row_stays, row_was, rows_left, tables_are_left, tables_left}

-- ---- what a record shows

-- each version has a key, and so has the row that is shown
pub shown_keyed : (catalog : Table) (key : Value) (counts : ℕ → Bool) (es : List Entry)
    → Each (λ e. key_of catalog e.row ≡ key) es → (row : Row) → shown counts es ≡ Some row → key_of catalog row ≡ key
shown_keyed catalog key counts [] each row is = absurd cc
shown_keyed catalog key counts (e ∷ es) each row is =
    at (counts (writer e)) e.version.deleted is (shown_keyed catalog key counts es each.1 row)
  where
    at : (b d : Bool) → (if b then (if d then None else Some e.row) else shown counts es) ≡ Some row
        → (shown counts es ≡ Some row → key_of catalog row ≡ key) → key_of catalog row ≡ key
    at true true is_ more = absurd cc
    at true false is_ more = let same : e.row ≡ row = cc in ap (key_of catalog) (sym same) ∙ each.0
    at false d is_ more = more is_

backs_settled : (f : Facts) (chosen : ℕ → Bool) (es : List Entry) → Each (λ d. f.state (writer d) ≡ Committed) es
    → Each (λ d. committed_with f chosen (writer d) ≡ committed_in f (writer d)) es
backs_settled f chosen [] backs = tt
backs_settled f chosen (d ∷ ds) backs = (rw backs.0 refl, backs_settled f chosen ds backs.1)

-- what is shown under a choice takes its key
pub shown_takes : (f : Facts) (chosen : ℕ → Bool) (es : List Entry) → EachBack (λ d. f.state (writer d) ≡ Committed) es
    → (row : Row) → shown (committed_with f chosen) es ≡ Some row → TakesKey f es
shown_takes f chosen [] backs row is = absurd cc
shown_takes f chosen (e ∷ es) backs row is = at (f.state (writer e)) refl
  where
    plain : committed_with f chosen (writer e) ≡ committed_in f (writer e) → TakesKey f (e ∷ es)
    plain same = inl (
      row,
      sym (shown_alike (committed_in f) (committed_with f chosen) (e ∷ es) (same, backs_settled f chosen es backs))
          ∙ is,
    )

    at : (x : TxState) → f.state (writer e) ≡ x → TakesKey f (e ∷ es)
    at Limbo its = inr its
    at Active its = plain (rw its refl)
    at Dead its = plain (rw its refl)
    at Committed its = plain (rw its refl)

-- ---- the catalog's pages

-- a table that rows name is not the catalog
pub others_named : (rows : Rows) → IsCatalog rows → (ts : List Table) → EachTable (IsTable rows) ts
    → EachTable (λ x. x.name ≢ catalog_name) ts
others_named rows lawful [] each = tt
others_named rows lawful (t ∷ ts) each =
    ((table_lawful rows lawful t.name each.0.row each.0.there).other, others_named rows lawful ts each.1)

each_at : (P : Table → Type 0) (ss : List Stand) → EachTable P (map (λ x. x.table) ss) → (n : ℕ) (table : Table)
    → table_at ss n ≡ Some table → P table
each_at P [] each n table is = absurd cc
each_at P (s ∷ ss) each n table is = at (has s.data_pages n) is (each_at P ss each.1 n table)
  where
    at : (b : Bool) → (if b then Some s.table else table_at ss n) ≡ Some table → (table_at ss n ≡ Some table → P table)
        → P table
    at true same more = let one : s.table ≡ table = cc in subst P one each.0
    at false same more = more same

module _ (form : Form) (size : ℕ) (state : ℕ → TxState) (pages : Pages) (layout : Layout) (r : Reading)
    (sound : IsSoundBy form size state pages layout r) where
  pub other_name : (n : ℕ) (table : Table) → table_at layout.tables n ≡ Some table → table.name ≢ catalog_name
  other_name n table is = each_at (λ x. x.name ≢ catalog_name) layout.tables
      (others_named sound.names.all.rows sound.names.all.are_tables.lawful (map (λ x. x.table) layout.tables)
      sound.names.all.are_tables.each) n table is

  pub catalog_named : layout.catalog.table.name ≡ catalog_name
  catalog_named = ap (λ (x : Table). x.name) sound.catalog

  -- so the catalog's pages are its own
  pub catalog_page : (n : ℕ) → table_at (stands_of layout) n ≡ Some layout.catalog.table
      → has layout.catalog.data_pages n ≡ true
  catalog_page n is = at (has layout.catalog.data_pages n) refl is
    where
      at : (b : Bool) → has layout.catalog.data_pages n ≡ b
          → (if b then Some layout.catalog.table else table_at layout.tables n) ≡ Some layout.catalog.table
          → has layout.catalog.data_pages n ≡ true
      at true here is_ = here
      at false off is_ = absurd (other_name n layout.catalog.table is_ catalog_named)

-- ---- stands that are left

pub tables_of_left : (gone : Value → Bool) (ss : List Stand)
    → map (λ x. x.table) (stands_left gone ss) ≡ tables_left gone (map (λ x. x.table) ss)
tables_of_left gone [] = refl
tables_of_left gone (s ∷ ss) = at (gone (table_key s.table.name)) (tables_of_left gone ss)
  where
    at : (b : Bool) → map (λ x. x.table) (stands_left gone ss) ≡ tables_left gone (map (λ x. x.table) ss)
        → map (λ x. x.table) (if b then stands_left gone ss else s ∷ stands_left gone ss)
        ≡ (if b then tables_left gone (map (λ x. x.table) ss)
        else s.table ∷ tables_left gone (map (λ x. x.table) ss))
    at true more = more
    at false more = ap (λ (ts : List Table). s.table ∷ ts) more

-- a page of a table that is left is one of that table's
pub left_is : (gone : Value → Bool) (ss : List Stand) (n : ℕ) (table : Table) → table_at (stands_left gone ss) n ≡ Some table
    → gone (table_key table.name) ≡ false
left_is gone [] n table is = absurd cc
left_is gone (s ∷ ss) n table is = at (gone (table_key s.table.name)) refl is (left_is gone ss n table)
  where
    at : (b : Bool) → gone (table_key s.table.name) ≡ b
        → table_at (if b then stands_left gone ss else s ∷ stands_left gone ss) n ≡ Some table
        → (table_at (stands_left gone ss) n ≡ Some table → gone (table_key table.name) ≡ false)
        → gone (table_key table.name) ≡ false
    at true its is_ more = more is_
    at false its is_ more = by (has s.data_pages n) is_
      where
        by : (d : Bool) → (if d then Some s.table else table_at (stands_left gone ss) n) ≡ Some table
            → gone (table_key table.name) ≡ false
        by true same = let one : s.table ≡ table = cc in
            subst (λ (x : Table). gone (table_key x.name) ≡ false) one its
        by false same = more same

-- and the table is left, if its key is not gone
pub left_at : (gone : Value → Bool) (ss : List Stand) (n : ℕ) (table : Table) → table_at ss n ≡ Some table
    → gone (table_key table.name) ≡ false → table_at (stands_left gone ss) n ≡ Some table
left_at gone [] n table is off = absurd cc
left_at gone (s ∷ ss) n table is off = at (has s.data_pages n) refl is (λ is_. left_at gone ss n table is_ off)
  where
    at : (d : Bool) → has s.data_pages n ≡ d → (if d then Some s.table else table_at ss n) ≡ Some table
        → (table_at ss n ≡ Some table → table_at (stands_left gone ss) n ≡ Some table)
        → table_at (stands_left gone (s ∷ ss)) n ≡ Some table
    at true here same more = let one : s.table ≡ table = cc in
        let its : gone (table_key s.table.name) ≡ false = ap (λ (x : Table). gone (table_key x.name)) one ∙ off in
        rw its (rw here same)
    at false here same more = by (gone (table_key s.table.name))
      where
        by : (b : Bool) → table_at (if b then stands_left gone ss else s ∷ stands_left gone ss) n ≡ Some table
        by true = more same
        by false = rw here (more same)

-- ---- tables that stay

pub stays_left : (gone : Value → Bool) (ts : List Table) (u : Table) → gone (table_key u.name) ≡ false → StaysAmong ts u
    → StaysAmong (tables_left gone ts) u
stays_left gone [] u off stays = absurd stays
stays_left gone (t ∷ ts) u off (inl same) = at (gone (table_key t.name)) refl
  where
    at : (b : Bool) → gone (table_key t.name) ≡ b
        → StaysAmong (if b then tables_left gone ts else t ∷ tables_left gone ts) u
    at true is = let both : true ≡ false = sym is ∙ (ap (λ (n : List ℕ). gone (table_key n)) same.name ∙ off) in absurd cc
    at false is = inl same
stays_left gone (t ∷ ts) u off (inr more) = at (gone (table_key t.name)) (stays_left gone ts u off more)
  where
    at : (b : Bool) → StaysAmong (tables_left gone ts) u
        → StaysAmong (if b then tables_left gone ts else t ∷ tables_left gone ts) u
    at true there = there
    at false there = inr there

pub one_left : (gone : Value → Bool) (ts : List Table) (u : Table) → gone (table_key u.name) ≡ false → IsOneOf ts u
    → IsOneOf (tables_left gone ts) u
one_left gone [] u off is = absurd is
one_left gone (t ∷ ts) u off (inl same) = at (gone (table_key t.name)) refl
  where
    at : (b : Bool) → gone (table_key t.name) ≡ b
        → IsOneOf (if b then tables_left gone ts else t ∷ tables_left gone ts) u
    at true is = let both : true ≡ false = sym is ∙ (ap (λ (x : Table). gone (table_key x.name)) same ∙ off) in
        absurd cc
    at false is = inl same
one_left gone (t ∷ ts) u off (inr more) = at (gone (table_key t.name)) (one_left gone ts u off more)
  where
    at : (b : Bool) → IsOneOf (tables_left gone ts) u
        → IsOneOf (if b then tables_left gone ts else t ∷ tables_left gone ts) u
    at true there = there
    at false there = inr there

-- ---- the tables of pages

module _ (form : Form) (size : ℕ) (state now : ℕ → TxState) (t : ℕ) (old new : Pages) (a c : Layout) (r rc : Reading)
    (gone : Value → Bool) (raises : Raises state now t) (before : IsSoundBy form size now old a r)
    (after : IsSoundBy form size state new c rc) (takes : TakesBack form size now t old new a c r rc gone) where
  abbrev f : Facts
  f = facts_by now old a

  abbrev g : Facts
  g = facts_by now new (layout_left gone a c)

  abbrev cat : Table
  cat = a.catalog.table

  abbrev s : Reading
  s = reading_left gone a c r rc

  pub same_catalog : c.catalog.table ≡ a.catalog.table
  same_catalog = after.catalog ∙ (ap (λ (page : List ℕ). catalog_table (header_in page).catalog.0) takes.header
      ∙ sym before.catalog)

  -- a page of the catalog, before and after
  pub was_catalog : (n : ℕ) → f.table_of n ≡ Some cat → has c.catalog.data_pages n ≡ true
  was_catalog n is = takes.same n ∙ catalog_page form size now old a r before n is

  pub in_catalog : (n : ℕ) → g.table_of n ≡ Some cat → has c.catalog.data_pages n ≡ true
  in_catalog n is = at (has c.catalog.data_pages n) refl is
    where
      at : (b : Bool) → has c.catalog.data_pages n ≡ b
          → (if b then Some c.catalog.table else table_at (stands_left gone a.tables) n) ≡ Some cat
          → has c.catalog.data_pages n ≡ true
      at true here is_ = here
      at false off is_ = absurd (other_name form size now old a r before n cat
          (takes.stands n cat is_) (catalog_named form size now old a r before))

  pub of_catalog : (n : ℕ) → has c.catalog.data_pages n ≡ true → g.table_of n ≡ Some cat
  of_catalog n is = rw is (ap (λ (x : Table). Some x) same_catalog)

  pub was_of_catalog : (n : ℕ) → has c.catalog.data_pages n ≡ true → f.table_of n ≡ Some cat
  was_of_catalog n is = let here : has a.catalog.data_pages n ≡ true = sym (takes.same n) ∙ is in rw here refl

  -- a page of another table
  pub of_other : (n : ℕ) → has c.catalog.data_pages n ≡ false → g.table_of n ≡ table_at (stands_left gone a.tables) n
  of_other n off = rw off refl

  pub was_other : (n : ℕ) → has c.catalog.data_pages n ≡ false → f.table_of n ≡ table_at a.tables n
  was_other n off = let out : has a.catalog.data_pages n ≡ false = sym (takes.same n) ∙ off in rw out refl

  pub reads_catalog : (p : RecId) → has c.catalog.data_pages p.page.0 ≡ true → reading_left gone a c r rc p ≡ rc p
  reads_catalog p on = rw on refl

  -- ---- the rows of a choice

  each_keyed : (key : Value) (es : List Entry) → Each (IsVersion form.coding f cat key) es
      → Each (λ e. key_of cat e.row ≡ key) es
  each_keyed key [] each = tt
  each_keyed key (e ∷ es) each = (each.0.keyed, each_keyed key es each.1)

  -- what is shown of the catalog has the record's key
  pub row_keyed : (p : RecId) (chosen : ℕ → Bool) (row : Row) → has c.catalog.data_pages p.page.0 ≡ true
      → shown (committed_with f chosen) (r p) ≡ Some row → key_of cat row ≡ record_key cat (r p)
  row_keyed p chosen row on is = shown_keyed cat (record_key cat (r p)) (committed_with f chosen) (r p)
      (each_keyed (record_key cat (r p)) (r p) (before.records.each p cat (was_of_catalog p.page.0 on)).each) row is

  rows_are : (chosen : ℕ → Bool) (rows : Rows) → AreRows f (committed_with f chosen) r cat rows
      → AreRows g (committed_with g chosen) s cat (rows_left gone rows)
  rows_are chosen rows are = record {
    there = λ p row shows. there p row shows (takes.each p (in_catalog p.page.0 shows.of_table));
    whole = λ key row is. whole key row (row_was gone rows key row is).0 (row_was gone rows key row is).1;
  }
    where
      there : (p : RecId) (row : Row) → Shows g (committed_with g chosen) s p cat row
          → HasGone gone cat t (r p) (rc p) ⊎ IsLeft gone f cat (r p) (rc p)
          → rows_left gone rows (key_of cat row) ≡ Some row
      there p row shows is = by is
        where
          on : has c.catalog.data_pages p.page.0 ≡ true
          on = in_catalog p.page.0 shows.of_table

          it : shown (committed_with g chosen) (rc p) ≡ Some row
          it = ap (shown (committed_with g chosen)) (sym (reads_catalog p on)) ∙ shows.row_shown

          by : HasGone gone cat t (r p) (rc p) ⊎ IsLeft gone f cat (r p) (rc p)
              → rows_left gone rows (key_of cat row) ≡ Some row
          by (inl went) = let both : None ≡ Some row =
              sym (ap (shown (committed_with g chosen)) went.none) ∙ it in absurd cc
          by (inr left) = row_stays gone rows (key_of cat row) row
              (ap gone (row_keyed p chosen row on was) ∙ left.keyed
              (shown_takes f chosen (r p) (before.records.each p cat (was_of_catalog p.page.0 on)).backs row was))
              (are.there p row (record { of_table = was_of_catalog p.page.0 on; row_shown = was }))
            where
              was : shown (committed_with f chosen) (r p) ≡ Some row
              was = ap (shown (committed_with g chosen)) (sym left.same) ∙ it

      whole : (key : Value) (row : Row) → gone key ≡ false → rows key ≡ Some row
          → (p : RecId) × Shows g (committed_with g chosen) s p cat row × (key_of cat row ≡ key)
      whole key row off is = let (p, shows, keyed) = are.whole key row is in (
        p,
        record {
          of_table = of_catalog p.page.0 (was_catalog p.page.0 shows.of_table);
          row_shown = ap (shown (committed_with g chosen)) (reads_catalog p (was_catalog p.page.0 shows.of_table))
              ∙ by p shows keyed (takes.each p (was_catalog p.page.0 shows.of_table));
        },
        keyed,
      )
        where
          by : (p : RecId) → Shows f (committed_with f chosen) r p cat row → key_of cat row ≡ key
              → HasGone gone cat t (r p) (rc p) ⊎ IsLeft gone f cat (r p) (rc p)
              → shown (committed_with g chosen) (rc p) ≡ Some row
          by p shows keyed (inl went) = absurd (false≢true (sym off ∙ (ap gone (sym keyed
              ∙ row_keyed p chosen row (was_catalog p.page.0 shows.of_table) shows.row_shown) ∙ went.keyed)))
          by p shows keyed (inr left) = ap (shown (committed_with g chosen)) left.same ∙ shows.row_shown

  names_at : (chosen : ℕ → Bool) (ts : List Table) → CatalogNames size f (committed_with f chosen) r cat ts
      → CatalogNames size g (committed_with g chosen) s cat (tables_left gone ts)
  names_at chosen ts names = record {
    rows = rows_left gone names.rows;
    are_rows = rows_are chosen names.rows names.are_rows;
    are_tables = tables_are_left gone names.rows ts (takes.whole chosen names.rows names.are_rows) names.are_tables;
    fit = each_left gone (FitsPages size) (FitsPages size) ts (λ u off fits. fits) names.fit;
  }

  names_left_at : HasNames size g s cat (tables_left gone (map (λ x. x.table) a.tables))
  names_left_at = record {
    named = λ chosen. tables_left gone (before.names.named chosen);
    lawful = λ chosen. names_at chosen (before.names.named chosen) (before.names.lawful chosen);
    all = names_at (λ u. true) (map (λ x. x.table) a.tables) before.names.all;
    stay = λ chosen more within. each_left gone (StaysAmong (before.names.named more))
        (StaysAmong (tables_left gone (before.names.named more))) (before.names.named chosen)
        (λ u off stays. stays_left gone (before.names.named more) u off stays) (before.names.stay chosen more within);
  }

  pub names_left : HasNames size g s c.catalog.table (map (λ x. x.table) (layout_left gone a c).tables)
  names_left = subst (λ (x : Table). HasNames size g s x (map (λ y. y.table) (stands_left gone a.tables)))
      (sym same_catalog) (subst (HasNames size g s cat) (sym (tables_of_left gone a.tables)) names_left_at)
