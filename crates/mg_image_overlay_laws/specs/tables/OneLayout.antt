-- A sound image has one layout and one reading at most.
use Rattle.std.proofs.Common.{◌≡◌, ap, refl, sym, subst, ◌∙◌, ℕ, Bool, true, false, List, [], ◌∷◌, Option, None, Some}
use Rattle.std.specs.Prelude.{if◌then◌else◌, map}
use Rattle.std.proofs.Math.Path.{fun_ext}
use Rattle.mg_base.specs.declared.numbers.RecId.{RecId}
use Rattle.mg_base.specs.declared.transaction.TxState.{TxState}
use Rattle.mg_value.specs.declared.value.Value.{Value}
use Rattle.mg_model.specs.declared.table.Table.{Table}
use Rattle.mg_image.specs.Catalog.{CatalogNames, committed_with}
use Rattle.mg_image.specs.Form.{Form, Pages, Row}
use Rattle.mg_image.specs.Indexes.{EachPage}
use Rattle.mg_image.specs.ReadingLaws.{RowsAreOne, chain_once, reading_once}
use Rattle.mg_image.specs.RecordRules.{AreRecords, Facts, IsVersion, table_in}
use Rattle.mg_image.specs.FactLaws.{each_has}
use Rattle.mg_image.specs.Records.{Reading, cells_of, newest_of, record_key, shown}
use Rattle.mg_image.specs.Sound.{HasTablePages, IsSoundBy, facts_by}
use Rattle.mg_image.specs.Tables.{EachStand, Layout, Stand, has, stands_of, table_at}
use Rattle.mg_image.specs.declared.entry.Entry.{Entry}
use Rattle.mg_image_overlay_laws.specs.pages.Kinds.{HasNoSequences}
use Rattle.mg_catalog.specs.TableLaws.{tables_once}
use Rattle.mg_image_overlay_laws.specs.tables.OneChain.{same_stand, same_stands}

-- two layouts with readings, under which an image is sound, are one
abbrev pub StandsOneWay : Form → Type 0
StandsOneWay form = (size : ℕ) (state : ℕ → TxState) (pages : Pages) (a b : Layout) (r s : Reading)
    → IsSoundBy form size state pages a r → IsSoundBy form size state pages b s → (a ≡ b) × (r ≡ s)

-- a page that is one of a table's is one of those that it has where it stands
data_of : (in_primary : Bool) (size : ℕ) (pages : Pages) (stand : Stand) (stands : List Stand)
    → HasTablePages in_primary size pages stand
    → EachStand (HasTablePages in_primary size pages) stands → (n : ℕ)
    → table_at stands n ≡ Some stand.table → has stand.data_pages n ≡ true
data_of in_primary size pages stand [] stands_so each n is = absurd cc
data_of in_primary size pages stand (other ∷ stands) stands_so each n is =
    at (has other.data_pages n) refl is
    (data_of in_primary size pages stand stands stands_so each.1 n)
  where
    at : (c : Bool) → has other.data_pages n ≡ c
        → (if c then Some other.table else table_at stands n) ≡ Some stand.table
        → (table_at stands n ≡ Some stand.table → has stand.data_pages n ≡ true)
        → has stand.data_pages n ≡ true
    at true here is more =
        let same : other.table ≡ stand.table = cc in
        subst (λ (x : Stand). has x.data_pages n ≡ true)
        (same_stand in_primary size pages other stand each.0 stands_so same) here
    at false out is more = more is

no_sequences : (P : ℕ → Type 0) → ((n : ℕ) → P n → ⊥) → (ns : List ℕ) → EachPage P ns → ns ≡ []
no_sequences P none [] each = refl
no_sequences P none (n ∷ ns) each = absurd (none n each.0)

module _ (form : Form) (one : RowsAreOne form.coding) (none : HasNoSequences form) (size : ℕ)
    (state : ℕ → TxState) (pages : Pages) (a b : Layout) (r s : Reading)
    (first : IsSoundBy form size state pages a r) (second : IsSoundBy form size state pages b s) where
  abbrev f : Facts
  f = facts_by state pages a

  abbrev g : Facts
  g = facts_by state pages b

  catalog_table_is : a.catalog.table ≡ b.catalog.table
  catalog_table_is = first.catalog ∙ sym second.catalog

  catalog_is : a.catalog ≡ b.catalog
  catalog_is = same_stand form.in_primary size pages a.catalog b.catalog first.tables.0 second.tables.0
      catalog_table_is

  abbrev cat : Table
  cat = a.catalog.table

  -- ---- the catalog's records

  in_second : (n : ℕ) → f.table_of n ≡ Some cat → g.table_of n ≡ Some cat
  in_second n is =
      let here : has a.catalog.data_pages n ≡ true = data_of form.in_primary size pages a.catalog
      (stands_of a) first.tables.0 first.tables n is in
      let also : has b.catalog.data_pages n ≡ true =
      subst (λ (x : Stand). has x.data_pages n ≡ true) catalog_is here in
      rw also (ap Some (sym catalog_table_is))

  in_first : (n : ℕ) → g.table_of n ≡ Some cat → f.table_of n ≡ Some cat
  in_first n is =
      let there : has b.catalog.data_pages n ≡ true = data_of form.in_primary size pages b.catalog
      (stands_of b) second.tables.0 second.tables n (is ∙ ap Some catalog_table_is) in
      let here : has a.catalog.data_pages n ≡ true =
      subst (λ (x : Stand). has x.data_pages n ≡ true) (sym catalog_is) there in rw here refl

  version_too : (key : Value) (e : Entry) → IsVersion form.coding g cat key e
      → IsVersion form.coding f cat key e
  version_too key e is = record {
    placed = in_first e.at.page.0 is.placed;
    drawn = is.drawn;
    dead = is.dead;
    format = is.format;
    spelled = is.spelled;
    storable = is.storable;
    erased = is.erased;
    keyed = is.keyed;
  }

  read_once : (p : RecId) → table_in f p ≡ Some cat → r p ≡ s p
  read_once p of = chain_once form.coding one f cat (cells_of pages) (record_key cat (r p))
      (record_key cat (s p)) (newest_of p (cells_of pages p)) (r p) (s p) (first.records.reads p cat of)
      (second.records.reads p cat of_second) ((first.records.each p cat of).each)
      (each_has (IsVersion form.coding g cat (record_key cat (s p)))
      (IsVersion form.coding f cat (record_key cat (s p))) (version_too (record_key cat (s p))) (s p)
      (second.records.each p cat of_second).each)
    where
      of_second : table_in g p ≡ Some cat
      of_second = in_second p.page.0 of

  -- ---- the rows, and the tables that they name

  abbrev all : ℕ → Bool
  all = committed_with f (λ t. true)

  abbrev tables_of : Layout → List Table
  tables_of layout = map (λ stand. stand.table) layout.tables

  names_first : CatalogNames size f all r cat (tables_of a)
  names_first = first.names.all

  names_second : CatalogNames size g all s cat (tables_of b)
  names_second = subst (λ (table : Table). CatalogNames size g all s table (tables_of b))
      (sym catalog_table_is) second.names.all

  row_there : (key : Value) (row : Row) → names_first.rows key ≡ Some row
      → names_second.rows key ≡ Some row
  row_there key row is =
      let (p, shows, keyed) = names_first.are_rows.whole key row is in
      ap names_second.rows (sym keyed) ∙ names_second.are_rows.there p row (record {
        of_table = in_second p.page.0 shows.of_table;
        row_shown = ap (shown all) (sym (read_once p shows.of_table)) ∙ shows.row_shown;
      })

  row_here : (key : Value) (row : Row) → names_second.rows key ≡ Some row
      → names_first.rows key ≡ Some row
  row_here key row is =
      let (p, shows, keyed) = names_second.are_rows.whole key row is in
      let of : table_in f p ≡ Some cat = in_first p.page.0 shows.of_table in
      ap names_first.rows (sym keyed) ∙ names_first.are_rows.there p row (record {
        of_table = of;
        row_shown = ap (shown all) (read_once p of) ∙ shows.row_shown;
      })

  rows_are : names_first.rows ≡ names_second.rows
  rows_are = fun_ext (λ key. at key (names_first.rows key) (names_second.rows key) refl refl)
    where
      at : (key : Value) (row next : Option Row) → names_first.rows key ≡ row
          → names_second.rows key ≡ next → names_first.rows key ≡ names_second.rows key
      at key None None is as_ = is ∙ sym as_
      at key (Some row) next is as_ = is ∙ sym (row_there key row is)
      at key None (Some row) is as_ = row_here key row as_ ∙ sym as_

  tables_are : tables_of a ≡ tables_of b
  tables_are = tables_once names_second.rows (tables_of a) (tables_of b)
      (rw (sym rows_are) names_first.are_tables) names_second.are_tables

  layout_is : a ≡ b
  layout_is = λ i. record {
    catalog = catalog_is i;
    tables = others i;
    sequences = sequences i;
  }
    where
      others : a.tables ≡ b.tables
      others = same_stands form.in_primary size pages a.tables b.tables first.tables.1 second.tables.1
          tables_are

      sequences : a.sequences ≡ b.sequences
      sequences = no_sequences (λ n. form.sequence_page (pages n) n) (λ n is. none (pages n) n is)
          a.sequences first.sequences
          ∙ sym (no_sequences (λ n. form.sequence_page (pages n) n) (λ n is. none (pages n) n is)
          b.sequences second.sequences)

  reading_is : r ≡ s
  reading_is = fun_ext (reading_once form.coding one f (cells_of pages) r s first.records
      (subst (λ (x : Layout). AreRecords form.coding (facts_by state pages x) (cells_of pages) s)
      (sym layout_is) second.records))

  pub sound_once : (a ≡ b) × (r ≡ s)
  sound_once = (layout_is, reading_is)
