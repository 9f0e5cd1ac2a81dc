-- A data page is changed, of a table that is not the catalog: the tables stand where they stood.
use Rattle.std.proofs.Common.{◌≡◌, ◌≢◌, ◌<◌, ◌≤◌, ap, refl, sym, subst, ◌∙◌, ℕ, Bool, true, List, [], ◌∷◌, Option, None, Some}
use Rattle.std.specs.Prelude.{map}
use Rattle.std.proofs.Math.Path.{fun_ext}
use Rattle.mg_base.specs.declared.numbers.RecId.{RecId}
use Rattle.mg_base.specs.declared.transaction.TxState.{TxState}
use Rattle.mg_header.specs.declared.header.Header.{Header}
use Rattle.mg_value.specs.declared.value.Value.{Value}
use Rattle.mg_version.specs.declared.cell.Cell.{Cell}
use Rattle.mg_version.specs.declared.cell.Link.{Link}
use Rattle.mg_slots.specs.DataPage.{cell_of}
use Rattle.mg_model.specs.declared.table.Table.{Table}
use Rattle.mg_catalog.specs.TableLaws.{tables_once}
use Rattle.mg_image.specs.Catalog.{CatalogNames, catalog_table, committed_with}
use Rattle.mg_image.specs.FactLaws.{each_has}
use Rattle.mg_image.specs.Form.{Form, Pages, Row}
use Rattle.mg_image.specs.Indexes.{EachPage}
use Rattle.mg_image.specs.ReadingLaws.{RowsAreOne, chain_once}
use Rattle.mg_image.specs.RecordRules.{Each, Facts, IsVersion, table_in}
use Rattle.mg_image.specs.Records.{Cells, Chain, Reading, cells_of, ended, goes, newest_of, record_key, shown, slot_cell}
use Rattle.mg_image.specs.Sound.{HasTablePages, IsSoundBy, facts_by}
use Rattle.mg_image.specs.Tables.{EachStand, Layout, Stand, has, stands_of, table_at}
use Rattle.mg_image.specs.declared.entry.Entry.{Entry}
use Rattle.mg_image_overlay_laws.specs.pages.Kinds.{HasNoSequences}
use Rattle.mg_image_overlay_laws.specs.tables.OneChain.{same_stand, same_stands}
use Rattle.mg_image_overlay_laws.specs.pages.DataKept.{IsDataChanged, data_facts}
use Rattle.mg_image_overlay_laws.specs.tables.OneTable.{data_of}

no_pages : (P : ℕ → Type 0) → ((n : ℕ) → P n → ⊥) → (ns : List ℕ) → EachPage P ns → ns ≡ []
no_pages P none [] each = refl
no_pages P none (n ∷ ns) each = absurd (none n each.0)

-- cells of the catalog's pages are as they were
abbrev pub LeavesCatalog : (ℕ → TxState) → Pages → Pages → Layout → Type 0
LeavesCatalog state old new a = (x : RecId)
    → table_in (facts_by state old a) x ≡ Some a.catalog.table → cells_of new x ≡ cells_of old x

-- a page that is a table's, which is not the catalog, leaves them
pub page_leaves : (state : ℕ → TxState) (old new : Pages) (a : Layout) (b : ℕ) (table : Table)
    → ((n : ℕ) → n ≢ b → new n ≡ old n) → table_at (stands_of a) b ≡ Some table
    → table ≢ a.catalog.table → LeavesCatalog state old new a
page_leaves state old new a b table others of other x is =
    ap (λ (page : List ℕ). slot_cell (cell_of page x.slot)) (others x.page.0 off)
  where
    off : x.page.0 ≢ b
    off same =
        let both : Some a.catalog.table ≡ Some table = sym is ∙ (ap (table_at (stands_of a)) same ∙ of) in
        let one_table : table ≡ a.catalog.table = cc in other one_table

pub leaves_on : (state : ℕ → TxState) (old mid new : Pages) (a : Layout) → LeavesCatalog state old mid a
    → LeavesCatalog state mid new a → LeavesCatalog state old new a
leaves_on state old mid new a first second x is = second x is ∙ first x is

-- ---- chains whose cells stay

-- versions whose cells are as they were are a chain still
pub chain_stays : (h k : Cells) (l : Option Link) (es : List Entry) → Chain h l es
    → Each (λ e. k e.at ≡ h e.at) es → Chain k l es
chain_stays h k l es ended each = ended
chain_stays h k l es (goes m e fs at cell tx more) each =
    goes m e fs at (each.0 ∙ cell) tx (chain_stays h k e.version.back fs more each.1)

module _ (form : Form) (one : RowsAreOne form.coding) (none : HasNoSequences form) (size : ℕ)
    (state : ℕ → TxState) (old new : Pages) (a c : Layout) (r s : Reading)
    (first : IsSoundBy form size state old a r) (second : IsSoundBy form size state new c s)
    (change : IsDataChanged form size old new a) (others : LeavesCatalog state old new a) where
  abbrev f : Facts
  f = facts_by state old a

  abbrev g : Facts
  g = facts_by state new c

  abbrev tables_still : EachStand (HasTablePages form.in_primary size new) (stands_of a)
  tables_still = change.tables

  facts_still : facts_by state new a ≡ f
  facts_still = data_facts form size state old a r first new change

  catalog_table_is : a.catalog.table ≡ c.catalog.table
  catalog_table_is = first.catalog ∙ (ap (λ (h : Header). catalog_table h.catalog.0)
      (sym change.header_is) ∙ sym second.catalog)

  catalog_is : a.catalog ≡ c.catalog
  catalog_is = same_stand form.in_primary size new a.catalog c.catalog tables_still.0 second.tables.0
      catalog_table_is

  abbrev cat : Table
  cat = a.catalog.table

  -- ---- the catalog's records

  in_second : (n : ℕ) → f.table_of n ≡ Some cat → g.table_of n ≡ Some cat
  in_second n is =
      let here : has a.catalog.data_pages n ≡ true = data_of form.in_primary size new a.catalog
      (stands_of a) tables_still.0 tables_still n is in
      let also : has c.catalog.data_pages n ≡ true =
      subst (λ (x : Stand). has x.data_pages n ≡ true) catalog_is here in
      rw also (ap Some (sym catalog_table_is))

  in_first : (n : ℕ) → g.table_of n ≡ Some cat → f.table_of n ≡ Some cat
  in_first n is =
      let there : has c.catalog.data_pages n ≡ true = data_of form.in_primary size new c.catalog
      (stands_of c) second.tables.0 second.tables n (is ∙ ap Some catalog_table_is) in
      let here : has a.catalog.data_pages n ≡ true =
      subst (λ (x : Stand). has x.data_pages n ≡ true) (sym catalog_is) there in rw here refl

  version_too : (key : Value) (e : Entry) → IsVersion form.coding g cat key e
      → IsVersion form.coding f cat key e
  version_too key e is = record {
    placed = in_first e.at.page.0 is.placed;
    drawn = subst (λ (x : Facts). e.version.tx.0 < x.next) next_still is.drawn;
    dead = λ dead. subst (λ (x : Facts). x.oldest ≤ e.version.tx.0) next_still (is.dead dead);
    format = is.format;
    spelled = is.spelled;
    storable = is.storable;
    erased = is.erased;
    keyed = is.keyed;
  }
    where
      next_still : facts_by state new c ≡ record f { table_of = table_at (stands_of c) }
      next_still = ap (λ (x : Facts). record x { table_of = table_at (stands_of c) }) facts_still

  cell_still : (x : RecId) → table_in f x ≡ Some cat → cells_of new x ≡ cells_of old x
  cell_still = others

  read_still : (p : RecId) → table_in f p ≡ Some cat
      → Chain (cells_of new) (newest_of p (cells_of new p)) (r p)
  read_still p is = subst (λ (x : Option Cell). Chain (cells_of new) (newest_of p x) (r p))
      (sym (cell_still p is)) (chain_stays (cells_of old) (cells_of new) (newest_of p (cells_of old p)) (r p)
      (first.records.reads p cat is) (each_has (IsVersion form.coding f cat (record_key cat (r p)))
      (λ e. cells_of new e.at ≡ cells_of old e.at) (λ e v. cell_still e.at v.placed) (r p)
      (first.records.each p cat is).each))

  read_once : (p : RecId) → table_in f p ≡ Some cat → r p ≡ s p
  read_once p is = chain_once form.coding one f cat (cells_of new) (record_key cat (r p))
      (record_key cat (s p)) (newest_of p (cells_of new p)) (r p) (s p) (read_still p is)
      (second.records.reads p cat of_second) ((first.records.each p cat is).each)
      (each_has (IsVersion form.coding g cat (record_key cat (s p)))
      (IsVersion form.coding f cat (record_key cat (s p))) (version_too (record_key cat (s p))) (s p)
      (second.records.each p cat of_second).each)
    where
      of_second : table_in g p ≡ Some cat
      of_second = in_second p.page.0 is

  -- ---- the rows, and the tables that they name

  abbrev all : ℕ → Bool
  all = committed_with f (λ t. true)

  abbrev tables_of : Layout → List Table
  tables_of layout = map (λ stand. stand.table) layout.tables

  names_first : CatalogNames size f all r cat (tables_of a)
  names_first = first.names.all

  names_second : CatalogNames size g all s cat (tables_of c)
  names_second = subst (λ (x : Table). CatalogNames size g all s x (tables_of c))
      (sym catalog_table_is) second.names.all

  row_there : (key : Value) (row : Row) → names_first.rows key ≡ Some row
      → names_second.rows key ≡ Some row
  row_there key row is =
      let (p, shows, keyed) = names_first.are_rows.whole key row is in
      ap names_second.rows (sym keyed) ∙ names_second.are_rows.there p row (record {
        of_table = in_second p.page.0 shows.of_table;
        row_shown = ap (shown all) (sym (read_once p shows.of_table)) ∙ shows.row_shown;
      })

  row_here : (key : Value) (row : Row) → names_second.rows key ≡ Some row
      → names_first.rows key ≡ Some row
  row_here key row is =
      let (p, shows, keyed) = names_second.are_rows.whole key row is in
      let its : table_in f p ≡ Some cat = in_first p.page.0 shows.of_table in
      ap names_first.rows (sym keyed) ∙ names_first.are_rows.there p row (record {
        of_table = its;
        row_shown = ap (shown all) (read_once p its) ∙ shows.row_shown;
      })

  rows_are : names_first.rows ≡ names_second.rows
  rows_are = fun_ext (λ key. at key (names_first.rows key) (names_second.rows key) refl refl)
    where
      at : (key : Value) (row next : Option Row) → names_first.rows key ≡ row
          → names_second.rows key ≡ next → names_first.rows key ≡ names_second.rows key
      at key None None is as_ = is ∙ sym as_
      at key (Some row) next is as_ = is ∙ sym (row_there key row is)
      at key None (Some row) is as_ = row_here key row as_ ∙ sym as_

  tables_are : tables_of a ≡ tables_of c
  tables_are = tables_once names_second.rows (tables_of a) (tables_of c)
      (rw (sym rows_are) names_first.are_tables) names_second.are_tables

  pub layout_stays : a ≡ c
  layout_stays = λ i. record {
    catalog = catalog_is i;
    tables = tables_same i;
    sequences = sequences i;
  }
    where
      tables_same : a.tables ≡ c.tables
      tables_same = same_stands form.in_primary size new a.tables c.tables tables_still.1 second.tables.1
          tables_are

      sequences : a.sequences ≡ c.sequences
      sequences = no_pages (λ n. form.sequence_page (old n) n) (λ n is. none (old n) n is)
          a.sequences first.sequences
          ∙ sym (no_pages (λ n. form.sequence_page (new n) n) (λ n is. none (new n) n is)
          c.sequences second.sequences)
