-- An image has one layout at most.
use Rattle.std.proofs.Common.{◌≡◌, ◌≢◌, refl, sym, ap, ◌∙◌, subst, ℕ, Bool, true, false, List, [], ◌∷◌, Option, None, Some, arith}
use Rattle.std.proofs.Math.Path.{fun_ext}
use Rattle.mg_base.specs.Fields.{u16_at, u32_at}
use Rattle.mg_header.specs.HeaderPage.{database_checks}
use Rattle.mg_value.specs.declared.value.Value.{Value}
use Rattle.mg_model.specs.declared.table.Table.{Table}
use Rattle.mg_node.specs.NodePage.{right_in}
use Rattle.mg_pointer.specs.PointerPage.{next_in}
use Rattle.mg_image.specs.Catalog.{committed_with}
use Rattle.mg_image.specs.Form.{Pages, Row, Rows}
use Rattle.mg_image.specs.Held.{AreRows}
use Rattle.mg_image.specs.ReadingLaws.{HasOneReading}
use Rattle.mg_image.specs.RecordRules.{Facts}
use Rattle.mg_image.specs.Records.{Reading, cells_of}
use Rattle.mg_image.specs.Sound.{HasHeader, HasTablePages}
use Rattle.mg_image.specs.Tables.{EachStand, Layout, PointerChain, Stand, entries_in}
use Rattle.mg_reading.specs.declared.image.Image.{Image}
use Rattle.mg_reading.specs.declared.rows.RowCoding.{RowCoding}
use Rattle.mg_reading.specs.ChainLaws.{link_once}
use Rattle.mg_reading.specs.Codings.{coding_of}
use Rattle.mg_reading.specs.ImageView.{pages_in}
use Rattle.mg_catalog.specs.TableLaws.{tables_once}
use Rattle.mg_layout.specs.HasPages.{HasPages, IsStand, NamesTables, stand_facts, tables_in}
use Rattle.mg_layout.specs.TreeLaws.{trees_once}

-- an image has one layout at most
abbrev pub HasOneLayout : RowCoding → Type 0
HasOneLayout coding = (image : Image) (a b : Layout) → HasPages coding image a
    → HasPages coding image b → a ≡ b

-- a table stands in one way at most
pub same_stand : (size : ℕ) (pages : Pages) (s t : Stand)
    → HasTablePages false size pages s → HasTablePages false size pages t → s.table ≡ t.table
    → s ≡ t
same_stand size pages s t first second same = λ i. record {
  table = same i;
  pointers = chains i;
  data_pages = data_ i;
  trees = trees i;
}
  where
    chains : s.pointers ≡ t.pointers
    chains = link_once (λ n. next_in (pages n)) s.table.pointer.0 s.pointers t.pointers first.chain
        (subst (λ (x : Table). PointerChain pages x.pointer.0 t.pointers) (sym same) second.chain)

    data_ : s.data_pages ≡ t.data_pages
    data_ = first.entries ∙ (ap (entries_in pages) chains ∙ sym second.entries)

    trees : s.trees ≡ t.trees
    trees = trees_once size pages s.table.pointer.0 s.table.indexes s.trees t.trees
        first.trees (rw same second.trees)

pub same_stands : (image : Image) (ss ts : List Stand) → EachStand (IsStand image) ss → EachStand (IsStand image) ts → tables_in ss ≡ tables_in ts
    → ss ≡ ts
same_stands image [] [] first second same = refl
same_stands image [] (t ∷ ts) first second same = absurd cc
same_stands image (s ∷ ss) [] first second same = absurd cc
same_stands image (s ∷ ss) (t ∷ ts) first second same =
    let head : s.table ≡ t.table = cc in
    let tail : tables_in ss ≡ tables_in ts = cc in
    let here : s ≡ t = same_stand image.size (pages_in image) s t first.0 second.0 head in
    let rest : ss ≡ ts = same_stands image ss ts first.1 second.1 tail in
    λ i. here i ∷ rest i

-- the rows of a table are in one way
has_row : (f : Facts) (committed : ℕ → Bool) (r : Reading) (table : Table) (rows other : Rows)
    → AreRows f committed r table rows → AreRows f committed r table other → (key : Value)
    (row : Row) → rows key ≡ Some row → other key ≡ Some row
has_row f committed r table rows other are also key row is =
    let (p, shows, keyed) = are.whole key row is in
    ap other (sym keyed) ∙ also.there p row shows

pub rows_once : (f : Facts) (committed : ℕ → Bool) (r : Reading) (table : Table)
    (rows other : Rows) → AreRows f committed r table rows → AreRows f committed r table other
    → rows ≡ other
rows_once f committed r table rows other are also =
    fun_ext (λ key. at key (rows key) (other key) refl refl)
  where
    at : (key : Value) (row next : Option Row) → rows key ≡ row → other key ≡ next
        → rows key ≡ other key
    at key None None is as_ = is ∙ sym as_
    at key (Some row) next is as_ =
        is ∙ sym (has_row f committed r table rows other are also key row is)
    at key None (Some row) is as_ =
        has_row f committed r table other rows also are key row as_ ∙ sym as_

pub names_once : (coding : RowCoding) → HasOneReading (coding_of coding)
    → (image : Image) (stand : Stand) (ts us : List Table) → NamesTables coding image stand ts
    → NamesTables coding image stand us → ts ≡ us
names_once coding one image stand ts us first second =
    let same : first.reading ≡ second.reading = fun_ext (one (stand_facts image stand)
    (cells_of (pages_in image)) first.reading second.reading first.records second.records) in
    let are = first.names.all in let also = second.names.all in
    let one_rows : are.rows ≡ also.rows = rows_once (stand_facts image stand)
    (committed_with (stand_facts image stand) (λ t. true)) second.reading stand.table are.rows
    also.rows (rw (sym same) are.are_rows) also.are_rows in
    tables_once also.rows ts us (rw (sym one_rows) are.are_tables) also.are_tables

pub layout_once : (coding : RowCoding) → HasOneReading (coding_of coding)
    → HasOneLayout coding
layout_once coding one image a b first second = λ i. record {
  catalog = catalog i;
  tables = others i;
  sequences = sequences i;
}
  where
    catalog : a.catalog ≡ b.catalog
    catalog = same_stand image.size (pages_in image) a.catalog b.catalog first.tables.0
        second.tables.0 (first.catalog ∙ sym second.catalog)

    named : tables_in a.tables ≡ tables_in b.tables
    named = names_once coding one image b.catalog (tables_in a.tables) (tables_in b.tables)
        (subst (λ (s : Stand). NamesTables coding image s (tables_in a.tables)) catalog first.names)
        second.names

    others : a.tables ≡ b.tables
    others = same_stands image a.tables b.tables first.tables.1 second.tables.1 named

    sequences : a.sequences ≡ b.sequences
    sequences = first.sequences ∙ sym second.sequences
