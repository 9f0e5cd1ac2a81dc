-- The tables that the catalog names.
use Rattle.std.proofs.Common.{◌≡◌, sym, ap, subst, ℕ, Bool, true, List, []}
use Rattle.std.proofs.Math.Path.{fun_ext}
use Rattle.mg_model.specs.declared.table.Table.{Table}
use Rattle.mg_value.specs.declared.shape.Shape.{Shape}
use Rattle.mg_model.specs.Catalog.{catalog_shape}
use Rattle.mg_model.specs.CatalogRules.{AreTables, EachTable}
use Rattle.mg_catalog.specs.TableLaws.{tables_once}
use Rattle.mg_image.specs.Catalog.{CatalogNames, IsWithin, StaysAmong, committed_with}
use Rattle.mg_image.specs.Form.{Row, Rows, packed_coding, plain_coding}
use Rattle.mg_image.specs.Held.{AreRows}
use Rattle.mg_image.specs.ReadingLaws.{HasOneReading}
use Rattle.mg_image.specs.RecordRules.{AreRecords}
use Rattle.mg_image.specs.Records.{Reading, cells_of}
use Rattle.mg_image.specs.Tables.{Stand, has}
use Rattle.mg_reading.specs.declared.found.Found.{Found}
use Rattle.mg_reading.specs.declared.image.Image.{Image}
use Rattle.mg_reading.specs.declared.rows.RowCoding.{RowCoding}
use Rattle.mg_reading.specs.declared.rows.RowCoding.TheVariants.{Plain, Packed}
use Rattle.mg_reading.specs.Codings.{coding_of}
use Rattle.mg_reading.specs.Found.{AreFound, image_facts, reading_of}
use Rattle.mg_reading.specs.ImageView.{pages_in}
use Rattle.mg_reading.specs.OneTable.{table_facts}
use Rattle.mg_reading.specs.Readable.{HasReading}
use Rattle.mg_catalog.specs.ByKey.{by_key}
use Rattle.mg_layout.specs.Choices.{AreAlwaysLawful, AreLawfulFrom, DoTablesStay, HasWriters, Names, RowsName, rows_with}
use Rattle.mg_layout.specs.HasPages.{NamesTables, stand_facts}
use Rattle.mg_layout.specs.LayoutLaws.{rows_once}
use Rattle.mg_layout.specs.Refusals.{NamesSome}
use Rattle.mg_layout.proofs.CatalogLemmas.{IsTableFound, catalog_found, rows_are}
use Rattle.mg_layout.proofs.ChoiceLemmas.{all_taken, always_lawful, same_rows}

-- the slots of the data pages of a stand were read
pub table_found : (coding : RowCoding) (image : Image) (table : Table) (ns ms : List ℕ)
    (found : List Found) → ms ≡ ns → AreFound coding image table ms found
    → AreRecords (coding_of coding) (table_facts image table ms) (cells_of (pages_in image))
    (reading_of found) → IsTableFound coding image table ns found
table_found coding image table ns ms found is each records =
    subst (λ (xs : List ℕ). IsTableFound coding image table xs found) is (record {
      each = each;
      records = records;
    })

pub catalog_key : (table : Table) → table.shape ≡ catalog_shape → table.shape.key ≡ 0
catalog_key table is = ap (λ (s : Shape). s.key) is

-- each coding has one reading
pub one_of : (coding : RowCoding) → HasOneReading plain_coding → HasOneReading packed_coding
    → HasOneReading (coding_of coding)
one_of Plain plain packed = plain
one_of Packed plain packed = packed

pub names_reading : (coding : RowCoding) (image : Image) (stand : Stand)
    → NamesSome coding image stand → HasReading coding image stand.table stand.data_pages
names_reading coding image stand (tables, names) = (names.reading, names.records)

-- the rows that were read are those of any reading
names_lawful : (coding : RowCoding) → HasOneReading (coding_of coding) → (image : Image)
    (stand : Stand) (found : List Found) → stand.table.shape.key ≡ 0
    → IsTableFound coding image stand.table stand.data_pages found → NamesSome coding image stand
    → AreAlwaysLawful image.size (image_facts image) found
names_lawful coding one image stand found first are (tables, names) =
    λ chosen more within. record {
      tables = names.names.named chosen;
      more = names.names.named more;
      named = rows_name chosen;
      named_more = rows_name more;
      stay = names.names.stay chosen more within;
    }
  where
    same : names.reading ≡ reading_of found
    same = fun_ext (one (stand_facts image stand) (cells_of (pages_in image)) names.reading
        (reading_of found) names.records are.records)

    rows_name : (chosen : ℕ → Bool) → RowsName image.size
        (rows_with (image_facts image) found chosen) (names.names.named chosen)
    rows_name chosen =
        let is = names.names.lawful chosen in
        let one_rows : is.rows ≡ by_key (rows_with (image_facts image) found chosen) =
        rows_once (stand_facts image stand) (committed_with (stand_facts image stand) chosen)
        (reading_of found) stand.table is.rows
        (by_key (rows_with (image_facts image) found chosen))
        (subst (λ (r : Reading). AreRows (stand_facts image stand)
        (committed_with (stand_facts image stand) chosen) r stand.table is.rows) same is.are_rows)
        (rows_are coding image stand.table stand.data_pages found chosen first are) in (
          subst (λ (xs : Rows). AreTables xs (names.names.named chosen)) one_rows is.are_tables,
          is.fit,
        )

pub names_always : (coding : RowCoding) → HasOneReading plain_coding
    → HasOneReading packed_coding → (image : Image) (stand : Stand) (found : List Found)
    → stand.table.shape.key ≡ 0 → IsTableFound coding image stand.table stand.data_pages found
    → NamesSome coding image stand → AreAlwaysLawful image.size (image_facts image) found
names_always coding plain packed image stand found first are names =
    names_lawful coding (one_of coding plain packed) image stand found first are names

-- where the rows are lawful under each choice, they name the tables with all limbo transactions
pub names_are : (coding : RowCoding) (image : Image) (stand : Stand) (found : List Found)
    (writers : List ℕ) (tables : List Table) → stand.table.shape.key ≡ 0
    → IsTableFound coding image stand.table stand.data_pages found
    → HasWriters (image_facts image) writers found
    → AreLawfulFrom image.size (image_facts image) found [] [] writers
    → Names image.size (image_facts image) found (has writers) tables
    → NamesTables coding image stand tables
names_are coding image stand found writers tables first are have lawful named = record {
  reading = reading_of found;
  records = are.records;
  names = record {
    named = λ chosen. (self chosen).tables;
    lawful = λ chosen. names chosen (self chosen).tables (self chosen).named;
    all = names (λ t. true) tables (subst (λ (rows : List Row). RowsName image.size rows tables)
        (sym (same_rows (image_facts image) (λ t. true) (has writers) found
        (catalog_found coding image stand.table stand.data_pages found first are).backs
        (all_taken (image_facts image) found writers have))) named);
    stay = stay;
  };
}
  where
    always : AreAlwaysLawful image.size (image_facts image) found
    always = always_lawful image.size (image_facts image) found writers have lawful

    self : (chosen : ℕ → Bool) → DoTablesStay image.size
        (rows_with (image_facts image) found chosen) (rows_with (image_facts image) found chosen)
    self chosen = always chosen chosen (λ t is. is)

    names : (chosen : ℕ → Bool) (ts : List Table)
        → RowsName image.size (rows_with (image_facts image) found chosen) ts
        → CatalogNames image.size (stand_facts image stand)
        (committed_with (stand_facts image stand) chosen) (reading_of found) stand.table ts
    names chosen ts is = record {
      rows = by_key (rows_with (image_facts image) found chosen);
      are_rows = rows_are coding image stand.table stand.data_pages found chosen first are;
      are_tables = is.0;
      fit = is.1;
    }

    stay : (chosen more : ℕ → Bool) → IsWithin chosen more
        → EachTable (StaysAmong (self more).tables) (self chosen).tables
    stay chosen more within =
        let both = always chosen more within in
        let one : both.tables ≡ (self chosen).tables = tables_once
        (by_key (rows_with (image_facts image) found chosen)) both.tables (self chosen).tables
        both.named.0 (self chosen).named.0 in
        let wide : both.more ≡ (self more).tables = tables_once
        (by_key (rows_with (image_facts image) found more)) both.more (self more).tables
        both.named_more.0 (self more).named.0 in
        subst (λ (ts : List Table). EachTable (StaysAmong (self more).tables) ts) one
        (subst (λ (ts : List Table). EachTable (StaysAmong ts) both.tables) wide both.stay)
