-- An image meets all rules exactly where it is sound.
use Rattle.std.proofs.Common.{◌≡◌, inl, refl, ℕ, Bool, true, List, [], ◌∷◌}
use Rattle.mg_base.specs.declared.numbers.RecId.{RecId}
use Rattle.mg_model.specs.declared.table.Table.{Table}
use Rattle.mg_image.specs.Catalog.{CatalogNames, HasNames, committed_with}
use Rattle.mg_image.specs.Form.{NoSequence, Row, Rows}
use Rattle.mg_image.specs.Held.{AreRows, Shows}
use Rattle.mg_image.specs.Indexes.{EachPage}
use Rattle.mg_image.specs.ReadingLaws.{HasOneReading}
use Rattle.mg_image.specs.RecordRules.{AreRecords, Facts}
use Rattle.mg_image.specs.Records.{Reading, cells_of}
use Rattle.mg_image.specs.Tables.{Stand, has, stands_of}
use Rattle.mg_layout.specs.HasPages.{HasPages, NamesTables, tables_in}
use Rattle.mg_reading.specs.declared.image.Image.{Image}
use Rattle.mg_reading.specs.declared.point.Rule.TheVariants.{Indexed}
use Rattle.mg_reading.specs.declared.rows.RowCoding.{RowCoding}
use Rattle.mg_reading.specs.AloneLaws.{table_alone}
use Rattle.mg_reading.specs.Codings.{coding_of}
use Rattle.mg_reading.specs.ImageView.{pages_in}
use Rattle.mg_reading.specs.OneTable.{stands_facts, table_facts}
use Rattle.mg_reading.specs.PartLaws.{backs_of, drawn_of, keys_of, records_of, versions_of}
use Rattle.mg_reading.specs.StandLaws.{IsOneOf, has_back, once_stands, one_of, page_of_table, restricted, table_at_one}
use Rattle.mg_soundness.specs.Ladder.{IsSoundImage, Meets}
use Rattle.mg_soundness.specs.Rungs.{MeetsIndexed, layout_facts}

-- what two readings have at the places of a table is the same
abbrev IsSameIn : Stand → Reading → Reading → Type 0
IsSameIn s r own = (p : RecId) → has s.data_pages p.page.0 ≡ true → r p ≡ own p

-- a row that is shown among all tables is shown in its own
shows_alone : (image : Image) (ss : List Stand) (s : Stand) (r own : Reading) → IsOneOf ss s
    → IsSameIn s r own → (committed : ℕ → Bool) (p : RecId) (row : Row)
    → Shows (stands_facts image ss) committed r p s.table row
    → Shows (table_facts image s.table s.data_pages) committed own p s.table row
shows_alone image ss s r own is same committed p row shows =
    let there = is.back p shows.of_table in record {
      of_table = table_at_one s.table s.data_pages p.page.0
          (has_back s.data_pages p.page.0 there);
      row_shown = rw (same p there) at shows.row_shown;
    }

-- and the other way
shows_among : (image : Image) (ss : List Stand) (s : Stand) (r own : Reading) → IsOneOf ss s
    → IsSameIn s r own → (committed : ℕ → Bool) (p : RecId) (row : Row)
    → Shows (table_facts image s.table s.data_pages) committed own p s.table row
    → Shows (stands_facts image ss) committed r p s.table row
shows_among image ss s r own is same committed p row shows =
    let there = (page_of_table s.table s.table s.data_pages p.page.0 shows.of_table).1 in record {
      of_table = is.mine p there;
      row_shown = rw (same p there) shows.row_shown;
    }

-- rows that are shown by both are those of both
rows_as : (f g : Facts) (r s : Reading) (committed : ℕ → Bool) (table : Table) (rows : Rows)
    → ((p : RecId) (row : Row) → Shows f committed r p table row → Shows g committed s p table row)
    → ((p : RecId) (row : Row) → Shows g committed s p table row → Shows f committed r p table row)
    → AreRows f committed r table rows → AreRows g committed s table rows
rows_as f g r s committed table rows to back are = record {
  there = λ p row shows. are.there p row (back p row shows);
  whole = λ key row is. let (p, shows, keyed) = are.whole key row is in
      (p, to p row shows, keyed);
}

-- the catalog names the same tables among all tables and alone
names_alone : (image : Image) (ss : List Stand) (s : Stand) (r own : Reading) → IsOneOf ss s
    → IsSameIn s r own → (tables : List Table)
    → HasNames image.size (stands_facts image ss) r s.table tables
    → HasNames image.size (table_facts image s.table s.data_pages) own s.table tables
names_alone image ss s r own is same tables names = record {
  named = names.named;
  lawful = λ chosen. moved (committed_with (stands_facts image ss) chosen) (names.named chosen)
      (names.lawful chosen);
  all = moved (committed_with (stands_facts image ss) (λ t. true)) tables names.all;
  stay = names.stay;
}
  where
    moved : (committed : ℕ → Bool) (ts : List Table)
        → CatalogNames image.size (stands_facts image ss) committed r s.table ts
        → CatalogNames image.size (table_facts image s.table s.data_pages) committed own s.table ts
    moved committed ts named = record {
      rows = named.rows;
      are_rows = rows_as (stands_facts image ss) (table_facts image s.table s.data_pages) r own
          committed s.table named.rows (shows_alone image ss s r own is same committed)
          (shows_among image ss s r own is same committed) named.are_rows;
      are_tables = named.are_tables;
      fit = named.fit;
    }

names_among : (image : Image) (ss : List Stand) (s : Stand) (r own : Reading) → IsOneOf ss s
    → IsSameIn s r own → (tables : List Table)
    → HasNames image.size (table_facts image s.table s.data_pages) own s.table tables
    → HasNames image.size (stands_facts image ss) r s.table tables
names_among image ss s r own is same tables names = record {
  named = names.named;
  lawful = λ chosen. moved (committed_with (stands_facts image ss) chosen) (names.named chosen)
      (names.lawful chosen);
  all = moved (committed_with (stands_facts image ss) (λ t. true)) tables names.all;
  stay = names.stay;
}
  where
    moved : (committed : ℕ → Bool) (ts : List Table)
        → CatalogNames image.size (table_facts image s.table s.data_pages) committed own s.table ts
        → CatalogNames image.size (stands_facts image ss) committed r s.table ts
    moved committed ts named = record {
      rows = named.rows;
      are_rows = rows_as (table_facts image s.table s.data_pages) (stands_facts image ss) own r
          committed s.table named.rows (shows_among image ss s r own is same committed)
          (shows_alone image ss s r own is same committed) named.are_rows;
      are_tables = named.are_tables;
      fit = named.fit;
    }

-- no page is one of a sequence yet
no_sequences : (image : Image) (ns : List ℕ)
    → EachPage (λ n. NoSequence (pages_in image n) n) ns → ns ≡ []
no_sequences image [] each = refl
no_sequences image (n ∷ ns) each = absurd each.0

-- an image that meets all rules is sound
pub meets_sound : (coding : RowCoding) → HasOneReading (coding_of coding) → (image : Image)
    → Meets coding image Indexed → IsSoundImage coding image
meets_sound coding one image (rules, (layout, pages, (once, (r, met)))) = (
  layout,
  r,
  record {
    header = rules.0;
    transactions = rules.1;
    inventory = pages.inventory;
    catalog = pages.catalog;
    tables = pages.tables;
    sequences = rw pages.sequences tt;
    names = names_among image (stands_of layout) layout.catalog r pages.names.reading is same
        (tables_in layout.tables) pages.names.names;
    once = once;
    records = records;
    limbo = met.0.0.0.2;
    own_tables = met.0.0.0.3;
    indexed = met.1;
  },
)
  where
    records : AreRecords (coding_of coding) (layout_facts image layout)
        (cells_of (pages_in image)) r
    records = records_of (coding_of coding) (layout_facts image layout)
        (cells_of (pages_in image)) r met.0.0.0.0 met.0.0.0.1 met.0.0.1 met.0.1

    is : IsOneOf (stands_of layout) layout.catalog
    is = one_of image.size (pages_in image) (stands_of layout) layout.catalog
        (once_stands image.size (pages_in image) layout once) pages.tables (inl refl)

    same : IsSameIn layout.catalog r pages.names.reading
    same p there = rw there at (one
        (table_facts image layout.catalog.table layout.catalog.data_pages)
        (cells_of (pages_in image)) (restricted layout.catalog.data_pages r) pages.names.reading
        (table_alone coding image (stands_of layout) r layout.catalog is records)
        pages.names.records p)

-- and the other way
pub sound_meets : (coding : RowCoding) (image : Image) → IsSoundImage coding image
    → Meets coding image Indexed
sound_meets coding image (layout, r, sound) = (
  (sound.header, sound.transactions),
  (layout, pages, (sound.once, (r, met))),
)
  where
    is : IsOneOf (stands_of layout) layout.catalog
    is = one_of image.size (pages_in image) (stands_of layout) layout.catalog
        (once_stands image.size (pages_in image) layout sound.once) sound.tables (inl refl)

    names : NamesTables coding image layout.catalog (tables_in layout.tables)
    names = record {
      reading = restricted layout.catalog.data_pages r;
      records = table_alone coding image (stands_of layout) r layout.catalog is sound.records;
      names = names_alone image (stands_of layout) layout.catalog r
          (restricted layout.catalog.data_pages r) is (λ p there. rw there refl)
          (tables_in layout.tables) sound.names;
    }

    pages : HasPages coding image layout
    pages = record {
      inventory = sound.inventory;
      catalog = sound.catalog;
      tables = sound.tables;
      sequences = no_sequences image layout.sequences sound.sequences;
      names = names;
    }

    met : MeetsIndexed coding image layout r
    met = (
      (
        (
          (
            versions_of (coding_of coding) (layout_facts image layout)
                (cells_of (pages_in image)) r sound.records,
            drawn_of (coding_of coding) (layout_facts image layout) (cells_of (pages_in image)) r
                sound.records,
            sound.limbo,
            sound.own_tables,
          ),
          backs_of (coding_of coding) (layout_facts image layout) (cells_of (pages_in image)) r
              sound.records,
        ),
        keys_of (coding_of coding) (layout_facts image layout) (cells_of (pages_in image)) r
            sound.records,
      ),
      sound.indexed,
    )
