-- When an image has the pages that its catalog leads to, and stands where a layout says.
use Rattle.std.specs.Prelude.{◌≡◌, false, List, [], map}
use Rattle.mg_model.specs.declared.table.Table.{Table}
use Rattle.mg_image.specs.Catalog.{HasNames, catalog_table}
use Rattle.mg_image.specs.Inventory.{header_of}
use Rattle.mg_image.specs.RecordRules.{AreRecords, Facts}
use Rattle.mg_image.specs.Records.{Reading, cells_of}
use Rattle.mg_image.specs.Sound.{HasInventory, HasTablePages}
use Rattle.mg_image.specs.Tables.{EachStand, Layout, Stand, stands_of}
use Rattle.mg_reading.specs.declared.image.Image.{Image}
use Rattle.mg_reading.specs.declared.rows.RowCoding.{RowCoding}
use Rattle.mg_reading.specs.Codings.{coding_of}
use Rattle.mg_reading.specs.ImageView.{pages_in}
use Rattle.mg_reading.specs.OneTable.{table_facts}

-- the pages of a table of an image, with its indexes, are as wanted
abbrev pub IsStand : Image → Stand → Type 0
IsStand image stand = HasTablePages false image.size (pages_in image) stand

-- what the records of a table need to know of the image, where it stands so
abbrev pub stand_facts : Image → Stand → Facts
stand_facts image stand = table_facts image stand.table stand.data_pages

-- The records of the catalog are lawful by themselves, and its rows name these tables.
pub record NamesTables (coding : RowCoding) (image : Image) (catalog : Stand)
    (tables : List Table) : Type 0 where
  pub reading : Reading
  pub records : AreRecords (coding_of coding) (stand_facts image catalog)
      (cells_of (pages_in image)) reading
  pub names : HasNames image.size (stand_facts image catalog) reading catalog.table tables

-- the tables that stand so
abbrev pub tables_in : List Stand → List Table
tables_in stands = map (λ stand. stand.table) stands

-- The pages of an image are those that its catalog leads to, and this is where they stand.
pub record HasPages (coding : RowCoding) (image : Image) (layout : Layout) : Type 0 where
  -- each page inventory page is blank, or as wanted
  pub inventory : HasInventory image.size (pages_in image)
  -- the catalog begins where the header says
  pub catalog : layout.catalog.table ≡ catalog_table (header_of (pages_in image)).catalog.0
  -- the pages of the catalog and of each table are as wanted
  pub tables : EachStand (IsStand image) (stands_of layout)
  -- there are no sequences yet
  pub sequences : layout.sequences ≡ []
  -- the tables are those that the catalog names
  pub names : NamesTables coding image layout.catalog (tables_in layout.tables)
