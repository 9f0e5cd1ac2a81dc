-- An image as one of its tables sees it.
use Rattle.std.specs.Prelude.{◌≡◌, ◌<◌, ◌^◌, ℕ, List, [], ◌∷◌, Some}
use Rattle.mg_base.specs.declared.geometry.TheConstants.{GREATEST_LIMIT}
use Rattle.mg_version.specs.declared.cell.Cell.TheVariants as cells
use Rattle.mg_version.specs.declared.cell.Link.{Link}
use Rattle.mg_reading.specs.Codings.{coding_of}
use Rattle.mg_image.specs.declared.entry.Entry.{Entry}
use Rattle.mg_reading.specs.declared.image.Image.{Image}
use Rattle.mg_reading.specs.declared.rows.RowCoding.{RowCoding}
use Rattle.mg_model.specs.declared.table.Table.{Table}
use Rattle.mg_reading.specs.ImageView.{pages_in}
use Rattle.mg_reading.specs.RecordParts.{IsStored}
use Rattle.mg_image.specs.Inventory.{next_of, oldest_of, state_at}
use Rattle.mg_image.specs.RecordRules.{Facts}
use Rattle.mg_image.specs.Records.{cells_of}
use Rattle.mg_image.specs.Tables.{Stand, table_at}

-- where a table without indexes stands, by its data pages
abbrev pub stand_with : Table → List ℕ → Stand
stand_with table ns =
    record { table = table; pointers = []; data_pages = ns; trees = [] }

-- what the records of a table need to know of the image, where these are its data pages
abbrev pub table_facts : Image → Table → List ℕ → Facts
table_facts image table ns = record {
  state = state_at image.size (pages_in image);
  next = next_of (pages_in image);
  oldest = oldest_of (pages_in image);
  table_of = table_at (stand_with table ns ∷ []);
}

-- what the records of an image need to know of its other pages, where its tables stand so
abbrev pub stands_facts : Image → List Stand → Facts
stands_facts image ss = record {
  state = state_at image.size (pages_in image);
  next = next_of (pages_in image);
  oldest = oldest_of (pages_in image);
  table_of = table_at ss;
}

-- A link leads to a version of an image, and this is it.
pub record IsLinked (image : Image) (link : Link) (e : Entry) : Type 0 where
  pub at : e.at ≡ link.rec
  pub cell : cells_of (pages_in image) e.at ≡ Some (cells.Version e.version)
  pub tx : e.version.tx ≡ link.tx

-- the place of a version's cell is one of an image
abbrev pub IsPlaced : Entry → Type 0
IsPlaced e = (e.at.page.0 < GREATEST_LIMIT) × (e.at.slot < 2 ^ 16)

-- a version is stored as a table of an image wants it
abbrev pub IsStoredIn : RowCoding → Image → Table → List ℕ → Entry → Type 0
IsStoredIn coding image table ns = IsStored (coding_of coding) (table_facts image table ns) table
