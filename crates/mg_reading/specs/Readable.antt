-- What a refusal rules out. The plain reading says that a rule is broken only where an image has
-- nothing of the kind that it was asked for.
use Rattle.std.specs.Prelude.{◌≡◌, ◌≤◌, ℕ, true, false, List, [], ◌∷◌, Option, Some, length}
use Rattle.mg_rowcode.specs.Storable.{AreStorable}
use Rattle.mg_value.specs.declared.shape.Column.{Column}
use Rattle.mg_value.specs.declared.shape.TheConstants.{MOST_COLUMNS}
use Rattle.mg_version.specs.declared.cell.Cell.TheVariants as cells
use Rattle.mg_version.specs.declared.cell.Link.{Link}
use Rattle.mg_version.specs.declared.cell.Version.{Version}
use Rattle.mg_model.specs.declared.table.Table.{Table}
use Rattle.mg_image.specs.declared.entry.Entry.{Entry}
use Rattle.mg_image.specs.Form.{Pages, Row}
use Rattle.mg_image.specs.RecordRules.{AreRecords, IsKeyAlone, columns_for}
use Rattle.mg_base.specs.declared.numbers.RecId.{RecId}
use Rattle.mg_image.specs.Records.{Chain, Reading, cells_of}
use Rattle.mg_base.specs.Checks.{common_checks}
use Rattle.mg_slots.specs.declared.page.TheConstants.{DATA_KIND}
use Rattle.mg_slots.specs.DataPage.{IsDataPage, cell_of}
use Rattle.mg_image.specs.Inventory.{state_at}
use Rattle.mg_image.specs.Reached.{IsAsWanted}
use Rattle.mg_image.specs.Sound.{IsCellOf, HasHeader, HasInventory, HasNoOldLimbo, HasTransactions, IsTableData, IsTablePointer}
use Rattle.mg_image.specs.Tables.{EachFrom, Has, PointerChain, entries_in}
use Rattle.mg_reading.specs.declared.image.Image.{Image}
use Rattle.mg_reading.specs.declared.point.ReadFault.{ReadFault}
use Rattle.mg_reading.specs.declared.point.ReadFault.TheVariants.{Broken, Memory}
use Rattle.mg_reading.specs.declared.rows.RowCoding.{RowCoding}
use Rattle.mg_reading.specs.Codings.{RowSpelled, coding_of}
use Rattle.mg_reading.specs.ImageView.{pages_in}
use Rattle.mg_reading.specs.OneTable.{IsLinked, IsStoredIn, table_facts}
use Rattle.mg_reading.specs.RecordParts.{AreVersions, HasVersions}

-- a fault that says a rule broken rules this out; want of memory says nothing
abbrev pub Refutes : Type 0 → ReadFault → Type 0
Refutes P (Broken rule) = P → ⊥
Refutes P Memory = Unit {0}

-- a page is a data page of an owner at a place of the entries, but for what its cells spell
abbrev pub HasSlots : ℕ → Pages → ℕ → ℕ → ℕ → Type 0
HasSlots size pages owner at n =
    IsAsWanted size pages n (common_checks (pages n) n DATA_KIND owner at) × IsDataPage (pages n)

-- the bytes of each cell of a data page spell one
abbrev pub HasCells : List ℕ → Type 0
HasCells page =
    (slot : ℕ) (bytes : List ℕ) → cell_of page slot ≡ Some bytes → IsCellOf false bytes

-- a body codes some row
abbrev pub CodesRow : RowCoding → List Column → ℕ → List ℕ → Type 0
CodesRow coding columns format body = (row : Row) × RowSpelled coding columns format body row

-- The row of a version of a table.
pub record IsVersionRow (coding : RowCoding) (table : Table) (v : Version) (row : Row)
    : Type 0 where
  pub spelled : RowSpelled coding (columns_for table v.deleted) v.format v.body row
  pub storable : AreStorable row
  pub erased : v.deleted ≡ true → IsKeyAlone table row

-- a version of a table has a row
abbrev pub HasVersionRow : RowCoding → Table → Version → Type 0
HasVersionRow coding table v = (row : Row) × IsVersionRow coding table v row

-- A link leads to this version, on one of these data pages.
pub record IsVersionAt (image : Image) (ns : List ℕ) (link : Link) (v : Version) : Type 0 where
  pub cell : cells_of (pages_in image) link.rec ≡ Some (cells.Version v)
  pub tx : v.tx ≡ link.tx
  pub placed : Has ns link.rec.page.0

-- a link leads to a version
abbrev pub HasVersion : Image → List ℕ → Link → Type 0
HasVersion image ns link = (v : Version) × IsVersionAt image ns link v

-- a link leads to a version that is stored as a table wants it
abbrev pub HasEntry : RowCoding → Image → Table → List ℕ → Link → Type 0
HasEntry coding image table ns link =
    (e : Entry) × IsLinked image link e × IsStoredIn coding image table ns e

-- These are the versions from a link on, and they are those of a record of a table.
pub record IsRecordFrom (coding : RowCoding) (image : Image) (table : Table) (ns : List ℕ)
    (newest : Option Link) (es : List Entry) : Type 0 where
  pub chain : Chain (cells_of (pages_in image)) newest es
  pub versions : AreVersions (coding_of coding) (table_facts image table ns) table es

-- a link begins a record of a table
abbrev pub HasRecord : RowCoding → Image → Table → List ℕ → Option Link → Type 0
HasRecord coding image table ns newest =
    (es : List Entry) × IsRecordFrom coding image table ns newest es

-- no others are
abbrev pub IsOnlyRecord : RowCoding → Image → Table → List ℕ → Option Link → List Entry → Type 0
IsOnlyRecord coding image table ns newest es = (others : List Entry)
    → IsRecordFrom coding image table ns newest others → others ≡ es

-- there are pointer pages of an owner, each as wanted at its place
abbrev pub HasPointers : ℕ → Pages → ℕ → Type 0
HasPointers size pages owner =
    (ns : List ℕ) × PointerChain pages owner ns × EachFrom (IsTablePointer size pages owner) 0 ns

-- the records of a table with these data pages are lawful
abbrev pub HasReading : RowCoding → Image → Table → List ℕ → Type 0
HasReading coding image table ns = (r : Reading) × AreRecords (coding_of coding)
    (table_facts image table ns) (cells_of (pages_in image)) r

-- each record of a table with these data pages has its versions
abbrev pub HasTableVersions : RowCoding → Image → Table → List ℕ → Reading → Type 0
HasTableVersions coding image table ns = HasVersions (coding_of coding)
    (table_facts image table ns) (cells_of (pages_in image))

-- there is such a reading
abbrev pub HasVersionReading : RowCoding → Image → Table → List ℕ → Type 0
HasVersionReading coding image table ns =
    (r : Reading) × HasTableVersions coding image table ns r

-- there is no other
abbrev pub IsOnlyReading : RowCoding → Image → Table → List ℕ → Reading → Type 0
IsOnlyReading coding image table ns r = (other : Reading)
    → HasTableVersions coding image table ns other → (p : RecId) → other p ≡ r p

-- The pages and the records of a table are lawful.
pub record IsReadable (coding : RowCoding) (image : Image) (table : Table) : Type 0 where
  pub pointers : List ℕ
  pub chain : PointerChain (pages_in image) table.pointer.0 pointers
  pub wanted : EachFrom (IsTablePointer image.size (pages_in image) table.pointer.0) 0 pointers
  pub tested : EachFrom (IsTableData false image.size (pages_in image) table.pointer.0) 0
      (entries_in (pages_in image) pointers)
  pub records : HasReading coding image table (entries_in (pages_in image) pointers)

-- each of these tables is lawful, and has not too many columns
abbrev pub AreReadable : RowCoding → Image → List Table → Type 0
AreReadable coding image [] = Unit {0}
AreReadable coding image (table ∷ tables) = (length table.shape.columns ≤ MOST_COLUMNS)
    × IsReadable coding image table × AreReadable coding image tables

-- What the plain reading of an image needs: the rules that speak of the image as a whole, and those
-- of the pages and records of these tables.
pub record IsReadableImage (coding : RowCoding) (image : Image) (tables : List Table)
    : Type 0 where
  pub header : HasHeader image.size (pages_in image)
  pub transactions : HasTransactions image.size (pages_in image)
  pub inventory : HasInventory image.size (pages_in image)
  pub limbo : HasNoOldLimbo (state_at image.size (pages_in image)) (pages_in image)
  pub each : AreReadable coding image tables
