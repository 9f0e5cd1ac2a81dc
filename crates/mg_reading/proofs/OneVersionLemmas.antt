-- A version has one row.
use Rattle.std.proofs.Common.{◌≡◌, ◌∙◌, ℕ, List, Some, true, sym}
use Rattle.mg_rowcode.specs.Storable.{AreStorable}
use Rattle.mg_version.specs.declared.cell.Version.{Version}
use Rattle.mg_model.specs.declared.table.Table.{Table}
use Rattle.mg_image.specs.Form.{Row, packed_coding, plain_coding}
use Rattle.mg_image.specs.ReadingLaws.{RowsAreOne}
use Rattle.mg_image.specs.RecordRules.{IsKeyAlone, columns_for, erased_from}
use Rattle.mg_reading.specs.declared.rows.RowCoding.{RowCoding}
use Rattle.mg_reading.specs.declared.rows.RowCoding.TheVariants.{Plain, Packed}
use Rattle.mg_reading.specs.Codings.{RowSpelled, coding_of}
use Rattle.mg_version.specs.declared.cell.Cell.TheVariants as cells
use Rattle.mg_version.specs.declared.cell.Link.{Link}
use Rattle.mg_image.specs.declared.entry.Entry.{Entry}
use Rattle.mg_image.specs.Records.{cells_of}
use Rattle.mg_image.specs.Tables.{Has}
use Rattle.mg_reading.specs.declared.image.Image.{Image}
use Rattle.mg_reading.specs.ImageView.{pages_in}
use Rattle.mg_reading.specs.OneTable.{IsLinked, IsStoredIn}
use Rattle.mg_reading.specs.Readable.{HasEntry, HasVersion, HasVersionRow, IsVersionAt}
use Rattle.mg_reading.specs.StandLaws.{has_back, page_of_table}

-- a body codes one row in either coding
pub one_row_of : (coding : RowCoding) → RowsAreOne plain_coding → RowsAreOne packed_coding
    → RowsAreOne (coding_of coding)
one_row_of Plain plain packed = plain
one_row_of Packed plain packed = packed

-- where the row of a deletion has more than its key, the version has no row
pub not_alone : (coding : RowCoding) → RowsAreOne plain_coding → RowsAreOne packed_coding
    → (table : Table) (v : Version) (row : Row) → v.deleted ≡ true
    → RowSpelled coding (erased_from table.shape.key 0 table.shape.columns) v.format v.body row
    → AreStorable row → (IsKeyAlone table row → ⊥) → HasVersionRow coding table v → ⊥
not_alone coding plain packed table v row deleted spelled storable none (other, is) =
    let same : row ≡ other = one_row_of coding plain packed
    (erased_from table.shape.key 0 table.shape.columns) v.format v.body row other spelled
    (rw deleted at is.spelled) storable is.storable in
    none (rw same (is.erased deleted))

-- a version that is stored in a table stands on one of its data pages
pub placed_of : (coding : RowCoding) (image : Image) (table : Table) (ns : List ℕ) (e : Entry)
    → IsStoredIn coding image table ns e → Has ns e.at.page.0
placed_of coding image table ns e stored =
    has_back ns e.at.page.0 ((page_of_table table table ns e.at.page.0 stored.placed).1)

linked_cell : (image : Image) (link : Link) (e : Entry) → IsLinked image link e
    → cells_of (pages_in image) link.rec ≡ Some (cells.Version e.version)
linked_cell image link e linked = rw linked.at at linked.cell

one_version : (v w : Version) → Some (cells.Version v) ≡ Some (cells.Version w) → w ≡ v
one_version v w same = cc

-- two versions of one cell are one, as their rows are
pub same_stored : (coding : RowCoding) → RowsAreOne plain_coding → RowsAreOne packed_coding
    → (image : Image) (table : Table) (ns : List ℕ) (link : Link) (d e : Entry)
    → IsLinked image link d → IsLinked image link e → IsStoredIn coding image table ns d
    → IsStoredIn coding image table ns e → d ≡ e
same_stored coding plain packed image table ns link d e to also stored as_ =
    let version : d.version ≡ e.version = one_version e.version d.version
    (sym (linked_cell image link e also) ∙ linked_cell image link d to) in
    let row : d.row ≡ e.row = one_row_of coding plain packed
    (columns_for table e.version.deleted) e.version.format e.version.body d.row e.row
    (rw version at stored.spelled) as_.spelled stored.storable as_.storable in
    λ i. record { at = (to.at ∙ sym also.at) i; version = version i; row = row i }

-- a link leads to one version
pub same_at : (image : Image) (ns : List ℕ) (link : Link) (v : Version) (e : Entry)
    → IsVersionAt image ns link v → IsLinked image link e → e.version ≡ v
same_at image ns link v e here linked =
    one_version v e.version (sym here.cell ∙ linked_cell image link e linked)

pub entry_version : (coding : RowCoding) (image : Image) (table : Table) (ns : List ℕ)
    (link : Link) → HasEntry coding image table ns link → HasVersion image ns link
entry_version coding image table ns link (e, linked, stored) = (
  e.version,
  record {
    cell = linked_cell image link e linked;
    tx = linked.tx;
    placed = rw linked.at at (placed_of coding image table ns e stored);
  },
)

pub entry_format : (coding : RowCoding) (image : Image) (table : Table) (ns : List ℕ) (link : Link)
    (v : Version) → IsVersionAt image ns link v → HasEntry coding image table ns link
    → v.format ≡ 1
entry_format coding image table ns link v here (e, linked, stored) =
    rw (sym (same_at image ns link v e here linked)) stored.format

pub entry_row : (coding : RowCoding) (image : Image) (table : Table) (ns : List ℕ) (link : Link)
    (v : Version) → IsVersionAt image ns link v → HasEntry coding image table ns link
    → HasVersionRow coding table v
entry_row coding image table ns link v here (e, linked, stored) =
    rw (sym (same_at image ns link v e here linked)) (
      e.row,
      record {
        spelled = stored.spelled;
        storable = stored.storable;
        erased = stored.erased;
      },
    )
