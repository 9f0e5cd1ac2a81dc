-- The versions of records: what a chain of cells says, and what it shows.
use Rattle.std.specs.Prelude.{◌≡◌, ◌≢◌, ◌==◌, ℕ, Bool, true, List, [], ◌∷◌, Option, None, Some, ◌⊎◌, if◌then◌else◌}
use Rattle.std.proofs.Common.{get_or}
use Rattle.mg_base.specs.declared.numbers.RecId.{RecId}
use Rattle.mg_base.specs.Fields.{byte}
use Rattle.mg_slots.specs.DataPage.{cell_of}
use Rattle.mg_version.specs.declared.cell.Link.{Link}
use Rattle.mg_version.specs.declared.cell.Cell.{Cell}
use Rattle.mg_version.specs.declared.cell.Cell.TheVariants as cells
use Rattle.mg_version.specs.CellReading.{version_in}
use Rattle.mg_version.specs.CellLaws.{cell_in}
use Rattle.mg_value.specs.declared.value.Value.{Value}
use Rattle.mg_value.specs.declared.value.Value.TheVariants.{Null}
use Rattle.mg_image.specs.declared.entry.TheConstants.{PRIMARY_VERSION}
use Rattle.mg_image.specs.declared.entry.Entry.{Entry}
use Rattle.mg_model.specs.declared.table.Table.{Table}
use Rattle.mg_image.specs.Form.{Pages, Row}

-- the cells of an image by their places
abbrev pub Cells : Type 0
Cells = RecId → Option Cell

-- one cell is changed, and no other
pub record Changes (old new : Cells) (x : RecId) (cell : Option Cell) : Type 0 where
  pub here : new x ≡ cell
  pub others : (y : RecId) → y ≢ x → new y ≡ old y

-- the cell that bytes spell: an anchor, or a version within or outside its primary slot
abbrev pub cell_spelled : List ℕ → Cell
cell_spelled bytes =
    if byte bytes 0 == PRIMARY_VERSION
    then cells.Version (record (version_in bytes) { primary = true })
    else cell_in bytes

-- the cell of a slot
abbrev pub slot_cell : Option (List ℕ) → Option Cell
slot_cell None = None
slot_cell (Some bytes) = Some (cell_spelled bytes)

-- the cells of pages
abbrev pub cells_of : Pages → Cells
cells_of pages x = slot_cell (cell_of (pages x.page.0) x.slot)

-- the transaction that wrote it
abbrev pub writer : Entry → ℕ
writer e = e.version.tx.0

-- these are the versions from a link on, the newest first: each link meets a version of the
-- transaction that it names
pub data Chain (h : Cells) : Option Link → List Entry → Type 0 where
  ended : Chain h None []
  goes : (l : Link) (e : Entry) (es : List Entry) → e.at ≡ l.rec
      → h e.at ≡ Some (cells.Version e.version) → e.version.tx ≡ l.tx
      → Chain h e.version.back es → Chain h (Some l) (e ∷ es)

-- where the newest version of a record is, by the cell of its primary slot: an anchor names it, or
-- it stands there; any other cell, and none, is no record's
abbrev pub newest_of : RecId → Option Cell → Option Link
newest_of p None = None
newest_of p (Some (cells.Anchor link)) = Some link
newest_of p (Some (cells.Version v)) =
    if v.primary then Some (record { rec = p; tx = v.tx }) else None

-- what is read of an image: for each primary slot the versions of its record
abbrev pub Reading : Type 0
Reading = RecId → List Entry

-- a cell is one of those of these versions
abbrev pub Stands : List Entry → RecId → Type 0
Stands [] x = ⊥
Stands (e ∷ es) x = (e.at ≡ x) ⊎ Stands es x

-- the row that these versions show: that of the first committed one, none where it is a deletion
abbrev pub shown : (ℕ → Bool) → List Entry → Option Row
shown committed [] = None
shown committed (e ∷ es) =
    if committed (writer e) then (if e.version.deleted then None else Some e.row)
    else shown committed es

-- what a transaction does to a row
pub data Change : Type 0 where
  Puts : Row → Change
  Erases : Change

-- the change that a version makes
abbrev pub change_in : Entry → Change
change_in e = if e.version.deleted then Erases else Puts e.row

-- the change of a transaction that these versions show: the newest is its own, or there is none
abbrev pub change_of : ℕ → List Entry → Option Change
change_of t [] = None
change_of t (e ∷ es) = if writer e == t then Some (change_in e) else None

-- the key of a row of a table
abbrev pub key_of : Table → Row → Value
key_of table row = get_or row table.shape.key Null

-- the key of a record: that of its newest version
abbrev pub record_key : Table → List Entry → Value
record_key table [] = Null
record_key table (e ∷ es) = key_of table e.row
