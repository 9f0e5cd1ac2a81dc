-- What an image holds of one table, as a list of rows.
use Rattle.std.specs.Prelude.{◌≡◌, ℕ, Bool, false, List, [], ◌∷◌, Option, None, Some}
use Rattle.mg_reading.specs.Codings.{coding_of}
use Rattle.mg_reading.specs.declared.found.Found.{Found}
use Rattle.mg_reading.specs.declared.held.TableRows.{TableRows}
use Rattle.mg_reading.specs.declared.image.Image.{Image}
use Rattle.mg_reading.specs.declared.rows.RowCoding.{RowCoding}
use Rattle.mg_model.specs.declared.table.Table.{Table}
use Rattle.mg_image.specs.Form.{Row}
use Rattle.mg_reading.specs.Found.{committed_of, reading_of}
use Rattle.mg_reading.specs.ImageView.{pages_in}
use Rattle.mg_reading.specs.OneTable.{table_facts}
use Rattle.mg_image.specs.RecordRules.{AreRecords}
use Rattle.mg_image.specs.Records.{cells_of, shown}
use Rattle.mg_image.specs.Sound.{IsTableData, IsTablePointer}
use Rattle.mg_image.specs.Tables.{EachFrom, PointerChain, entries_in}

-- rows with one more in front, if there is one
abbrev pub with_row : Option Row → List Row → List Row
with_row None rows = rows
with_row (Some row) rows = row ∷ rows

-- the rows that these records show
abbrev pub rows_shown : (ℕ → Bool) → List Found → List Row
rows_shown committed [] = []
rows_shown committed (found ∷ more) =
    with_row (shown committed found.entries.items) (rows_shown committed more)

-- A table of an image was read by the rules, and these are the rows that its records show.
pub record IsTableHeld (coding : RowCoding) (image : Image) (table : Table) (rows : List Row)
    : Type 0 where
  pub pointers : List ℕ
  pub data_pages : List ℕ
  pub found : List Found
  pub chain : PointerChain (pages_in image) table.pointer.0 pointers
  pub wanted : EachFrom (IsTablePointer image.size (pages_in image) table.pointer.0) 0 pointers
  pub entries : data_pages ≡ entries_in (pages_in image) pointers
  pub tested : EachFrom (IsTableData false image.size (pages_in image) table.pointer.0) 0 data_pages
  pub records : AreRecords (coding_of coding) (table_facts image table data_pages)
      (cells_of (pages_in image)) (reading_of found)
  pub shows : rows ≡ rows_shown (committed_of image) found

-- these are the rows of these tables, in their order
abbrev pub AreHeld : RowCoding → Image → List Table → List TableRows → Type 0
AreHeld coding image [] [] = Unit {0}
AreHeld coding image [] (held ∷ more) = ⊥
AreHeld coding image (table ∷ tables) [] = ⊥
AreHeld coding image (table ∷ tables) (held ∷ more) =
    IsTableHeld coding image table held.rows.items × AreHeld coding image tables more
