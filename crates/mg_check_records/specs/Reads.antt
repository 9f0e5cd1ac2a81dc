-- What the parts of a step of a walk give.
use Rattle.std.specs.Prelude.{◌≡◌, ◌⊎◌, ◌+◌, ℕ, Bool, true, false, List, Option, Some, length, slice_set}
use Rattle.std.proofs.Common.{get_or}
use Rattle.mg_base.specs.declared.damage.Field.TheVariants as fields
use Rattle.mg_base.specs.declared.numbers.RecId.{RecId}
use Rattle.mg_check_data.specs.DataRung.{wanted_of}
use Rattle.mg_check_records.specs.Marks.{left_of, met_in, most_slots}
use Rattle.mg_check_records.specs.Walks.{IsBodyFinding, IsStop, IsStoredAs, Meets, and_met, at_cell, link_finding, target_finding}
use Rattle.mg_check_records.specs.declared.rows.Read.{Read}
use Rattle.mg_check_records.specs.declared.rows.Read.TheVariants as reads
use Rattle.mg_check_records.specs.declared.step.Meeting.{Meeting}
use Rattle.mg_check_records.specs.declared.step.Meeting.TheVariants as meetings
use Rattle.mg_check_records.specs.declared.step.Step.{Step}
use Rattle.mg_check_records.specs.declared.step.Step.TheVariants as steps
use Rattle.mg_findings.specs.declared.finding.Finding.{Finding}
use Rattle.mg_image.specs.declared.entry.Entry.{Entry}
use Rattle.mg_image.specs.Records.{Cells}
use Rattle.mg_model.specs.declared.table.Table.{Table}
use Rattle.mg_rle.specs.Runs.{BreaksAt}
use Rattle.mg_rowcode.specs.Faults.{DecodesTo, RefusesRow}
use Rattle.mg_rowcode.specs.Storable.{AreStorable}
use Rattle.mg_value.specs.declared.shape.Column.{Column}
use Rattle.mg_value.specs.Rows.{columns_of, row_len_of}
use Rattle.mg_version.specs.declared.cell.Cell.{Cell}
use Rattle.mg_version.specs.declared.cell.Cell.TheVariants as cells
use Rattle.mg_version.specs.declared.cell.Link.{Link}
use Rattle.mg_version.specs.declared.cell.Version.{Version}

-- ---- rows

-- What is found of the body of a version that stands under these columns.
pub data IsCodedFinding (columns : List Column) (x : RecId) (v : Version) (f : Finding) : Type 0 where
  bad_run : (at : ℕ) → BreaksAt v.body at
      → f ≡ at_cell x fields.Run at (wanted_of at (length v.body)) → IsCodedFinding columns x v f
  bad_row : (at : ℕ) → RefusesRow (columns_of columns v.format) v.body at
      → f ≡ at_cell x fields.Row at (wanted_of at (row_len_of (columns_of columns v.format)))
      → IsCodedFinding columns x v f

-- the row that a body codes under these columns, or what is found of it
abbrev pub IsCoded : List Column → RecId → Version → Read → Type 0
IsCoded columns x v (reads.Row row) = DecodesTo columns v.format v.body row × AreStorable row
IsCoded columns x v (reads.Stopped f) = IsCodedFinding columns x v f

-- the row of a version of a table, or what is found of it
abbrev pub IsRead : Table → RecId → Version → Read → Type 0
IsRead table x v (reads.Row row) = IsStoredAs table v row
IsRead table x v (reads.Stopped f) = IsBodyFinding table x v f

-- ---- links

-- the version that a link meets in a cell, or what is found of it
abbrev pub IsMatched : Link → Option Cell → Meeting → Type 0
IsMatched l cell (meetings.Version v) = (cell ≡ Some (cells.Version v)) × (v.tx ≡ l.tx)
IsMatched l cell (meetings.Stopped f) = (f ≡ target_finding cell l)
    × ((v : Version) → cell ≡ Some (cells.Version v) → v.tx ≡ l.tx → ⊥)

-- ---- steps

-- a version that a link has met is taken, where its mark was not set, and then it is; or this is
-- found
abbrev pub Takes : Table → List Bool → List Bool → ℕ → RecId → Link → Version → Step → Type 0
Takes table old new at holder l v (steps.Entry e) = (get_or old at false ≡ false)
    × (new ≡ slice_set old at true) × (e.at ≡ l.rec) × (e.version ≡ v) × IsStoredAs table v e.row
Takes table old new at holder l v (steps.Stopped f) = (new ≡ old)
    × (((get_or old at false ≡ true) × (f ≡ link_finding holder l))
    ⊎ ((get_or old at false ≡ false) × IsBodyFinding table l.rec v f))

-- A version of a walk is taken: it is stored as its table wants it, was not met before, and is now.
pub record TakesEntry (h : Cells) (table : Table) (ns : List ℕ) (size : ℕ) (old new : List Bool)
    (l : Link) (e : Entry) : Type 0 where
  pub at : e.at ≡ l.rec
  pub meets : Meets h ns l e.version
  pub fresh : met_in ns (most_slots size) old l.rec ≡ false
  pub stored : IsStoredAs table e.version e.row
  pub met : met_in ns (most_slots size) new ≡ and_met e.at (met_in ns (most_slots size) old)
  pub len : length new ≡ length old
  pub fewer : left_of old ≡ left_of new + 1

-- a step of a walk: the version that its link meets, or what is found
abbrev pub StepsTo : Cells → Table → List ℕ → ℕ → List Bool → List Bool → RecId → Link → Step → Type 0
StepsTo h table ns size old new holder l (steps.Entry e) = TakesEntry h table ns size old new l e
StepsTo h table ns size old new holder l (steps.Stopped f) = (new ≡ old)
    × IsStop h table ns (met_in ns (most_slots size) old) holder l f
