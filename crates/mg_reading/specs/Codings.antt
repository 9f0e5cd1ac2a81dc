-- The codings of rows that the program reads.
use Rattle.std.specs.Prelude.{ℕ, List}
use Rattle.mg_value.specs.declared.shape.Column.{Column}
use Rattle.mg_rowcode.specs.Faults.{DecodesTo}
use Rattle.mg_reading.specs.declared.rows.RowCoding.{RowCoding}
use Rattle.mg_reading.specs.declared.rows.RowCoding.TheVariants.{Plain, Packed}
use Rattle.mg_image.specs.Form.{Coding, IsPlainRow, OnlyFirst, Row}

-- the body of a version with this format codes this row of these columns
abbrev pub RowSpelled : RowCoding → List Column → ℕ → List ℕ → Row → Type 0
RowSpelled Plain = IsPlainRow
RowSpelled Packed = DecodesTo

-- a coding as versions of the program differ in it
abbrev pub coding_of : RowCoding → Coding
coding_of coding = record { row_spelled = RowSpelled coding; format = OnlyFirst }
