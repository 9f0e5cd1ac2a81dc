-- Pages, rows and tables, and what differs between versions of the program.
use Rattle.std.specs.Prelude.{◌≡◌, ℕ, ◌-◌, Bool, false, List, ◌++◌, length, replicate, Option}
use Rattle.mg_value.specs.declared.shape.Column.{Column}
use Rattle.mg_value.specs.declared.value.Value.{Value}
use Rattle.mg_value.specs.declared.value.Value.TheVariants.{Null}
use Rattle.mg_value.specs.Rows.{columns_of, row_bytes, RowFits}
use Rattle.mg_rowcode.specs.Faults.{DecodesTo}

-- the pages of an image by their numbers; a page past the end reads as zero
abbrev pub Pages : Type 0
Pages = ℕ → List ℕ

-- a row: a value for each column
abbrev pub Row : Type 0
Row = List Value

-- rows by their keys
abbrev pub Rows : Type 0
Rows = Value → Option Row

-- How rows stand in versions.
pub record Coding : Type 1 where
  -- the body of a version with this format codes this row of a table with these columns
  pub row_spelled : List Column → ℕ → List ℕ → Row → Type 0
  -- a version of a table with these columns may have this format
  pub format : List Column → ℕ → Type 0

-- What differs between versions of the program.
pub record Form : Type 1 where
  pub coding : Coding
  -- whether a version may stand in its record's primary slot
  pub in_primary : Bool
  -- a page, under its number, is one of a sequence
  pub sequence_page : List ℕ → ℕ → Type 0

-- a body is the bytes of a row of the format, as they are; this is the row with NULL in the later
-- columns
pub record IsPlainRow (columns : List Column) (format : ℕ) (body : List ℕ) (row : Row)
    : Type 0 where
  pub values : List Value
  pub fits : RowFits (columns_of columns format) values
  pub spelled : body ≡ row_bytes (columns_of columns format) values
  pub whole : row ≡ values ++ replicate (length columns - length values) Null

-- until tables can be altered, each version has the first format
abbrev pub OnlyFirst : List Column → ℕ → Type 0
OnlyFirst columns format = format ≡ 1

-- rows stand as their bytes are
abbrev pub plain_coding : Coding
plain_coding = record { row_spelled = IsPlainRow; format = OnlyFirst }

-- rows are packed
abbrev pub packed_coding : Coding
packed_coding = record { row_spelled = DecodesTo; format = OnlyFirst }

-- there are no sequences yet
abbrev pub NoSequence : List ℕ → ℕ → Type 0
NoSequence page number = ⊥

-- the form with plain rows
abbrev pub plain_form : Form
plain_form = record {
  coding = plain_coding;
  in_primary = false;
  sequence_page = NoSequence;
}

-- the form with packed rows
abbrev pub packed_form : Form
packed_form = record {
  coding = packed_coding;
  in_primary = false;
  sequence_page = NoSequence;
}
