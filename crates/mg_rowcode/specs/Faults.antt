-- What decoding gives, and why a stored row is refused.
use Rattle.std.specs.Prelude.{◌≡◌, ℕ, ◌-◌, ◌≤◌, List, ◌++◌, length, take, replicate}
use Rattle.mg_rle.specs.Runs.{StandsFor, BreaksAt}
use Rattle.mg_value.specs.declared.shape.Column.{Column}
use Rattle.mg_value.specs.declared.value.Value.{Value}
use Rattle.mg_value.specs.declared.value.Value.TheVariants.{Null}
use Rattle.mg_value.specs.Rows.{columns_of, row_bytes, RowFits}
use Rattle.mg_rowcode.specs.declared.fault.RowFault.{RowFault}
use Rattle.mg_rowcode.specs.declared.fault.RowFault.TheVariants as faults

-- The packed text is that of a row of the format; this is the row with NULL in the later columns.
pub record DecodesTo (columns : List Column) (format : ℕ) (packed : List ℕ) (row : List Value) : Type 0 where
  pub values : List Value
  pub fits : RowFits (columns_of columns format) values
  pub stands : StandsFor packed (row_bytes (columns_of columns format) values)
  pub whole : row ≡ values ++ replicate (length columns - length values) Null

-- the bytes are those of this row of these columns
pub record IsRowOf (columns : List Column) (bytes : List ℕ) (row : List Value) : Type 0 where
  pub fits : RowFits columns row
  pub spelled : bytes ≡ row_bytes columns row

-- bytes begin the bytes of some row of these columns
pub record BeginsRow (columns : List Column) (bytes : List ℕ) : Type 0 where
  pub row : List Value
  pub more : List ℕ
  pub fits : RowFits columns row
  pub goes_on : bytes ++ more ≡ row_bytes columns row

-- The bytes are those of no row of these columns, and so many of them begin those of one, no more.
pub record BreaksRowAt (columns : List Column) (bytes : List ℕ) (at : ℕ) : Type 0 where
  pub inside : at ≤ length bytes
  pub begins : BeginsRow columns (take at bytes)
  pub longest : (count : ℕ) → count ≤ length bytes → BeginsRow columns (take count bytes)
      → count ≤ at
  pub refused : (row : List Value) → IsRowOf columns bytes row → ⊥

-- why bytes are no row
abbrev pub RefusesBytes : List Column → List ℕ → RowFault → Type 0
RefusesBytes columns bytes (faults.BadRun at) = ⊥
RefusesBytes columns bytes (faults.BadRow at) = BreaksRowAt columns bytes at
RefusesBytes columns bytes faults.Memory = Unit {0}

-- the packed text is that of bytes that are no row
pub record RefusesRow (columns : List Column) (packed : List ℕ) (at : ℕ) : Type 0 where
  pub plain : List ℕ
  pub stands : StandsFor packed plain
  pub breaks : BreaksRowAt columns plain at

-- why a text can't be unpacked
abbrev pub RefusesRun : List ℕ → RowFault → Type 0
RefusesRun packed (faults.BadRun at) = BreaksAt packed at
RefusesRun packed (faults.BadRow at) = ⊥
RefusesRun packed faults.Memory = Unit {0}

-- why a stored row is refused
abbrev pub Refuses : List Column → List ℕ → RowFault → Type 0
Refuses columns packed (faults.BadRun at) = BreaksAt packed at
Refuses columns packed (faults.BadRow at) = RefusesRow columns packed at
Refuses columns packed faults.Memory = Unit {0}
