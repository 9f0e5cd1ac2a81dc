-- The shapes of rows, and the bytes of a row.
use Rattle.std.specs.Prelude.{◌≡◌, ◌≢◌, ℕ, ◌+◌, ◌-◌, ◌*◌, ◌/◌, ◌≤◌, Bool, true, false, nat_le, List, [], ◌∷◌, ◌++◌, length, map, replicate, take_while, if◌then◌else◌}
use Rattle.std.specs.List.{sum_by}
use Rattle.std.specs.Int.{w16, w64, cast_unsigned, to_le_bytes}
use Rattle.mg_value.specs.declared.shape.Kind.{Kind}
use Rattle.mg_value.specs.declared.shape.Kind.TheVariants as kinds
use Rattle.mg_value.specs.declared.shape.Column.{Column}
use Rattle.mg_value.specs.declared.shape.TheConstants.{NUMBER_WIDTH}
use Rattle.mg_value.specs.declared.value.Value.{Value}
use Rattle.mg_value.specs.declared.value.Value.TheVariants.{Null, Int, Text}

-- how many bytes a value of the kind takes
abbrev pub width_of : Kind → ℕ
width_of kinds.Int = NUMBER_WIDTH
width_of (kinds.Text most) = 2 + most

-- how many bytes a row of these columns takes: a bit for each, and then the values
abbrev pub row_len_of : List Column → ℕ
row_len_of columns = (length columns + 7) / 8 + sum_by (λ column. width_of column.kind) columns

-- the columns that a row of a format has: every format of a table is a front of its columns
abbrev pub columns_of : List Column → ℕ → List Column
columns_of columns format = take_while (λ column. nat_le column.since format) columns

-- a value may stand in a column of a kind: NULL in any, a number in a BIGINT, a text that is short
-- enough in a VARCHAR
abbrev pub FitsKind : Kind → Value → Type 0
FitsKind kind Null = Unit {0}
FitsKind kinds.Int (Int number) = Unit {0}
FitsKind kinds.Int (Text text) = ⊥
FitsKind (kinds.Text most) (Int number) = ⊥
FitsKind (kinds.Text most) (Text text) = length text ≤ most

-- a value may stand in a column: it fits the column's kind, and isn't NULL where none is allowed
pub record FitsColumn (column : Column) (value : Value) : Type 0 where
  pub kind : FitsKind column.kind value
  pub allowed : column.not_null ≡ true → value ≢ Null

-- a row fits a list of columns: a value for each, and each may stand in its column
abbrev pub RowFits : List Column → List Value → Type 0
RowFits [] [] = Unit {0}
RowFits [] (value ∷ values) = ⊥
RowFits (column ∷ columns) [] = ⊥
RowFits (column ∷ columns) (value ∷ values) = FitsColumn column value × RowFits columns values

-- the bytes of a value in a column of a kind: all zero for NULL, and a number in two's complement
abbrev pub value_bytes : Kind → Value → List ℕ
value_bytes kind Null = replicate (width_of kind) 0
value_bytes kind (Int number) = to_le_bytes w64 (cast_unsigned w64 number)
value_bytes kind (Text text) =
    to_le_bytes w16 (length text) ++ text ++ replicate (width_of kind - 2 - length text) 0

-- the bytes of the values of a row
abbrev pub values_bytes : List Column → List Value → List ℕ
values_bytes [] values = []
values_bytes (column ∷ columns) [] = []
values_bytes (column ∷ columns) (value ∷ values) =
    value_bytes column.kind value ++ values_bytes columns values

-- whether a value is NULL
abbrev pub is_null : Value → Bool
is_null Null = true
is_null (Int number) = false
is_null (Text text) = false

-- the number that up to eight bits are, the lowest first
abbrev pub number_of_bits : List Bool → ℕ
number_of_bits [] = 0
number_of_bits (bit ∷ bits) = (if bit then 1 else 0) + 2 * number_of_bits bits

-- bits as bytes, eight to a byte, the lowest first; the unused bits of the last byte are 0
abbrev pub bytes_of_bits : List Bool → List ℕ
bytes_of_bits (a ∷ b ∷ c ∷ d ∷ e ∷ f ∷ g ∷ h ∷ bits) =
    number_of_bits (a ∷ b ∷ c ∷ d ∷ e ∷ f ∷ g ∷ h ∷ []) ∷ bytes_of_bits bits
bytes_of_bits [] = []
bytes_of_bits (a ∷ bits) = number_of_bits (a ∷ bits) ∷ []

-- the bytes of a row: a bit for each column, 1 where it is NULL, and the values
abbrev pub row_bytes : List Column → List Value → List ℕ
row_bytes columns values = bytes_of_bits (map is_null values) ++ values_bytes columns values
