-- The row nearest to some bytes: it has all that the bytes have of any row.
use Rattle.std.specs.Prelude.{◌≡◌, ◌≢◌, ℕ, ◌+◌, ◌-◌, ◌/◌, ◌%◌, ◌<◌, ◌≤◌, ◌==◌, Bool, true, false, nat_le, List, [], ◌∷◌, ◌++◌, length, take, drop, replicate, if◌then◌else◌}
use Rattle.std.specs.Int.{w16, w64, cast_signed, from_le_bytes}
use Rattle.mg_base.specs.Fields.{byte}
use Rattle.mg_value.specs.declared.shape.Kind.{Kind}
use Rattle.mg_value.specs.declared.shape.Kind.TheVariants as kinds
use Rattle.mg_value.specs.declared.shape.Column.{Column}
use Rattle.mg_value.specs.declared.value.Value.{Value}
use Rattle.mg_value.specs.declared.value.Value.TheVariants.{Null, Int, Text}
use Rattle.mg_value.specs.Rows.{width_of, row_len_of}

-- bytes at a length: cut, or with zeros behind them
abbrev pub at_length : ℕ → List ℕ → List ℕ
at_length len bytes = take len bytes ++ replicate (len - length (take len bytes)) 0

-- which of up to eight columns a byte says to be NULL, where they may be
abbrev pub flags_of_byte : List Column → ℕ → List Bool
flags_of_byte [] bits = []
flags_of_byte (column ∷ columns) bits =
    (if column.not_null then false else bits % 2 == 1) ∷ flags_of_byte columns (bits / 2)

-- which columns the bytes say to be NULL
abbrev pub flags_of : List Column → List ℕ → List Bool
flags_of (a ∷ b ∷ c ∷ d ∷ e ∷ f ∷ g ∷ h ∷ columns) bytes =
    flags_of_byte (a ∷ b ∷ c ∷ d ∷ e ∷ f ∷ g ∷ h ∷ []) (byte bytes 0) ++ flags_of columns (drop 1 bytes)
flags_of [] bytes = []
flags_of (a ∷ columns) bytes = flags_of_byte (a ∷ columns) (byte bytes 0)

-- the length of a text of at most so many bytes: as its two bytes say, else as the first one says
abbrev pub text_len : ℕ → List ℕ → ℕ
text_len most bytes =
    if nat_le (from_le_bytes w16 (take 2 bytes)) most then from_le_bytes w16 (take 2 bytes)
    else (if nat_le (byte bytes 0) most then byte bytes 0 else 0)

-- the value of a kind that stands at the front of the bytes
abbrev pub value_in : Kind → Bool → List ℕ → Value
value_in kind true bytes = Null
value_in kinds.Int false bytes = Int (cast_signed w64 (from_le_bytes w64 (take 8 bytes)))
value_in (kinds.Text most) false bytes = Text (take (text_len most bytes) (drop 2 bytes))

-- the values of these columns that stand one after the other
abbrev pub values_in : List Column → List Bool → List ℕ → List Value
values_in [] flags bytes = []
values_in (column ∷ columns) [] bytes = []
values_in (column ∷ columns) (flag ∷ flags) bytes =
    value_in column.kind flag (take (width_of column.kind) bytes)
    ∷ values_in columns flags (drop (width_of column.kind) bytes)

-- the row nearest to bytes that are as long as a row of these columns
abbrev pub nearest_row : List Column → List ℕ → List Value
nearest_row columns bytes =
    values_in columns (flags_of columns (take ((length columns + 7) / 8) bytes))
    (drop ((length columns + 7) / 8) bytes)

-- the row nearest to any bytes
abbrev pub near_to : List Column → List ℕ → List Value
near_to columns bytes = nearest_row columns (at_length (row_len_of columns) bytes)

-- so many bytes at the front are equal, and no more
pub record IsCommonFront (a b : List ℕ) (count : ℕ) : Type 0 where
  pub in_first : count ≤ length a
  pub in_second : count ≤ length b
  pub same : take count a ≡ take count b
  pub ended : count < length a → count < length b → byte a count ≢ byte b count
