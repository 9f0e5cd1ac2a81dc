-- How long a row is that a write stores.
use Rattle.std.proofs.Common.{◌≡◌, ◌+◌, ◌*◌, ◌-◌, ◌/◌, ◌≤◌, ◌==◌, ℕ, suc, Bool, true, false, List, [], ◌∷◌, length, map, replicate, refl, ap, arith}
use Rattle.std.specs.Prelude.{if◌then◌else◌}
use Rattle.std.specs.List.{sum_by}
use Rattle.std.proofs.lemmas.List.{length-append, length-map, length-replicate}
use Rattle.std.proofs.lemmas.List.Sums.{sum_by-cons}
use Rattle.mg_image.specs.RecordRules.{allowing_null, erased_from}
use Rattle.mg_rle.specs.Runs.{AreInOrder, Literal, Repeat, Run, StandsFor, packed_text, plain_text}
use Rattle.mg_value.specs.Rows.{FitsKind, RowFits, bytes_of_bits, is_null, row_bytes, row_len_of, value_bytes, values_bytes, width_of}
use Rattle.mg_value.specs.declared.shape.Column.{Column}
use Rattle.mg_value.specs.declared.shape.Kind.{Kind}
use Rattle.mg_value.specs.declared.shape.Kind.TheVariants as kinds
use Rattle.mg_value.specs.declared.value.Value.{Value}
use Rattle.mg_value.specs.declared.value.Value.TheVariants.{Int, Null, Text}

-- ---- the bytes of a row

value_len : (kind : Kind) (value : Value) → FitsKind kind value → length (value_bytes kind value) ≡ width_of kind
value_len kind Null fits = length-replicate (width_of kind) 0
value_len kinds.Int (Int number) fits = refl
value_len kinds.Int (Text text) fits = absurd fits
value_len (kinds.Text most) (Int number) fits = absurd fits
value_len (kinds.Text most) (Text text) fits =
    omega (
      arith,
      length-append text (replicate (width_of (kinds.Text most) - 2 - length text) 0),
      length-replicate {A = ℕ} (width_of (kinds.Text most) - 2 - length text) 0,
      fits,
    )

-- how many bytes the values of these columns take
abbrev widths : List Column → ℕ
widths columns = sum_by (λ column. width_of column.kind) columns

values_len : (columns : List Column) (row : List Value) → RowFits columns row
    → length (values_bytes columns row) ≡ widths columns
values_len [] [] fits = refl
values_len [] (value ∷ row) fits = absurd fits
values_len (column ∷ columns) [] fits = absurd fits
values_len (column ∷ columns) (value ∷ row) fits =
    let here = value_len column.kind value fits.0.kind in
    let rest = values_len columns row fits.1 in omega (
      arith,
      length-append (value_bytes column.kind value) (values_bytes columns row),
      here,
      rest,
      sum_by-cons (λ (c : Column). width_of c.kind) column columns,
    )

bits_len : (bits : List Bool) → length (bytes_of_bits bits) ≤ (length bits + 7) / 8
bits_len [] = omega arith
bits_len (a ∷ []) = omega arith
bits_len (a ∷ b ∷ []) = omega arith
bits_len (a ∷ b ∷ c ∷ []) = omega arith
bits_len (a ∷ b ∷ c ∷ d ∷ []) = omega arith
bits_len (a ∷ b ∷ c ∷ d ∷ e ∷ []) = omega arith
bits_len (a ∷ b ∷ c ∷ d ∷ e ∷ f ∷ []) = omega arith
bits_len (a ∷ b ∷ c ∷ d ∷ e ∷ f ∷ g ∷ []) = omega arith
bits_len (a ∷ b ∷ c ∷ d ∷ e ∷ f ∷ g ∷ h ∷ bits) = let rest = bits_len bits in omega (arith, rest)

count_len : (columns : List Column) (row : List Value) → RowFits columns row → length row ≡ length columns
count_len [] [] fits = refl
count_len [] (value ∷ row) fits = absurd fits
count_len (column ∷ columns) [] fits = absurd fits
count_len (column ∷ columns) (value ∷ row) fits = ap suc (count_len columns row fits.1)

pub row_len : (columns : List Column) (row : List Value) → RowFits columns row
    → length (row_bytes columns row) ≤ row_len_of columns
row_len columns row fits =
    let bits = bits_len (map is_null row) in
    let values = values_len columns row fits in
    let count = count_len columns row fits in omega (
      arith,
      length-append (bytes_of_bits (map is_null row)) (values_bytes columns row),
      bits,
      values,
      count,
      length-map row is_null,
    )

-- ---- the columns of a deletion

kind_kept : (here : Bool) (column : Column) → (if here then column else allowing_null column).kind ≡ column.kind
kind_kept true column = refl
kind_kept false column = refl

erased_count : (key at : ℕ) (columns : List Column) → length (erased_from key at columns) ≡ length columns
erased_count key at [] = refl
erased_count key at (column ∷ columns) = ap suc (erased_count key (at + 1) columns)

erased_widths : (key at : ℕ) (columns : List Column) → widths (erased_from key at columns) ≡ widths columns
erased_widths key at [] = refl
erased_widths key at (column ∷ columns) =
    let rest = erased_widths key (at + 1) columns in
    let here = ap width_of (kind_kept (at == key) column) in omega (
      arith,
      sum_by-cons (λ (c : Column). width_of c.kind) (if at == key then column else allowing_null column)
          (erased_from key (at + 1) columns),
      sum_by-cons (λ (c : Column). width_of c.kind) column columns,
      rest,
      here,
    )

pub erased_len : (key : ℕ) (columns : List Column) → row_len_of (erased_from key 0 columns) ≡ row_len_of columns
erased_len key columns =
    let counts = erased_count key 0 columns in
    let all = erased_widths key 0 columns in omega (arith, counts, all)

-- ---- a packed text

-- the first run of these is no literal
abbrev BeginsWithNone : List Run → Type 0
BeginsWithNone (Literal bytes ∷ later) = ⊥
BeginsWithNone runs = Unit {0}

-- a packed text has at most half as many bytes more, and one, than what it stands for
record IsPacked (runs : List Run) : Type 0 where
  most : 2 * length (packed_text runs) ≤ 3 * length (plain_text runs) + 2
  none : BeginsWithNone runs → 2 * length (packed_text runs) ≤ 3 * length (plain_text runs)

packed_most : (runs : List Run) → AreInOrder runs → IsPacked runs
packed_most [] order = record { most = omega arith; none = λ x. omega arith }
packed_most (Repeat count byte ∷ later) order =
    let rest = (packed_most later order.2).most in
    let least = order.0.0 in
    let plain : length (replicate count byte) ≡ count = length-replicate {A = ℕ} count byte in
    let sum = length-append (replicate count byte) (plain_text later) in
    record { most = omega (arith, rest, least, plain, sum); none = λ x. omega (arith, rest, least, plain, sum) }
packed_most (Literal bytes ∷ []) order =
    let some = order.0.0 in
    let packed = length-append bytes (packed_text []) in
    let plain = length-append bytes (plain_text []) in
    record { most = omega (arith, some, packed, plain); none = λ x. absurd x }
packed_most (Literal bytes ∷ Literal others ∷ later) order =
    let rest = (packed_most (Literal others ∷ later) order.2).most in
    let full = order.1 in
    let packed = length-append bytes (packed_text (Literal others ∷ later)) in
    let plain = length-append bytes (plain_text (Literal others ∷ later)) in
    record { most = omega (arith, rest, full, packed, plain); none = λ x. absurd x }
packed_most (Literal bytes ∷ Repeat count byte ∷ later) order =
    let rest = (packed_most (Repeat count byte ∷ later) order.2).none tt in
    let some = order.0.0 in
    let packed = length-append bytes (packed_text (Repeat count byte ∷ later)) in
    let plain = length-append bytes (plain_text (Repeat count byte ∷ later)) in
    record { most = omega (arith, rest, some, packed, plain); none = λ x. absurd x }

pub packed_short : (packed plain : List ℕ) → StandsFor packed plain
    → 2 * length packed ≤ 3 * length plain + 2
packed_short packed plain is =
    let most = (packed_most is.runs is.accepted.in_order).most in
    let packed_is = ap (length {A = ℕ}) is.spelled in
    let plain_is = ap (length {A = ℕ}) is.means in omega (arith, most, packed_is, plain_is)
