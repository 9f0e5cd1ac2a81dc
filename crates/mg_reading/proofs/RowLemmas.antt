-- Lemmas on rows as they are decoded.
use Rattle.std.proofs.Common.{◌≡◌, ℕ, zero, suc, refl, sym, subst, List, [], ◌∷◌, ◌++◌, take, get_or, Result, Ok, Err, ◌+◌, ◌-◌, ◌*◌, ◌<◌, ◌≤◌, inl, inr, length, replicate, length-append, arith}
use Rattle.std.specs.List.{prefix_len}
use Rattle.std.specs.Prelude.{All, IfErr, IfOk, nat_le}
use Rattle.std.proofs.lemmas.List.{take_more, length-replicate}
use Rattle.mg_rle.specs.Runs.{AreInOrder, BreaksAt, Literal, Repeat, Run, StandsFor, packed_text, plain_text}
use Rattle.mg_rle.specs.Writing.{AppendsPacked}
use Rattle.mg_rowcode.specs.declared.fault.RowFault.{RowFault}
use Rattle.mg_rowcode.specs.declared.fault.RowFault.TheVariants as faults
use Rattle.mg_rowcode.specs.Faults.{DecodesTo, Refuses}
use Rattle.mg_rowcode.specs.Storable.{AreStorable, IsStorable}
use Rattle.mg_value.specs.declared.shape.Column.{Column}
use Rattle.mg_value.specs.declared.shape.Kind.{Kind}
use Rattle.mg_value.specs.declared.shape.Kind.TheVariants as kinds
use Rattle.mg_value.specs.declared.shape.TheConstants.{GREATEST_WIDTH}
use Rattle.mg_value.specs.declared.value.Value.{Value}
use Rattle.mg_value.specs.declared.value.Value.TheVariants.{Null, Int, Text}
use Rattle.mg_value.specs.Rows.{FitsKind, RowFits, columns_of, row_bytes, width_of}
use Rattle.mg_image.specs.Form.{IsPlainRow, Row}
use Rattle.mg_reading.specs.declared.point.ReadFault.{ReadFault}
use Rattle.mg_reading.specs.declared.rows.RowCoding.{RowCoding}
use Rattle.mg_reading.specs.declared.rows.RowCoding.TheVariants.{Plain, Packed}
use Rattle.mg_reading.specs.Codings.{RowSpelled}
use Rattle.mg_reading.specs.LongTexts.{HasLongText, IsLongText}
use Rattle.mg_reading.specs.Readable.{CodesRow}

-- a packed text stands for one plain text
abbrev pub OnePlain : Type 0
OnePlain = (packed first second : List ℕ) → StandsFor packed first → StandsFor packed second
    → first ≡ second

-- a packed text has no run that breaks the rule
abbrev pub NoneBreaks : Type 0
NoneBreaks = (packed plain : List ℕ) (at : ℕ) → StandsFor packed plain → BreaksAt packed at → ⊥

-- a text that is refused codes no row
codes_none : OnePlain → NoneBreaks → (columns : List Column) (format : ℕ) (packed : List ℕ)
    (fault : RowFault) → Refuses (columns_of columns format) packed fault
    → (fault ≡ faults.Memory → ⊥) → CodesRow Packed columns format packed → ⊥
codes_none one none columns format packed (faults.BadRun at) breaks other (row, is) =
    none packed (row_bytes (columns_of columns format) is.values) at is.stands breaks
codes_none one none columns format packed (faults.BadRow at) refused other (row, is) =
    refused.breaks.refused is.values (record {
      fits = is.fits;
      spelled = one packed refused.plain (row_bytes (columns_of columns format) is.values)
          refused.stands is.stands;
    })
codes_none one none columns format packed faults.Memory refused other codes = other refl

pub refused_none : OnePlain → NoneBreaks → (columns : List Column) (format : ℕ)
    (packed : List ℕ) (r : Result Row RowFault) (fault : RowFault)
    → IfErr r (Refuses (columns_of columns format) packed) → r ≡ Err fault
    → (fault ≡ faults.Memory → ⊥) → CodesRow Packed columns format packed → ⊥
refused_none one none columns format packed r fault refuses is other codes =
    codes_none one none columns format packed fault (rw is at refuses) other codes

-- a row that the packed bytes decode to is that of the bytes
pub plain_row_is : OnePlain → (columns : List Column) (format : ℕ) (packed body : List ℕ)
    → AppendsPacked [] packed body → (result : Result Row ReadFault)
    → IfOk result (λ row. DecodesTo columns format packed row)
    → IfOk result (λ row. IsPlainRow columns format body row)
plain_row_is one columns format packed body appends (Ok row) decodes = record {
  values = decodes.values;
  fits = decodes.fits;
  spelled = one packed body (row_bytes (columns_of columns format) decodes.values)
      (rw (appends.appended) appends.stands) decodes.stands;
  whole = decodes.whole;
}
plain_row_is one columns format packed body appends (Err e) decodes = tt

-- and the other way round
pub plain_codes : (columns : List Column) (format : ℕ) (packed body : List ℕ)
    → AppendsPacked [] packed body → CodesRow Plain columns format body
    → CodesRow Packed columns format packed
plain_codes columns format packed body appends (row, is) = (
  row,
  record {
    values = is.values;
    fits = is.fits;
    stands = rw (appends.appended, sym is.spelled) appends.stands;
    whole = is.whole;
  },
)

-- packed runs are at most twice as long as what they stand for
runs_short : (runs : List Run) → AreInOrder runs
    → length (packed_text runs) ≤ 2 * length (plain_text runs)
runs_short [] sized = omega arith
runs_short (Literal bytes ∷ later) sized =
    let before = runs_short later sized.2 in
    omega (
      arith,
      length-append bytes (plain_text later),
      length-append bytes (packed_text later),
      before,
      sized.0.0,
    )
runs_short (Repeat count same ∷ later) sized =
    let before = runs_short later sized.2 in
    omega (
      arith,
      length-append (replicate count same) (plain_text later),
      length-replicate {A = ℕ} count same,
      before,
      sized.0.0,
    )

pub packed_short : (packed body : List ℕ) → AppendsPacked [] packed body
    → length packed ≤ 2 * length body
packed_short packed body appends = rw (
  appends.appended,
  appends.stands.spelled,
  appends.stands.means,
) (runs_short appends.stands.runs appends.stands.accepted.in_order)

-- values of these columns are short
abbrev pub AreNarrow : List Column → Type 0
AreNarrow [] = Unit {0}
AreNarrow (column ∷ columns) = (width_of column.kind ≤ GREATEST_WIDTH) × AreNarrow columns

pub each_narrow : (columns : List Column) → All (λ column. width_of column.kind ≤ GREATEST_WIDTH) columns
    → AreNarrow columns
each_narrow [] all = tt
each_narrow (column ∷ columns) all = (
  all 0 column (omega arith),
  each_narrow columns (λ k d below. all (suc k) d (omega arith)),
)

narrow_take : (count : ℕ) (columns : List Column) → AreNarrow columns
    → AreNarrow (take count columns)
narrow_take zero columns all = tt
narrow_take (suc count) [] all = tt
narrow_take (suc count) (column ∷ columns) all = (all.0, narrow_take count columns all.1)

narrow_front : (format : ℕ) (columns : List Column) → AreNarrow columns
    → AreNarrow (columns_of columns format)
narrow_front format columns all =
    narrow_take (prefix_len (λ (column : Column). nat_le column.since format) columns) columns all

none_long : (kind : Kind) (v : Value) → width_of kind ≤ GREATEST_WIDTH → FitsKind kind v
    → IsLongText v → ⊥
none_long kind Null narrow fits long = long
none_long kind (Int number) narrow fits long = long
none_long kinds.Int (Text text) narrow fits long = fits
none_long (kinds.Text most) (Text text) narrow fits long = omega arith

fits_short : (columns : List Column) (values : List Value) → AreNarrow columns
    → RowFits columns values → HasLongText values → ⊥
fits_short [] [] narrow fits long = long
fits_short [] (v ∷ values) narrow fits long = fits
fits_short (c ∷ columns) [] narrow fits long = fits
fits_short (c ∷ columns) (v ∷ values) narrow fits (inl long) =
    none_long c.kind v narrow.0 fits.0.kind long
fits_short (c ∷ columns) (v ∷ values) narrow fits (inr later) =
    fits_short columns values narrow.1 fits.1 later

nulls_short : (count : ℕ) → HasLongText (replicate count Null) → ⊥
nulls_short zero long = long
nulls_short (suc count) (inl long) = long
nulls_short (suc count) (inr later) = nulls_short count later

front_long : (values : List Value) (count : ℕ) → HasLongText (values ++ replicate count Null)
    → HasLongText values
front_long [] count long = nulls_short count long
front_long (v ∷ values) count (inl long) = inl long
front_long (v ∷ values) count (inr later) = inr (front_long values count later)

-- one value is such a text
pub long_at : (values : List Value) (i : ℕ) (v : Value) → i < length values
    → v ≡ get_or values i v → IsLongText v → HasLongText values
long_at [] i v below is long = absurd (omega arith)
long_at (w ∷ values) zero v below is long = inl (subst IsLongText is long)
long_at (w ∷ values) (suc i) v below is long = inr (long_at values i v (omega arith) is long)

-- a row that a body codes has no text that is too long
pub coded_short : (coding : RowCoding) (columns : List Column) (format : ℕ) (body : List ℕ)
    (row : Row) → All (λ column. width_of column.kind ≤ GREATEST_WIDTH) columns
    → RowSpelled coding columns format body row → HasLongText row → ⊥
coded_short Plain columns format body row narrow is long =
    fits_short (columns_of columns format) is.values
    (narrow_front format columns (each_narrow columns narrow)) is.fits
    (front_long is.values (length columns - length is.values) (subst HasLongText is.whole long))
coded_short Packed columns format body row narrow is long =
    fits_short (columns_of columns format) is.values
    (narrow_front format columns (each_narrow columns narrow)) is.fits
    (front_long is.values (length columns - length is.values) (subst HasLongText is.whole long))

-- one value more that the program has
storable_push : (values : List Value) (v : Value) → AreStorable values → IsStorable v
    → AreStorable (values ++ v ∷ [])
storable_push [] v are is = (is, tt)
storable_push (w ∷ values) v are is = (are.0, storable_push values v are.1 is)

pub storable_take : (values : List Value) (i : ℕ) (v : Value) → i < length values
    → v ≡ get_or values i v → AreStorable (take i values) → IsStorable v
    → AreStorable (take (i + 1) values)
storable_take values i v below at are is =
    rw (take_more values i v below) (storable_push (take i values) (get_or values i v) are
    (rw (sym at) is))
