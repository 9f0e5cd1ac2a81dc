-- The row of a deletion fits the columns under which it stands.
use Rattle.std.proofs.Common.{◌≡◌, ◌≢◌, ◌<◌, ◌+◌, ◌==◌, ℕ, zero, suc, Bool, true, false, List, [], ◌∷◌, Some, None, refl, subst, ap, sym, arith, if◌then◌else◌}
use Rattle.std.specs.Prelude.{slice_get}
use Rattle.std.proofs.lemmas.Bool.{eq-eqb, ne_eqb}
use Rattle.mg_image.specs.RecordRules.{allowing_null, erased_from}
use Rattle.mg_records.specs.Writing.{IsOfColumn}
use Rattle.mg_value.specs.Rows.{FitsColumn, FitsKind, RowFits}
use Rattle.mg_value.specs.declared.shape.Column.{Column}
use Rattle.mg_value.specs.declared.shape.Kind.{Kind}
use Rattle.mg_value.specs.declared.shape.Kind.TheVariants as kinds
use Rattle.mg_value.specs.declared.value.Value.{Value}
use Rattle.mg_value.specs.declared.value.Value.TheVariants.{Null}
use Rattle.mg_row_writes.specs.Storing.{alone_at}

null_fits : (kind : Kind) → FitsKind kind Null
null_fits kinds.Int = tt
null_fits (kinds.Text most) = tt

-- NULL may stand in a column that allows it
null_stands : (column : Column) → FitsColumn (allowing_null column) Null
null_stands column = record { kind = null_fits column.kind; allowed = λ told. absurd (let h : false ≡ true = told in cc) }

-- one column, by whether the key stands there
one_fits : (here : Bool) (value : Value) (column : Column) → value ≢ Null
    → (here ≡ true → FitsKind column.kind value)
    → FitsColumn (if here then column else allowing_null column) (if here then value else Null)
one_fits true value column some fits = record { kind = fits refl; allowed = λ told. some }
one_fits false value column some fits = null_stands column

-- behind the place of the key
behind : (key at : ℕ) (value : Value) (columns : List Column) → key < at → value ≢ Null
    → RowFits (erased_from key at columns) (alone_at key at value columns)
behind key at value [] past some = tt
behind key at value (column ∷ columns) past some = (
  one_fits (at == key) value column some (λ here. absurd (let no : (at == key) ≡ false = ne_eqb at key (λ e. omega (arith, past, e)) in cc)),
  behind key (at + 1) value columns (omega (arith, past)) some,
)

-- up to it, so many columns before it
up_to : (left at : ℕ) (value : Value) (columns : List Column) → value ≢ Null
    → IsOfColumn (slice_get columns left) value
    → RowFits (erased_from (at + left) at columns) (alone_at (at + left) at value columns)
up_to left at value [] some of = absurd of
up_to zero at value (column ∷ columns) some of = (
  one_fits (at == at + 0) value column some (λ here. of),
  behind (at + 0) (at + 1) value columns (omega arith) some,
)
up_to (suc left) at value (column ∷ columns) some of = (
  one_fits (at == at + suc left) value column some
      (λ here. absurd (let no : (at == at + suc left) ≡ false = ne_eqb at (at + suc left) (λ e. omega (arith, e)) in cc)),
  subst (λ (k : ℕ). RowFits (erased_from k (at + 1) columns) (alone_at k (at + 1) value columns))
      (let e : (at + 1) + left ≡ at + suc left = omega arith in e)
      (up_to left (at + 1) value columns some of),
)

pub erased_fits : (key : ℕ) (value : Value) (columns : List Column) → value ≢ Null
    → IsOfColumn (slice_get columns key) value
    → RowFits (erased_from key 0 columns) (alone_at key 0 value columns)
erased_fits key value columns some of = subst (λ (k : ℕ). RowFits (erased_from k 0 columns) (alone_at k 0 value columns))
    (let e : 0 + key ≡ key = omega arith in e) (up_to key 0 value columns some of)
