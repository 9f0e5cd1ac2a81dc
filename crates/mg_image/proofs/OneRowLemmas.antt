-- A body codes one row of a format at most.
use Rattle.std.proofs.Common.{◌≡◌, ℕ, ◌-◌, sym, ap, subst, ◌∙◌, List, [], ◌∷◌, ◌++◌, length, replicate}
use Rattle.mg_rle.specs.Runs.{StandsFor}
use Rattle.mg_rowcode.specs.Storable.{AreStorable}
use Rattle.mg_value.specs.declared.shape.Column.{Column}
use Rattle.mg_value.specs.declared.value.Value.{Value}
use Rattle.mg_value.specs.declared.value.Value.TheVariants.{Null}
use Rattle.mg_value.specs.Rows.{RowFits, columns_of, row_bytes}
use Rattle.mg_image.specs.Form.{packed_coding, plain_coding}
use Rattle.mg_image.specs.ReadingLaws.{RowsAreOne}

-- rows of the same columns with the same bytes are one
abbrev OneRow : Type 0
OneRow = (columns : List Column) (first second : List Value) → RowFits columns first
    → RowFits columns second → AreStorable first → AreStorable second
    → row_bytes columns first ≡ row_bytes columns second → first ≡ second

-- a packed text stands for one plain text
abbrev OnePlain : Type 0
OnePlain = (packed first second : List ℕ) → StandsFor packed first → StandsFor packed second
    → first ≡ second

front_storable : (xs ys : List Value) → AreStorable (xs ++ ys) → AreStorable xs
front_storable [] ys all = tt
front_storable (x ∷ xs) ys all = (all.0, front_storable xs ys all.1)

-- two rows whose stored values have the same bytes are one
whole_one : OneRow → (columns stored : List Column) (a b row other : List Value)
    → RowFits stored a → RowFits stored b → row_bytes stored a ≡ row_bytes stored b
    → row ≡ a ++ replicate (length columns - length a) Null
    → other ≡ b ++ replicate (length columns - length b) Null
    → AreStorable row → AreStorable other → row ≡ other
whole_one one columns stored a b row other fits also same is as_ here there =
    let values : a ≡ b = one stored a b fits also
    (front_storable a (replicate (length columns - length a) Null) (subst AreStorable is here))
    (front_storable b (replicate (length columns - length b) Null) (subst AreStorable as_ there))
    same in
    is ∙ (ap (λ (xs : List Value). xs ++ replicate (length columns - length xs) Null) values
    ∙ sym as_)

pub plain_one : OneRow → RowsAreOne plain_coding
plain_one one columns format body row other a b here there =
    whole_one one columns (columns_of columns format) a.values b.values row other a.fits b.fits
    (sym a.spelled ∙ b.spelled) a.whole b.whole here there

pub packed_one : OneRow → OnePlain → RowsAreOne packed_coding
packed_one one plain columns format body row other a b here there =
    whole_one one columns (columns_of columns format) a.values b.values row other a.fits b.fits
    (plain body (row_bytes (columns_of columns format) a.values)
    (row_bytes (columns_of columns format) b.values) a.stands b.stands) a.whole b.whole here there
