-- Which types of expressions fit where.
use Rattle.std.specs.Prelude.{ℕ, Bool, true, false, ◌&&◌, List, [], ◌∷◌, Option, Some, None, slice_get}
use Rattle.mg_value.specs.declared.shape.Kind.{Kind}
use Rattle.mg_value.specs.declared.shape.Kind.TheVariants as kinds
use Rattle.mg_value.specs.declared.shape.Column.{Column}
use Rattle.mg_expr.specs.Trees.{Tree}
use Rattle.mg_expr.specs.Typing.{Sort, OfIntegers, OfTexts, OfNull, OfTruths, fits_integer, fits_text, fits_truth, sort_of, sort_of_kind}
use Rattle.mg_plan.specs.declared.typing.ValueType.{ValueType}
use Rattle.mg_plan.specs.declared.typing.ValueType.TheVariants as types

-- the type of the definitions that a type of the program is
abbrev pub sort_in : ValueType → Sort
sort_in types.Integers = OfIntegers
sort_in types.Texts = OfTexts
sort_in types.Null = OfNull
sort_in types.Truths = OfTruths

abbrev pub sort_if : Option ValueType → Option Sort
sort_if None = None
sort_if (Some type_) = Some (sort_in type_)

-- the type of a column, if there is one
abbrev pub sort_if_there : Option Column → Option Sort
sort_if_there None = None
sort_if_there (Some column) = Some (sort_of_kind column.kind)

-- an expression may be put into a column of a kind: its value is of the column's type, or NULL
abbrev pub fits_kind : Kind → Option Sort → Bool
fits_kind kinds.Int sort = fits_integer sort
fits_kind (kinds.Text most) sort = fits_text sort

abbrev pub fits_column : Option Column → Option Sort → Bool
fits_column None sort = false
fits_column (Some column) sort = fits_kind column.kind sort

-- each may be put into the column at its place
abbrev pub fit_places : List Column → List ℕ → List (Option Sort) → Bool
fit_places columns [] [] = true
fit_places columns [] (sort ∷ sorts) = false
fit_places columns (place ∷ places) [] = false
fit_places columns (place ∷ places) (sort ∷ sorts) =
    fits_column (slice_get columns place) sort && fit_places columns places sorts

-- a filter that is bound is a truth
abbrev pub is_filter_truth : List Column → Option Tree → Bool
is_filter_truth columns None = true
is_filter_truth columns (Some t) = fits_truth (sort_of t columns)
