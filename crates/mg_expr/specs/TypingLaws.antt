-- What a well typed expression says is of its type.
use Rattle.std.proofs.Common.{◌≡◌, ℕ, zero, suc, ℤ, pos, neg_ℤ, ◌+ℤ◌, ◌-ℤ◌, ◌*ℤ◌, Bool, true, false, List, [], ◌∷◌, get_or, Option, Some, None, refl, subst, if◌then◌else◌}
use Rattle.std.specs.Prelude.{int_div}
use Rattle.std.specs.Ordering.{int_eq}
use Rattle.std.specs.List.{list_all}
use Rattle.std.proofs.lemmas.Bool.{and_parts}
use Rattle.mg_value.specs.declared.shape.Kind.{Kind}
use Rattle.mg_value.specs.declared.shape.Kind.TheVariants as kinds
use Rattle.mg_value.specs.declared.shape.Column.{Column as AnyColumn}
use Rattle.mg_value.specs.declared.truth.Truth.{Truth}
use Rattle.mg_value.specs.declared.value.Value.{Value}
use Rattle.mg_value.specs.declared.value.Value.TheVariants as values
use Rattle.mg_value.specs.Rows.{RowFits, FitsKind}
use Rattle.mg_expr.specs.Trees.{Or, And, Not, Compare, IsNull, IsNotNull, Sum, Product, Minus, Integer, Text, Null, Name, Column}
use Rattle.mg_expr.specs.Meaning.{Says, Gives, Holds, Faults, value_in, gives, holds, fits, within, added, multiplied, number, on_numbers, arithmetic, total, minus, negative, says, says_parts}
use Rattle.mg_expr.specs.Typing.{Sort, OfIntegers, OfTexts, OfNull, OfTruths, fits_integer, provided, column_sort, sort_of, sort_of_kind, part_sorts, FitsSort, IsOfSort, TypesHold}

provided_sort : (b : Bool) (sort s : Sort) → provided b sort ≡ Some s → (b ≡ true) × (sort ≡ s)
provided_sort true sort s is = (refl, cc)
provided_sort false sort s is = absurd cc

-- a truth, or a fault
truth_is : (o : Option Truth) (b : Bool) (s : Sort) → provided b OfTruths ≡ Some s → IsOfSort (holds o) s
truth_is o b s is = subst (λ (x : Sort). IsOfSort (holds o) x) (provided_sort b OfTruths s is).1 (at o) where
  at : (o : Option Truth) → IsOfSort (holds o) OfTruths
  at None = tt
  at (Some truth) = tt

-- a number, NULL, or a fault
abbrev IsNumeric : Option Value → Type 0
IsNumeric None = Unit {0}
IsNumeric (Some values.Null) = Unit {0}
IsNumeric (Some (values.Int n)) = Unit {0}
IsNumeric (Some (values.Text text)) = ⊥

numeric_if : (b : Bool) (z : ℤ) → IsNumeric (if b then Some (values.Int z) else None)
numeric_if true z = tt
numeric_if false z = tt

added_numeric : (inverse : Bool) (x y : ℤ) → IsNumeric (added inverse x y)
added_numeric false x y = numeric_if (fits (x +ℤ y)) (x +ℤ y)
added_numeric true x y = numeric_if (fits (x -ℤ y)) (x -ℤ y)

multiplied_numeric : (inverse : Bool) (x y : ℤ) → IsNumeric (multiplied inverse x y)
multiplied_numeric false x y = numeric_if (fits (x *ℤ y)) (x *ℤ y)
multiplied_numeric true x y = at (int_eq y (pos 0)) where
  at : (b : Bool) → IsNumeric (if b then None else within (int_div x y))
  at true = tt
  at false = numeric_if (fits (int_div x y)) (int_div x y)

arithmetic_numeric : (f : ℤ → ℤ → Option Value) (h : (x y : ℤ) → IsNumeric (f x y))
    (a b : Option Value) → IsNumeric (arithmetic f a b)
arithmetic_numeric f h None b = tt
arithmetic_numeric f h (Some a) None = tt
arithmetic_numeric f h (Some a) (Some b) = at (number a) (number b) where
  at : (x y : Option ℤ) → IsNumeric (on_numbers f x y)
  at None y = tt
  at (Some x) None = tt
  at (Some x) (Some y) = h x y

total_numeric : (f : Bool → ℤ → ℤ → Option Value)
    (h : (inverse : Bool) (x y : ℤ) → IsNumeric (f inverse x y)) (so_far : Option Value)
    (ps : List (Bool × Says)) → IsNumeric so_far → IsNumeric (total f so_far ps)
total_numeric f h so_far [] is = is
total_numeric f h so_far (p ∷ ps) is =
    total_numeric f h (arithmetic (f p.0) so_far (value_in p.1)) ps
    (arithmetic_numeric (f p.0) (h p.0) so_far (value_in p.1))

negative_numeric : (o : Option Value) → IsNumeric (negative o)
negative_numeric None = tt
negative_numeric (Some value) = at (number value) where
  at : (x : Option ℤ) → IsNumeric (minus x)
  at None = tt
  at (Some x) = numeric_if (fits (neg_ℤ x)) (neg_ℤ x)

-- arithmetic is of the type of integers
numeric_is : (o : Option Value) (b : Bool) (s : Sort) → IsNumeric o → provided b OfIntegers ≡ Some s
    → IsOfSort (gives o) s
numeric_is o b s is sort =
    subst (λ (x : Sort). IsOfSort (gives o) x) (provided_sort b OfIntegers s sort).1 (at o is) where
      at : (o : Option Value) → IsNumeric o → IsOfSort (gives o) OfIntegers
      at None is = tt
      at (Some values.Null) is = tt
      at (Some (values.Int n)) is = tt
      at (Some (values.Text text)) is = absurd is

-- what fits where an integer is wanted is numeric
operand_numeric : (s : Says) (o : Option Sort) → fits_integer o ≡ true
    → ((sort : Sort) → o ≡ Some sort → IsOfSort s sort) → IsNumeric (value_in s)
operand_numeric s None fit is = absurd cc
operand_numeric s (Some OfTexts) fit is = absurd cc
operand_numeric s (Some OfTruths) fit is = absurd cc
operand_numeric s (Some OfIntegers) fit is = at s (is OfIntegers refl) where
  at : (s : Says) → IsOfSort s OfIntegers → IsNumeric (value_in s)
  at (Gives values.Null) is = tt
  at (Gives (values.Int n)) is = tt
  at (Gives (values.Text text)) is = absurd is
  at (Holds truth) is = tt
  at Faults is = tt
operand_numeric s (Some OfNull) fit is = at s (is OfNull refl) where
  at : (s : Says) → IsOfSort s OfNull → IsNumeric (value_in s)
  at (Gives values.Null) is = tt
  at (Gives (values.Int n)) is = absurd is
  at (Gives (values.Text text)) is = absurd is
  at (Holds truth) is = tt
  at Faults is = tt

-- a value that may stand in a column is of the column's type
kind_is : (kind : Kind) (value : Value) → FitsKind kind value → FitsSort (sort_of_kind kind) value
kind_is kinds.Int values.Null fit = tt
kind_is kinds.Int (values.Int n) fit = tt
kind_is kinds.Int (values.Text text) fit = absurd fit
kind_is (kinds.Text most) values.Null fit = tt
kind_is (kinds.Text most) (values.Int n) fit = absurd fit
kind_is (kinds.Text most) (values.Text text) fit = tt

column_is : (columns : List AnyColumn) (row : List Value) (place : ℕ) (s : Sort)
    → column_sort columns place ≡ Some s → RowFits columns row
    → FitsSort s (get_or row place values.Null)
column_is [] row place s is fit = absurd cc
column_is (column ∷ columns) [] place s is fit = absurd fit
column_is (column ∷ columns) (value ∷ row) zero s is fit =
    let same : sort_of_kind column.kind ≡ s = cc in
    subst (λ (x : Sort). FitsSort x value) same (kind_is column.kind value fit.0.kind)
column_is (column ∷ columns) (value ∷ row) (suc place) s is fit =
    column_is columns row place s is fit.1

pub types_hold : TypesHold
types_hold (Or ts) columns row s is fit = truth_is _ _ s is
types_hold (And ts) columns row s is fit = truth_is _ _ s is
types_hold (Not t) columns row s is fit = truth_is _ _ s is
types_hold (Compare a sign b) columns row s is fit = truth_is _ _ s is
types_hold (IsNull t) columns row s is fit = truth_is _ _ s is
types_hold (IsNotNull t) columns row s is fit = truth_is _ _ s is
types_hold (Sum t ps) columns row s is fit =
    let all_fit = (provided_sort _ OfIntegers s is).0 in
    let first = and_parts (fits_integer (sort_of t columns))
    (list_all fits_integer (part_sorts ps columns)) all_fit in
    numeric_is (total added (value_in (says t row)) (says_parts ps row)) _ s
    (total_numeric added added_numeric (value_in (says t row)) (says_parts ps row)
    (operand_numeric (says t row) (sort_of t columns) first.0
    (λ sort known. types_hold t columns row sort known fit))) is
types_hold (Product t ps) columns row s is fit =
    let all_fit = (provided_sort _ OfIntegers s is).0 in
    let first = and_parts (fits_integer (sort_of t columns))
    (list_all fits_integer (part_sorts ps columns)) all_fit in
    numeric_is (total multiplied (value_in (says t row)) (says_parts ps row)) _ s
    (total_numeric multiplied multiplied_numeric (value_in (says t row)) (says_parts ps row)
    (operand_numeric (says t row) (sort_of t columns) first.0
    (λ sort known. types_hold t columns row sort known fit))) is
types_hold (Minus t) columns row s is fit =
    numeric_is (negative (value_in (says t row))) _ s (negative_numeric (value_in (says t row))) is
types_hold (Integer n) columns row s is fit =
    let same : OfIntegers ≡ s = cc in
    subst (λ (x : Sort). FitsSort x (values.Int n)) same tt
types_hold (Text text) columns row s is fit =
    let same : OfTexts ≡ s = cc in
    subst (λ (x : Sort). FitsSort x (values.Text text)) same tt
types_hold Null columns row s is fit =
    let same : OfNull ≡ s = cc in
    subst (λ (x : Sort). FitsSort x values.Null) same tt
types_hold (Name name) columns row s is fit = absurd cc
types_hold (Column place) columns row s is fit = column_is columns row place s is fit
