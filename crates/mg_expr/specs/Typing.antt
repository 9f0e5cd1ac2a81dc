-- The types of expressions.
use Rattle.std.specs.Prelude.{◌≡◌, ℕ, zero, suc, ◌<◌, Bool, true, false, ◌&&◌, if◌then◌else◌, List, [], ◌∷◌, Option, Some, None}
use Rattle.std.specs.List.{list_all}
use Rattle.mg_value.specs.declared.shape.Kind.{Kind}
use Rattle.mg_value.specs.declared.shape.Kind.TheVariants as kinds
use Rattle.mg_value.specs.declared.shape.Column.{Column as AnyColumn}
use Rattle.mg_value.specs.declared.value.Value.{Value}
use Rattle.mg_value.specs.declared.value.Value.TheVariants as values
use Rattle.mg_value.specs.Rows.{RowFits}
use Rattle.mg_expr.specs.declared.expr.Expr.{Expr}
use Rattle.mg_expr.specs.Meaning.{Says, Gives, Holds, Faults, says}
use Rattle.mg_expr.specs.Trees.{Tree, Trees, Parts, tree_of}
use Rattle.mg_expr.specs.Trees.{Or, And, Not, Compare, IsNull, IsNotNull, Sum, Product, Minus, Integer, Text, Null, Name, Column, end, also, done, part}

-- the types of expressions; that of NULL fits where an integer or a text is wanted
pub data Sort : Type 0 where
  OfIntegers : Sort
  OfTexts : Sort
  OfNull : Sort
  OfTruths : Sort

-- it fits where an integer is wanted
abbrev pub fits_integer : Option Sort → Bool
fits_integer None = false
fits_integer (Some OfIntegers) = true
fits_integer (Some OfTexts) = false
fits_integer (Some OfNull) = true
fits_integer (Some OfTruths) = false

-- it fits where a text is wanted
abbrev pub fits_text : Option Sort → Bool
fits_text None = false
fits_text (Some OfIntegers) = false
fits_text (Some OfTexts) = true
fits_text (Some OfNull) = true
fits_text (Some OfTruths) = false

-- it fits where a truth is wanted
abbrev pub fits_truth : Option Sort → Bool
fits_truth None = false
fits_truth (Some OfIntegers) = false
fits_truth (Some OfTexts) = false
fits_truth (Some OfNull) = false
fits_truth (Some OfTruths) = true

-- it is an integer, a text or NULL
abbrev pub fits_value : Option Sort → Bool
fits_value None = false
fits_value (Some OfIntegers) = true
fits_value (Some OfTexts) = true
fits_value (Some OfNull) = true
fits_value (Some OfTruths) = false

-- two that may be compared: both fit where an integer is wanted, or both where a text is
abbrev pub are_comparable : Option Sort → Option Sort → Bool
are_comparable a b =
    if fits_integer a && fits_integer b then true else fits_text a && fits_text b

-- the type where the test is passed, else none
abbrev pub provided : Bool → Sort → Option Sort
provided true sort = Some sort
provided false sort = None

-- the type of a column of a kind
abbrev pub sort_of_kind : Kind → Sort
sort_of_kind kinds.Int = OfIntegers
sort_of_kind (kinds.Text most) = OfTexts

-- the type of the column at a place, none past the last one
abbrev pub column_sort : List AnyColumn → ℕ → Option Sort
column_sort [] place = None
column_sort (column ∷ columns) zero = Some (sort_of_kind column.kind)
column_sort (column ∷ columns) (suc place) = column_sort columns place

abbrev mutual
  -- the type of a tree over a table's columns, none where it isn't well typed; names have none
  pub sort_of : Tree → List AnyColumn → Option Sort
  sort_of (Or ts) columns = provided (list_all fits_truth (sorts_of ts columns)) OfTruths
  sort_of (And ts) columns = provided (list_all fits_truth (sorts_of ts columns)) OfTruths
  sort_of (Not t) columns = provided (fits_truth (sort_of t columns)) OfTruths
  sort_of (Compare a sign b) columns =
      provided (are_comparable (sort_of a columns) (sort_of b columns)) OfTruths
  sort_of (IsNull t) columns = provided (fits_value (sort_of t columns)) OfTruths
  sort_of (IsNotNull t) columns = provided (fits_value (sort_of t columns)) OfTruths
  sort_of (Sum t ps) columns =
      provided (list_all fits_integer (sort_of t columns ∷ part_sorts ps columns)) OfIntegers
  sort_of (Product t ps) columns =
      provided (list_all fits_integer (sort_of t columns ∷ part_sorts ps columns)) OfIntegers
  sort_of (Minus t) columns = provided (fits_integer (sort_of t columns)) OfIntegers
  sort_of (Integer n) columns = Some OfIntegers
  sort_of (Text text) columns = Some OfTexts
  sort_of Null columns = Some OfNull
  sort_of (Name name) columns = None
  sort_of (Column place) columns = column_sort columns place

  -- the type of each of several trees
  pub sorts_of : Trees → List AnyColumn → List (Option Sort)
  sorts_of end columns = []
  sorts_of (also t ts) columns = sort_of t columns ∷ sorts_of ts columns

  -- the type of each further part
  pub part_sorts : Parts → List AnyColumn → List (Option Sort)
  part_sorts done columns = []
  part_sorts (part inverse t ps) columns = sort_of t columns ∷ part_sorts ps columns

abbrev mutual
  -- a tree is bound: it names nothing, and each column in it is one of the first count
  pub IsBoundTree : Tree → ℕ → Type 0
  IsBoundTree (Or ts) count = AreBound ts count
  IsBoundTree (And ts) count = AreBound ts count
  IsBoundTree (Not t) count = IsBoundTree t count
  IsBoundTree (Compare a sign b) count = IsBoundTree a count × IsBoundTree b count
  IsBoundTree (IsNull t) count = IsBoundTree t count
  IsBoundTree (IsNotNull t) count = IsBoundTree t count
  IsBoundTree (Sum t ps) count = IsBoundTree t count × ArePartsBound ps count
  IsBoundTree (Product t ps) count = IsBoundTree t count × ArePartsBound ps count
  IsBoundTree (Minus t) count = IsBoundTree t count
  IsBoundTree (Integer n) count = Unit {0}
  IsBoundTree (Text text) count = Unit {0}
  IsBoundTree Null count = Unit {0}
  IsBoundTree (Name name) count = ⊥
  IsBoundTree (Column place) count = place < count

  -- each of several trees is bound
  pub AreBound : Trees → ℕ → Type 0
  AreBound end count = Unit {0}
  AreBound (also t ts) count = IsBoundTree t count × AreBound ts count

  -- each further part is bound
  pub ArePartsBound : Parts → ℕ → Type 0
  ArePartsBound done count = Unit {0}
  ArePartsBound (part inverse t ps) count = IsBoundTree t count × ArePartsBound ps count

-- the type of an expression over a table's columns, none where it isn't well typed
abbrev pub sort_of_expr : Expr → List AnyColumn → Option Sort
sort_of_expr e columns = sort_of (tree_of e) columns

-- a value is of a type: NULL is of each but that of truths
abbrev pub FitsSort : Sort → Value → Type 0
FitsSort OfIntegers values.Null = Unit {0}
FitsSort OfIntegers (values.Int n) = Unit {0}
FitsSort OfIntegers (values.Text text) = ⊥
FitsSort OfTexts values.Null = Unit {0}
FitsSort OfTexts (values.Int n) = ⊥
FitsSort OfTexts (values.Text text) = Unit {0}
FitsSort OfNull values.Null = Unit {0}
FitsSort OfNull (values.Int n) = ⊥
FitsSort OfNull (values.Text text) = ⊥
FitsSort OfTruths value = ⊥

-- what is said is of a type: a value of it, a truth, or a fault
abbrev pub IsOfSort : Says → Sort → Type 0
IsOfSort (Gives value) sort = FitsSort sort value
IsOfSort (Holds truth) OfIntegers = ⊥
IsOfSort (Holds truth) OfTexts = ⊥
IsOfSort (Holds truth) OfNull = ⊥
IsOfSort (Holds truth) OfTruths = Unit {0}
IsOfSort Faults sort = Unit {0}

-- what a well typed tree says of a row that fits the columns is of its type
abbrev pub TypesHold : Type 0
TypesHold =
    (t : Tree) (columns : List AnyColumn) (row : List Value) (sort : Sort)
    → sort_of t columns ≡ Some sort → RowFits columns row → IsOfSort (says t row) sort
