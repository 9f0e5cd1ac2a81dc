-- Trees of expressions with columns in place of names.
use Rattle.std.specs.Prelude.{ℕ, ◌&&◌, Bool, true, List, Option, Some, None}
use Rattle.mg_value.specs.declared.shape.Column.{Column as AnyColumn}
use Rattle.mg_expr.specs.declared.expr.Expr.{Expr}
use Rattle.mg_expr.specs.declared.expr.Part.{Part}
use Rattle.mg_expr.specs.Trees.{Tree, Trees, Parts, tree_of}
use Rattle.mg_expr.specs.Trees.{Or, And, Not, Compare, IsNull, IsNotNull, Sum, Product, Minus, Integer, Text, Null, Name, Column, end, also, done, part}
use Rattle.mg_plan.specs.Names.{place_of, is_column}

abbrev mutual
  -- each name in a tree is one of a column
  pub is_known : Tree → List AnyColumn → Bool
  is_known (Or ts) columns = are_known ts columns
  is_known (And ts) columns = are_known ts columns
  is_known (Not t) columns = is_known t columns
  is_known (Compare a sign b) columns = is_known a columns && is_known b columns
  is_known (IsNull t) columns = is_known t columns
  is_known (IsNotNull t) columns = is_known t columns
  is_known (Sum t ps) columns = is_known t columns && are_parts_known ps columns
  is_known (Product t ps) columns = is_known t columns && are_parts_known ps columns
  is_known (Minus t) columns = is_known t columns
  is_known (Integer n) columns = true
  is_known (Text text) columns = true
  is_known Null columns = true
  is_known (Name name) columns = is_column columns name
  is_known (Column place) columns = true

  pub are_known : Trees → List AnyColumn → Bool
  are_known end columns = true
  are_known (also t ts) columns = is_known t columns && are_known ts columns

  pub are_parts_known : Parts → List AnyColumn → Bool
  are_parts_known done columns = true
  are_parts_known (part inverse t ps) columns = is_known t columns && are_parts_known ps columns

-- a column for a name; a name that is none of a column's stays
abbrev pub column_or_name : Option ℕ → List ℕ → Tree
column_or_name None name = Name name
column_or_name (Some place) name = Column place

abbrev mutual
  -- a tree with columns in place of the names
  pub bound : Tree → List AnyColumn → Tree
  bound (Or ts) columns = Or (each_bound ts columns)
  bound (And ts) columns = And (each_bound ts columns)
  bound (Not t) columns = Not (bound t columns)
  bound (Compare a sign b) columns = Compare (bound a columns) sign (bound b columns)
  bound (IsNull t) columns = IsNull (bound t columns)
  bound (IsNotNull t) columns = IsNotNull (bound t columns)
  bound (Sum t ps) columns = Sum (bound t columns) (parts_bound ps columns)
  bound (Product t ps) columns = Product (bound t columns) (parts_bound ps columns)
  bound (Minus t) columns = Minus (bound t columns)
  bound (Integer n) columns = Integer n
  bound (Text text) columns = Text text
  bound Null columns = Null
  bound (Name name) columns = column_or_name (place_of columns name) name
  bound (Column place) columns = Column place

  pub each_bound : Trees → List AnyColumn → Trees
  each_bound end columns = end
  each_bound (also t ts) columns = also (bound t columns) (each_bound ts columns)

  pub parts_bound : Parts → List AnyColumn → Parts
  parts_bound done columns = done
  parts_bound (part inverse t ps) columns = part inverse (bound t columns) (parts_bound ps columns)

-- the same of an expression, of a further part, and of a filter
abbrev pub knows : List AnyColumn → Expr → Bool
knows columns e = is_known (tree_of e) columns

abbrev pub bound_expr : List AnyColumn → Expr → Tree
bound_expr columns e = bound (tree_of e) columns

abbrev pub knows_part : List AnyColumn → Part → Bool
knows_part columns p = knows columns p.value

abbrev pub bound_part : List AnyColumn → Part → Bool × Tree
bound_part columns p = (p.inverse, bound_expr columns p.value)

abbrev pub is_filter_known : List AnyColumn → Option Tree → Bool
is_filter_known columns None = true
is_filter_known columns (Some t) = is_known t columns

abbrev pub bound_filter : List AnyColumn → Option Tree → Option Tree
bound_filter columns None = None
bound_filter columns (Some t) = Some (bound t columns)
