-- A statement without addresses in memory: names are their bytes, expressions their trees.
use Rattle.std.specs.Prelude.{ℕ, Bool, List, map, Option, Some, None}
use Rattle.std.specs.declared.alloc.Global.{Global}
use Rattle.std.specs.declared.vec.Vec.{Vec}
use Rattle.mg_expr.specs.declared.expr.Expr.{Expr}
use Rattle.mg_expr.specs.Trees.{Tree, tree_of}
use Rattle.mg_statements.specs.declared.statement.Statement.{Statement}
use Rattle.mg_statements.specs.declared.statement.Statement.TheVariants as variants
use Rattle.mg_statements.specs.declared.statement.Agg.{Agg}
use Rattle.mg_statements.specs.declared.statement.Agg.TheVariants as aggs
use Rattle.mg_statements.specs.declared.statement.Assign.{Assign}
use Rattle.mg_statements.specs.declared.statement.Def.{Def}
use Rattle.mg_statements.specs.declared.statement.Sorted.{Sorted}

-- what a total counts or adds up
pub data Total : Type 0 where
  Count : Total
  SumOf : Tree → Total

pub data Plain : Type 0 where
  SetTransaction : (read_only wait snapshot : Bool) → Plain
  Commit : Plain
  Rollback : Plain
  RollbackTo : (name : List ℕ) → Plain
  Savepoint : (name : List ℕ) → Plain
  Table : (name : List ℕ) → (columns : List Def) → Plain
  Insert : (table : List ℕ) → (columns : Option (List (List ℕ))) → (values : List Tree) → Plain
  Update : (table : List ℕ) → (sets : List (List ℕ × Tree)) → (filter : Option Tree) → Plain
  Delete : (table : List ℕ) → (filter : Option Tree) → Plain
  Totals : (table : List ℕ) → (aggs : List Total) → (filter : Option Tree) → Plain
  Select : (table : List ℕ) → (values : Option (List Tree)) → (filter : Option Tree)
      → (sorted : Option Sorted) → Plain

abbrev pub tree_in : Option Expr → Option Tree
tree_in None = None
tree_in (Some e) = Some (tree_of e)

abbrev pub trees_in : Option (Vec Expr Global) → Option (List Tree)
trees_in None = None
trees_in (Some es) = Some (map tree_of es.items)

abbrev pub names_in : Option (Vec (List ℕ) Global) → Option (List (List ℕ))
names_in None = None
names_in (Some names) = Some names.items

abbrev pub assign_of : Assign → List ℕ × Tree
assign_of set = (set.column, tree_of set.value)

abbrev pub total_of : Agg → Total
total_of aggs.Count = Count
total_of (aggs.Sum e) = SumOf (tree_of e)

-- the statement without its addresses
abbrev pub plain_of : Statement → Plain
plain_of (variants.SetTransaction read_only wait snapshot) = SetTransaction read_only wait snapshot
plain_of variants.Commit = Commit
plain_of variants.Rollback = Rollback
plain_of (variants.RollbackTo name) = RollbackTo name
plain_of (variants.Savepoint name) = Savepoint name
plain_of (variants.Table name columns) = Table name columns.items
plain_of (variants.Insert table columns values) =
    Insert table (names_in columns) (map tree_of values.items)
plain_of (variants.Update table sets filter) =
    Update table (map assign_of sets.items) (tree_in filter)
plain_of (variants.Delete table filter) = Delete table (tree_in filter)
plain_of (variants.Totals table totals filter) =
    Totals table (map total_of totals.items) (tree_in filter)
plain_of (variants.Select table values filter sorted) =
    Select table (trees_in values) (tree_in filter) sorted
