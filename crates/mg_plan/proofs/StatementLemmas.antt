-- Statements once they are bound, and what is answered of them at other names of the columns.
use Rattle.std.proofs.Common.{◌≡◌, ℕ, List, map, Option, Result, Ok, Err, ap, subst, sym, ◌∙◌}
use Rattle.std.specs.Result.{IfOk}
use Rattle.std.specs.declared.alloc.Global.{Global}
use Rattle.std.specs.declared.vec.Vec.{Vec}
use Rattle.mg_base.specs.declared.memory.Memory.{Memory}
use Rattle.mg_value.specs.declared.shape.Column.{Column}
use Rattle.mg_expr.specs.declared.expr.Expr.{Expr}
use Rattle.mg_expr.specs.Trees.{Tree, tree_of}
use Rattle.mg_statements.specs.declared.statement.Agg.{Agg}
use Rattle.mg_statements.specs.declared.statement.Assign.{Assign}
use Rattle.mg_statements.specs.declared.statement.Def.{Def}
use Rattle.mg_statements.specs.declared.statement.Sorted.{Sorted}
use Rattle.mg_statements.specs.declared.statement.Statement.{Statement}
use Rattle.mg_statements.specs.declared.statement.Statement.TheVariants as statements
use Rattle.mg_statements.specs.Plain.{Plain, Table, Insert, Update, Delete, Totals, Select, plain_of, tree_in}
use Rattle.mg_statements.specs.Plain.{trees_in, names_in, assign_of, total_of}
use Rattle.mg_plan.specs.Binding.{bound_filter}
use Rattle.mg_plan.specs.Statements.{bound_plain, bound_values}
use Rattle.mg_plan.specs.declared.bound.Bound.{Bound}
use Rattle.mg_plan.specs.declared.fault.PlanFault.{PlanFault}
use Rattle.mg_plan.specs.Refusing.{Binds}

module _ (columns : List Column) where
  -- one that has no expression stays
  pub same_bound : (s other : Statement) (plain : Plain) → s ≡ other → bound_plain columns (plain_of other) ≡ plain
      → plain ≡ bound_plain columns (plain_of s)
  same_bound s other plain is stays = sym (ap (λ (x : Statement). bound_plain columns (plain_of x)) is ∙ stays)

  pub table_bound : (s : Statement) (name : List ℕ) (defs : Vec Def Global) (items made : List Def)
      → s ≡ statements.Table name defs → items ≡ defs.items → made ≡ items
      → Table name made ≡ bound_plain columns (plain_of s)
  table_bound s name defs items made is same equal =
      ap (λ (ds : List Def). Table name ds) (equal ∙ same)
      ∙ sym (ap (λ (x : Statement). bound_plain columns (plain_of x)) is)

  pub delete_bound : (s : Statement) (table : List ℕ) (filter made : Option Expr) → s ≡ statements.Delete table filter
      → tree_in made ≡ bound_filter columns (tree_in filter)
      → plain_of (statements.Delete table made) ≡ bound_plain columns (plain_of s)
  delete_bound s table filter made is equal =
      ap (λ (t : Option Tree). Delete table t) equal
      ∙ sym (ap (λ (x : Statement). bound_plain columns (plain_of x)) is)

  pub select_bound : (s : Statement) (table : List ℕ) (values made : Option (Vec Expr Global))
      (filter put : Option Expr) (sorted : Option Sorted) → s ≡ statements.Select table values filter sorted
      → trees_in made ≡ bound_values columns (trees_in values)
      → tree_in put ≡ bound_filter columns (tree_in filter)
      → plain_of (statements.Select table made put sorted) ≡ bound_plain columns (plain_of s)
  select_bound s table values made filter put sorted is equal alike =
      ap (λ (ts : Option (List Tree)). Select table ts (tree_in put) sorted) equal
      ∙ ap (λ (t : Option Tree). Select table (bound_values columns (trees_in values)) t sorted) alike
      ∙ sym (ap (λ (x : Statement). bound_plain columns (plain_of x)) is)

  -- ---- what a call has bound

  bound_as : (result : Result Statement Memory) (plain other : Plain) → plain ≡ other
      → IfOk result (λ b. plain_of b ≡ plain) → IfOk result (λ b. plain_of b ≡ other)
  bound_as (Ok b) plain other same is = is ∙ same
  bound_as (Err e) plain other same is = tt

  pub insert_bound : (s : Statement) (table : List ℕ) (listed : Option (Vec (List ℕ) Global)) (values : Vec Expr Global)
      (items : List Expr) (result : Result Statement Memory) → s ≡ statements.Insert table listed values
      → items ≡ values.items → IfOk result (λ b. plain_of b ≡ Insert table (names_in listed) (map tree_of items))
      → IfOk result (λ b. plain_of b ≡ bound_plain columns (plain_of s))
  insert_bound s table listed values items result is same given =
      bound_as result (Insert table (names_in listed) (map tree_of items)) (bound_plain columns (plain_of s))
      (ap (λ (es : List Expr). Insert table (names_in listed) (map tree_of es)) same
      ∙ sym (ap (λ (x : Statement). bound_plain columns (plain_of x)) is)) given

  pub update_bound : (s : Statement) (table : List ℕ) (sets : Vec Assign Global) (filter : Option Expr)
      (items : List Assign) (result : Result Statement Memory) → s ≡ statements.Update table sets filter
      → items ≡ sets.items
      → IfOk result (λ b. plain_of b ≡ bound_plain columns (Update table (map assign_of items) (tree_in filter)))
      → IfOk result (λ b. plain_of b ≡ bound_plain columns (plain_of s))
  update_bound s table sets filter items result is same given =
      bound_as result (bound_plain columns (Update table (map assign_of items) (tree_in filter)))
      (bound_plain columns (plain_of s))
      (ap (λ (xs : List Assign). bound_plain columns (Update table (map assign_of xs) (tree_in filter))) same
      ∙ sym (ap (λ (x : Statement). bound_plain columns (plain_of x)) is)) given

  pub totals_bound : (s : Statement) (table : List ℕ) (totals : Vec Agg Global) (filter : Option Expr)
      (items : List Agg) (result : Result Statement Memory) → s ≡ statements.Totals table totals filter
      → items ≡ totals.items
      → IfOk result (λ b. plain_of b ≡ bound_plain columns (Totals table (map total_of items) (tree_in filter)))
      → IfOk result (λ b. plain_of b ≡ bound_plain columns (plain_of s))
  totals_bound s table totals filter items result is same given =
      bound_as result (bound_plain columns (Totals table (map total_of items) (tree_in filter)))
      (bound_plain columns (plain_of s))
      (ap (λ (xs : List Agg). bound_plain columns (Totals table (map total_of xs) (tree_in filter))) same
      ∙ sym (ap (λ (x : Statement). bound_plain columns (plain_of x)) is)) given

-- the columns and the key that were passed are those of the table
pub binds_at : (columns others : List Column) (key other size : ℕ) (s : Plain) (result : Result Bound PlanFault)
    → columns ≡ others → key ≡ other → Binds columns key size s result → Binds others other size s result
binds_at columns others key other size s result same alike binds =
    subst (λ (cs : List Column). Binds cs other size s result) same
    (subst (λ (k : ℕ). Binds columns k size s result) alike binds)
