-- The plan of a bound statement.
use Rattle.std.proofs.Common.{◌≡◌, Option, refl, sym, ap, subst, ◌∙◌}
use Rattle.mg_expr.specs.declared.expr.Expr.{Expr}
use Rattle.mg_model.specs.declared.table.Table.{Table}
use Rattle.mg_paths.specs.declared.paths.Path.{Path}
use Rattle.mg_paths.specs.PlannedLaws.{PlannedIndexesAreThere}
use Rattle.mg_paths.specs.Plans.{plan_of}
use Rattle.mg_paths.specs.Within.{HasIndexOf}
use Rattle.mg_plan.specs.declared.bound.Bound.{Bound}
use Rattle.mg_plan.specs.Plans.{filter_in, path_of}
use Rattle.mg_statements.specs.Plain.{tree_in}

pub planned : (table : Table) (bound : Bound) (filter : Option Expr) (path : Path) → filter ≡ filter_in bound.statement
    → path ≡ plan_of table.indexes (tree_in filter) → path ≡ path_of table bound
planned table bound filter path same is = is ∙ ap (λ (f : Option Expr). plan_of table.indexes (tree_in f)) same

pub has_index : PlannedIndexesAreThere → (table : Table) (filter : Option Expr) (path : Path)
    → path ≡ plan_of table.indexes (tree_in filter) → HasIndexOf table path
has_index there table filter path is = subst (HasIndexOf table) (sym is) (there table (tree_in filter))
