-- The plan of a bound statement.
use Rattle.std.specs.Prelude.{Option, None}
use Rattle.mg_expr.specs.declared.expr.Expr.{Expr}
use Rattle.mg_model.specs.declared.table.Table.{Table}
use Rattle.mg_paths.specs.declared.paths.Path.{Path}
use Rattle.mg_paths.specs.Plans.{plan_of}
use Rattle.mg_plan.specs.declared.bound.Bound.{Bound}
use Rattle.mg_statements.specs.declared.statement.Statement.{Statement}
use Rattle.mg_statements.specs.declared.statement.Statement.TheVariants as statements
use Rattle.mg_statements.specs.Plain.{tree_in}

-- the filter of a statement, none where it has none
abbrev pub filter_in : Statement → Option Expr
filter_in (statements.Update table sets filter) = filter
filter_in (statements.Delete table filter) = filter
filter_in (statements.Totals table aggs filter) = filter
filter_in (statements.Select table values filter sorted) = filter
filter_in s = None

-- the path by which a bound statement comes to the rows of its table: the plan of its filter
abbrev pub path_of : Table → Bound → Path
path_of table bound = plan_of table.indexes (tree_in (filter_in bound.statement))
