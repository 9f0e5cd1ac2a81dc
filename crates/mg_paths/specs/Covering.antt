-- A plan changes no answer.
use Rattle.std.specs.Prelude.{◌≡◌, ℕ, false, List, get_or, Some}
use Rattle.mg_value.specs.declared.value.Value.{Value}
use Rattle.mg_value.specs.declared.value.Value.TheVariants.{Null}
use Rattle.mg_expr.specs.Trees.{Tree}
use Rattle.mg_expr.specs.Filters.{passes}
use Rattle.mg_model.specs.declared.table.Index.{Index as AnyIndex}
use Rattle.mg_paths.specs.declared.paths.Path.TheVariants as paths
use Rattle.mg_paths.specs.declared.range.Range.{Range}
use Rattle.mg_paths.specs.Plans.{column_at, plan_of}
use Rattle.mg_paths.specs.Ranges.{lies_in}

-- a row that lies outside of the range of a plan, by its value in the column of the index, is dropped by the filter
-- without a fault
abbrev pub PlansCover : Type 0
PlansCover = (indexes : List AnyIndex) (filter : Tree) (place : ℕ) (range : Range) (row : List Value)
    → plan_of indexes (Some filter) ≡ paths.Index place range
    → lies_in range (get_or row (column_at indexes place) Null) ≡ false → passes filter row ≡ Some false
