-- The index of a plan is one of the table's.
use Rattle.std.proofs.Common.{◌≡◌, ℕ, ◌+◌, ◌<◌, Bool, true, false, List, [], ◌∷◌, length, Option, Some, None, refl, ap, arith}
use Rattle.std.specs.Prelude.{◌==◌, if◌then◌else◌}
use Rattle.mg_expr.specs.Trees.{Tree}
use Rattle.mg_model.specs.declared.table.Index.{Index as AnyIndex}
use Rattle.mg_model.specs.declared.table.Table.{Table}
use Rattle.mg_paths.specs.declared.parts.Serving.{Serving}
use Rattle.mg_paths.specs.Plans.{first_index, parts_in, plan_by, plan_from, plan_if, plan_of, serving_in}
use Rattle.mg_paths.specs.Within.{HasIndexOf}

abbrev pub PlannedIndexesAreThere : Type 0
PlannedIndexesAreThere = (table : Table) (test : Option Tree) → HasIndexOf table (plan_of table.indexes test)

index_within : (at : ℕ) (indexes : List AnyIndex) (column place : ℕ) → first_index at indexes column ≡ Some place
    → place < at + length indexes
index_within at [] column place is = absurd cc
index_within at (index ∷ later) column place is =
    by (index.column == column) is (index_within (at + 1) later column place)
  where
    by : (same : Bool) → (if same then Some at else first_index (at + 1) later column) ≡ Some place
        → (first_index (at + 1) later column ≡ Some place → place < at + 1 + length later)
        → place < at + length (index ∷ later)
    by true is rest = let here : at ≡ place = cc in omega (arith, here)
    by false is rest = let behind = rest is in omega (arith, behind)

has_first : (table : Table) (column : ℕ) (ts : List Tree) (found : Option ℕ) → first_index 0 table.indexes column ≡ found
    → HasIndexOf table (plan_if found column ts)
has_first table column ts None is = tt
has_first table column ts (Some place) is = let within = index_within 0 table.indexes column place is in omega (arith, within)

has_part : (table : Table) (ts : List Tree) (part : Option Serving) → HasIndexOf table (plan_from part table.indexes ts)
has_part table ts None = tt
has_part table ts (Some part) = has_first table part.column ts (first_index 0 table.indexes part.column) refl

has_by : (table : Table) (ts : List Tree) → HasIndexOf table (plan_by table.indexes ts)
has_by table [] = tt
has_by table (t ∷ ts) = has_part table (t ∷ ts) (serving_in t)

pub planned_indexes_are_there : PlannedIndexesAreThere
planned_indexes_are_there table None = tt
planned_indexes_are_there table (Some t) = has_by table (parts_in t)
