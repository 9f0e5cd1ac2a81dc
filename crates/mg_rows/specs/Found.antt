-- Which rows of a table a statement finds.
use Rattle.std.specs.Prelude.{◌≡◌, Bool, true, false, List, [], ◌∷◌, ◌++◌, map, Option, Some, None, Result, Ok, Err}
use Rattle.mg_expr.specs.declared.fault.EvalFault.{EvalFault}
use Rattle.mg_expr.specs.declared.fault.EvalFault.TheVariants as faults
use Rattle.mg_expr.specs.Trees.{Tree}
use Rattle.mg_expr.specs.Filters.{passes}
use Rattle.mg_model.specs.Changes.{Cells, KeyedRows}

-- whether a row passes a filter, none where a part of it that is evaluated faults; each row passes
-- where there is no filter
abbrev pub passes_filter : Option Tree → Cells → Option Bool
passes_filter None row = Some true
passes_filter (Some t) row = passes t row

-- one in front of those found behind it, where it passes; none where one of them faults
abbrev pub joined : {A : Type 0} → Option Bool → A → Option (List A) → Option (List A)
joined None row rows = None
joined (Some false) row rows = rows
joined (Some true) row None = None
joined (Some true) row (Some rows) = Some (row ∷ rows)

-- those that pass a test, in their order; none where the test faults on one of them
abbrev pub found_by : {A : Type 0} → (A → Option Bool) → List A → Option (List A)
found_by passes [] = Some []
found_by passes (row ∷ rows) = joined (passes row) row (found_by passes rows)

-- the rows that pass a filter; those with their keys
abbrev pub found : Option Tree → List Cells → Option (List Cells)
found filter rows = found_by (passes_filter filter) rows

abbrev pub found_keyed : Option Tree → KeyedRows → Option KeyedRows
found_keyed filter rows = found_by (λ r. passes_filter filter r.1) rows

-- found rows without their keys
abbrev pub without_keys : Option KeyedRows → Option (List Cells)
without_keys None = None
without_keys (Some rows) = Some (map (λ r. r.1) rows)

-- one that is visited is kept behind those that were, where it passes; a fault keeps what was
abbrev pub Keeps : {A : Type 0} → Option Bool → A → List A → List A → Result (Unit {0}) EvalFault → Type 0
Keeps None row old new (Ok x) = ⊥
Keeps (Some false) row old new (Ok x) = new ≡ old
Keeps (Some true) row old new (Ok x) = new ≡ old ++ row ∷ []
Keeps passed row old new (Err faults.Arithmetic) = (passed ≡ None) × (new ≡ old)
Keeps passed row old new (Err faults.Memory) = new ≡ old
