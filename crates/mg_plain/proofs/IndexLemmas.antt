-- What a step of a walk by an index comes to in the plain machine.
use Rattle.std.proofs.Common.{◌≡◌, ℕ, zero, suc, ◌+◌, ◌<◌, ltb, le-ltb, lt-ltb, ltb-false, ltb-true, true, false, List, [], ◌∷◌, ◌++◌, drop, length, get_or, Option, Some, None, Ok, refl, sym, ap, subst, ◌∙◌, arith}
use Rattle.std.specs.Prelude.{slice_get}
use Rattle.std.specs.List.{filter}
use Rattle.std.proofs.lemmas.List.Elements.{filter-append, filter_passes}
use Rattle.std.proofs.lemmas.Option.{get_or_from_slice_get}
use Rattle.mg_indexed.specs.Indexing.{FindsWithin, IsWithin, NearsBy, VisitsBy, column_of, lies_within}
use Rattle.mg_value.specs.declared.value.Value.{Value}
use Rattle.mg_model.specs.declared.table.Index.{Index}
use Rattle.mg_model.specs.declared.table.Table.{Table}
use Rattle.mg_model.specs.Changes.{Cells, KeyedRows}
use Rattle.mg_paths.specs.declared.range.Range.{Range}
use Rattle.mg_paths.specs.Plans.{column_at}
use Rattle.mg_records.specs.declared.found.Found.{Found}
use Rattle.mg_records.specs.Reading.{with_found}
use Rattle.mg_plain.specs.declared.plain.Plain.{Plain}
use Rattle.mg_plain.specs.Indexed.{indexing_plain, rows_ranged}
use Rattle.mg_plain.specs.Kept.{kept}
use Rattle.mg_plain.specs.Records.{FoundAt, behind, rows_seen}
use Rattle.mg_plain.proofs.CallLemmas.{drop_none, some_found}

-- ---- columns

pub column_found : (indexes : List Index) (at : ℕ) (index : Index) → true ≡ ltb at (length indexes)
    → index ≡ get_or indexes at index → index.column ≡ column_at indexes at
column_found [] at index inside is = absurd (omega (arith, ltb-true at 0 (sym inside)))
column_found (i ∷ indexes) zero index inside is = ap (λ (x : Index). x.column) is
column_found (i ∷ indexes) (suc at) index inside is =
    let below = ltb-true (suc at) (length (i ∷ indexes)) (sym inside) in
    column_found indexes at index (sym (lt-ltb at (length indexes) (omega (arith, below)))) is

pub column_past : (indexes : List Index) (at : ℕ) → false ≡ ltb at (length indexes) → 0 ≡ column_at indexes at
column_past [] at past = refl
column_past (i ∷ indexes) zero past = absurd (omega (arith, ltb-false 0 (length (i ∷ indexes)) (sym past)))
column_past (i ∷ indexes) (suc at) past =
    let behind = ltb-false (suc at) (length (i ∷ indexes)) (sym past) in
    column_past indexes at (sym (le-ltb at (length indexes) (omega (arith, behind))))

-- ---- rows in a range

pub within_splits : (column : ℕ) (range : Range) (row : Value × Cells) (rows : KeyedRows)
    → filter (lies_within column range) (row ∷ rows)
    ≡ filter (lies_within column range) (row ∷ []) ++ filter (lies_within column range) rows
within_splits column range row rows = filter-append (lies_within column range) (row ∷ []) rows

-- ---- steps

pub lies_found : (p : Plain) (t : ℕ) (table : Table) (index : ℕ) (range : Range) (at : ℕ) (found : Option (Found ℕ))
    → FoundAt (rows_ranged (kept p) t table index range) at (Ok found) → FindsWithin table index range (Ok found)
lies_found p t table index range at None is = tt
lies_found p t table index range at (Some found) is = by found.row is.1
  where
    by : (row : Option (Value × Cells)) → row ≡ slice_get (rows_ranged (kept p) t table index range) at
        → IsWithin table index range row
    by None is = tt
    by (Some row) got =
        subst (λ (x : Value × Cells). lies_within (column_of table index) range x ≡ true)
        (get_or_from_slice_get (rows_ranged (kept p) t table index range) at row row (sym got))
        (filter_passes (lies_within (column_of table index) range) (rows_seen (kept p) t table.name) at row is.2)

pub visits_ranged : (p : Plain) (t : ℕ) (table : Table) (index : ℕ) (range : Range) (after : Option ℕ)
    (found : Option (Found ℕ)) (rows : KeyedRows)
    → FoundAt (rows_ranged (kept p) t table index range) (behind after) (Ok found)
    → rows ≡ drop (behind after) (rows_ranged (kept p) t table index range)
    → VisitsBy indexing_plain p t table index range (Ok found) rows
visits_ranged p t table index range after None rows is come =
    come ∙ drop_none (rows_ranged (kept p) t table index range) (behind after) is
visits_ranged p t table index range after (Some found) rows is come = (
  drop found.place (rows_ranged (kept p) t table index range),
  come ∙ some_found found.row (rows_ranged (kept p) t table index range) (behind after) is.1 is.2
      ∙ ap (λ (n : ℕ). with_found found.row (drop n (rows_ranged (kept p) t table index range))) (sym is.0),
  refl,
)

pub nears_ranged : (p : Plain) (t : ℕ) (table : Table) (index : ℕ) (range : Range) (after : Option ℕ)
    (found : Option (Found ℕ)) → FoundAt (rows_ranged (kept p) t table index range) (behind after) (Ok found)
    → NearsBy indexing_plain p p t table index range after (Ok found)
nears_ranged p t table index range after None is = tt
nears_ranged p t table index range after (Some found) is =
    let place : found.place ≡ behind after + 1 = is.0 in
    let below : behind after < length (rows_ranged (kept p) t table index range) = is.2 in
    omega (arith, place, below)
