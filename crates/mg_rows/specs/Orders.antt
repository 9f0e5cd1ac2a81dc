-- The orders of rows.
use Rattle.std.specs.Prelude.{◌≡◌, ℕ, Bool, true, false, List, [], ◌∷◌, slice_index_or}
use Rattle.std.specs.List.Sorted.{IsPermutation, IsSorted}
use Rattle.std.specs.Ordering.{ordering_then, ordering_reverse}
use Rattle.std.specs.declared.cmp.Ordering.{Ordering}
use Rattle.std.specs.declared.cmp.Ordering.TheVariants.{Less}
use Rattle.mg_value.specs.declared.value.Value.{Value}
use Rattle.mg_value.specs.declared.value.Value.TheVariants.{Null}
use Rattle.mg_value.specs.Values.{value_cmp}
use Rattle.mg_model.specs.Changes.{Cells}
use Rattle.mg_rows.specs.declared.ordering.OrderBy.{OrderBy}

-- the value in the column at a place of a row, NULL past its end
abbrev pub value_at : ℕ → Cells → Value
value_at place row = slice_index_or row place Null

-- by the primary key, whose column is at a place
abbrev pub key_cmp : ℕ → Cells → Cells → Ordering
key_cmp key a b = value_cmp (value_at key a) (value_at key b)

-- rows by the keys under which they stand
abbrev pub keyed_cmp : Value × Cells → Value × Cells → Ordering
keyed_cmp a b = value_cmp a.0 b.0

-- an order, the other way round where it descends
abbrev pub directed : Bool → Ordering → Ordering
directed false order = order
directed true order = ordering_reverse order

-- by a column, NULL least, and where rows tie there by the primary key, which ascends
abbrev pub column_cmp : OrderBy → ℕ → Cells → Cells → Ordering
column_cmp by key a b =
    ordering_then
    (directed by.descending (value_cmp (value_at by.place a) (value_at by.place b)))
    (key_cmp key a b)

-- the same rows in an order: none comes before a lesser one
pub record AreSorted {A : Type 0} (cmp : A → A → Ordering) (rows sorted : List A) : Type 0 where
  pub same : IsPermutation rows sorted
  pub ascend : IsSorted cmp sorted

-- each of these rows comes behind a row
abbrev pub ComesBefore : (Cells → Cells → Ordering) → Cells → List Cells → Type 0
ComesBefore cmp row [] = Unit {0}
ComesBefore cmp row (other ∷ others) = (cmp row other ≡ Less) × ComesBefore cmp row others

-- rows ascend: each comes before those behind it, and no two tie
abbrev pub Ascend : (Cells → Cells → Ordering) → List Cells → Type 0
Ascend cmp [] = Unit {0}
Ascend cmp (row ∷ rows) = ComesBefore cmp row rows × Ascend cmp rows
