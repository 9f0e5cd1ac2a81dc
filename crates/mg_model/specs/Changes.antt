-- A database as a list of changes, the newest first, of which the first one at a key holds.
use Rattle.std.specs.Prelude.{◌≡◌, ℕ, Bool, true, false, ◌&&◌, nat_eq, List, [], ◌∷◌, Option, Some, None, if◌then◌else◌}
use Rattle.std.specs.Cmp.Lexicographic.{pointwise}
use Rattle.std.specs.Ordering.{is_eq}
use Rattle.std.specs.declared.cmp.Ordering.{Ordering}
use Rattle.std.specs.declared.cmp.Ordering.TheVariants.{Less, Equal, Greater}
use Rattle.mg_value.specs.declared.value.Value.{Value}
use Rattle.mg_value.specs.Values.{value_cmp}
use Rattle.mg_model.specs.declared.change.Change.{Change}

-- the values of a row, one for each column
abbrev pub Cells : Type 0
Cells = List Value

-- Two rows are the same, or neither is there. It is the one word for it, so that a row that was
-- stored under fewer columns can come to be the same as one with NULLs behind.
abbrev pub same_row : Option Cells → Option Cells → Type 0
same_row a b = a ≡ b

-- two names are the same
abbrev pub same_name : List ℕ → List ℕ → Bool
same_name a b = pointwise nat_eq a b

-- two keys are the same
abbrev pub same_key : Value → Value → Bool
same_key a b = is_eq (value_cmp a b)

-- a change is of this key of this table
abbrev pub is_at : Change → List ℕ → Value → Bool
is_at c table key = same_name c.table table && same_key c.key key

-- some change is of this key of this table
abbrev pub has_change : List Change → List ℕ → Value → Bool
has_change [] table key = false
has_change (c ∷ cs) table key = if is_at c table key then true else has_change cs table key

-- the row that a database has at a key of a table: the newest change of that key decides
abbrev pub row_at : List Change → List ℕ → Value → Option Cells
row_at [] table key = None
row_at (c ∷ cs) table key = if is_at c table key then c.row else row_at cs table key

-- rows with their keys, in ascending key order
abbrev pub KeyedRows : Type 0
KeyedRows = List (Value × Cells)

-- the rows with one more row at the front, if there is one
abbrev pub with_row : Value → Option Cells → KeyedRows → KeyedRows
with_row key None rows = rows
with_row key (Some row) rows = (key, row) ∷ rows

-- one of three, by how two things are ordered
abbrev pub by_order : {A : Type 0} → Ordering → A → A → A → A
by_order Less less equal greater = less
by_order Equal less equal greater = equal
by_order Greater less equal greater = greater

-- the rows after a change at a key: it has that row now, or none
abbrev pub put_row : Value → Option Cells → KeyedRows → KeyedRows
put_row key row [] = with_row key row []
put_row key row (r ∷ rows) =
    by_order (value_cmp key r.0)
    (with_row key row (r ∷ rows)) (with_row key row rows) (r ∷ put_row key row rows)

-- the rows of a table, in ascending key order, after changes of them
abbrev pub rows_over : List Change → List ℕ → KeyedRows → KeyedRows
rows_over [] table rows = rows
rows_over (c ∷ cs) table rows =
    if same_name c.table table then put_row c.key c.row (rows_over cs table rows)
    else rows_over cs table rows

-- the rows of a table, in ascending key order
abbrev pub rows_of : List Change → List ℕ → KeyedRows
rows_of changes table = rows_over changes table []
