-- The rows of a table that lie in a range, and those to which a plan comes.
use Rattle.std.specs.Prelude.{◌≡◌, ◌<◌, ℕ, Bool, true, false, [], ◌∷◌, ◌++◌, length, get_or, IsPermutation}
use Rattle.mg_value.specs.declared.value.Value.{Value}
use Rattle.mg_value.specs.declared.value.Value.TheVariants.{Null}
use Rattle.mg_model.specs.declared.table.Table.{Table}
use Rattle.mg_model.specs.Changes.{Cells, KeyedRows}
use Rattle.mg_paths.specs.declared.paths.Path.{Path}
use Rattle.mg_paths.specs.declared.paths.Path.TheVariants as paths
use Rattle.mg_paths.specs.declared.range.Range.{Range}
use Rattle.mg_paths.specs.Plans.{column_at}
use Rattle.mg_paths.specs.Ranges.{lies_in}

-- ---- ranges

-- a row's value in a column lies in a range
abbrev pub lies_within : ℕ → Range → Value × Cells → Bool
lies_within column range row = lies_in range (get_or row.1 column Null)

-- each of some rows lies in a range by its value in a column, or none does
abbrev pub AllLie : Bool → ℕ → Range → KeyedRows → Type 0
AllLie lies column range [] = Unit {0}
AllLie lies column range (row ∷ rows) = (lies_within column range row ≡ lies) × AllLie lies column range rows

-- Of some rows these are all that lie in a range, each once: with others, of which none does, they are all, in some order.
pub record AreWithin (column : ℕ) (range : Range) (rows all : KeyedRows) : Type 0 where
  pub others : KeyedRows
  pub whole : IsPermutation (rows ++ others) all
  pub within : AllLie true column range rows
  pub outside : AllLie false column range others

-- the column of an index of a table, by its place in the table's list
abbrev pub column_of : Table → ℕ → ℕ
column_of table index = column_at table.indexes index

-- ---- paths

-- the index of a path is one of the table's
abbrev pub HasIndexOf : Table → Path → Type 0
HasIndexOf table paths.Natural = Unit {0}
HasIndexOf table (paths.Index index range) = index < length table.indexes

-- these are all the rows of a table to which a path comes, each once, in some order
abbrev pub AreRowsOn : Table → Path → KeyedRows → KeyedRows → Type 0
AreRowsOn table paths.Natural rows all = IsPermutation rows all
AreRowsOn table (paths.Index index range) rows all = AreWithin (column_of table index) range rows all
