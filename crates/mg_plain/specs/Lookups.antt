-- The newest change of a key.
use Rattle.std.specs.Prelude.{ℕ, List, [], ◌∷◌, Option, Some, None, if◌then◌else◌}
use Rattle.mg_value.specs.declared.value.Value.{Value}
use Rattle.mg_model.specs.declared.change.Change.{Change}
use Rattle.mg_model.specs.declared.change.Deed.{Deed}
use Rattle.mg_model.specs.declared.change.Deed.TheVariants.{Changed, Marked, Saved}
use Rattle.mg_model.specs.Changes.{Cells, is_at}

-- the newest change of a key of a table
abbrev pub change_at : List Change → List ℕ → Value → Option Change
change_at [] table key = None
change_at (c ∷ cs) table key = if is_at c table key then Some c else change_at cs table key

-- the row that a change gives
abbrev pub row_of : Option Change → Option Cells
row_of None = None
row_of (Some c) = c.row

-- the change that a deed made
abbrev pub change_in : Deed → Option Change
change_in (Changed c) = Some c
change_in Marked = None
change_in (Saved name) = None
