-- The columns of a table by their names.
use Rattle.std.specs.Prelude.{ℕ, ◌+◌, ◌||◌, Bool, false, List, [], ◌∷◌, Option, Some, None, is_some, unwrap_or, if◌then◌else◌}
use Rattle.std.specs.List.{list_any}
use Rattle.mg_value.specs.declared.shape.Column.{Column}
use Rattle.mg_model.specs.Changes.{same_name}

-- the place of the first column with a name, where the columns are counted from a place
abbrev pub place_from : ℕ → List Column → List ℕ → Option ℕ
place_from place [] name = None
place_from place (column ∷ columns) name =
    if same_name column.name name then Some place else place_from (place + 1) columns name

-- the place of the column with a name
abbrev pub place_of : List Column → List ℕ → Option ℕ
place_of columns name = place_from 0 columns name

-- there is a column with this name
abbrev pub is_column : List Column → List ℕ → Bool
is_column columns name = is_some (place_of columns name)

-- the place of the column with a name, 0 where there is none
abbrev pub place_or_0 : List Column → List ℕ → ℕ
place_or_0 columns name = unwrap_or (place_of columns name) 0

-- the places of columns that follow one another
abbrev pub places_from : ℕ → List Column → List ℕ
places_from place [] = []
places_from place (column ∷ columns) = place ∷ places_from (place + 1) columns

-- a name stands among these twice
abbrev pub has_twice : List (List ℕ) → Bool
has_twice [] = false
has_twice (name ∷ names) = list_any (λ other. same_name other name) names || has_twice names
