-- The shape of a new table.
use Rattle.std.specs.Prelude.{ℕ, ◌+◌, ◌||◌, List, [], ◌∷◌, map, if◌then◌else◌}
use Rattle.mg_value.specs.declared.shape.Column.{Column}
use Rattle.mg_value.specs.declared.shape.Shape.{Shape}
use Rattle.mg_sortkey.specs.KeyBytes.{most_key_bytes}
use Rattle.mg_statements.specs.declared.statement.Def.{Def}

-- the column that is defined so; that of the primary key is never NULL
abbrev pub column_of : Def → Column
column_of d = record {
  name = d.name;
  kind = d.kind;
  not_null = d.not_null || d.key;
  since = 1;
}

-- the place of the primary key's column, counted from a place; 0 where there is none
abbrev pub key_from : ℕ → List Def → ℕ
key_from place [] = 0
key_from place (d ∷ defs) = if d.key then place else key_from (place + 1) defs

-- the shape of a table with these columns
abbrev pub shape_of : List Def → Shape
shape_of defs = record { columns = map column_of defs; key = key_from 0 defs }

-- how many bytes a key of the primary key's column has at most, 0 where there is none
abbrev pub key_len : List Def → ℕ
key_len [] = 0
key_len (d ∷ defs) = if d.key then most_key_bytes d.kind else key_len defs
