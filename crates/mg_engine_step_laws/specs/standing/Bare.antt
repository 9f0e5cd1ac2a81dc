-- Tables without indexes. CREATE TABLE makes no root yet, so all tables are such.
use Rattle.std.specs.Prelude.{◌≡◌, List, [], ◌∷◌, map}
use Rattle.mg_image.specs.Tables.{Layout}
use Rattle.mg_model.specs.declared.table.Table.{Table}

-- none of these tables has an index
abbrev pub AreBare : List Table → Type 0
AreBare [] = Unit {0}
AreBare (table ∷ tables) = (table.indexes ≡ []) × AreBare tables

-- none of a layout has, beside the catalog, which never has one
abbrev pub IsBare : Layout → Type 0
IsBare layout = AreBare (map (λ stand. stand.table) layout.tables)
