-- What a transaction's own change of a key was, as it may come back to a table.
use Rattle.std.specs.Prelude.{◌≡◌, Option, None, Some, slice_get}
use Rattle.mg_model.specs.declared.table.Table.{Table}
use Rattle.mg_model.specs.Catalog.{key_of}
use Rattle.mg_undo.specs.declared.changes.Was.{Was}
use Rattle.mg_undo.specs.declared.changes.Was.TheVariants as wases
use Rattle.mg_value.specs.Rows.{FitsKind, RowFits}
use Rattle.mg_value.specs.declared.shape.Column.{Column}
use Rattle.mg_value.specs.declared.shape.Shape.{Shape}
use Rattle.mg_value.specs.declared.value.Value.{Value}

-- a value is of the kind of a column, if there is one
abbrev pub IsOfKind : Option Column → Value → Type 0
IsOfKind None value = Unit {0}
IsOfKind (Some column) value = FitsKind column.kind value

-- a row that comes back has the key and fits the columns, a deletion's key is of the kind of its column
abbrev pub MayReturn : Shape → Value → Was → Type 0
MayReturn shape key wases.Untouched = Unit {0}
MayReturn shape key wases.Deleted = IsOfKind (slice_get shape.columns shape.key) key
MayReturn shape key (wases.Row row) = (key_of shape row ≡ key) × RowFits shape.columns row

-- to a table that is kept
abbrev pub MayReturnTo : Option Table → Value → Was → Type 0
MayReturnTo None key was = ⊥
MayReturnTo (Some table) key was = MayReturn table.shape key was
