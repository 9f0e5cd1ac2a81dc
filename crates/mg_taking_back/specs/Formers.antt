-- What a transaction's own change of a key was, as it may come back.
use Rattle.std.specs.Prelude.{◌≡◌}
use Rattle.mg_model.specs.Catalog.{key_of}
use Rattle.mg_undo.specs.declared.changes.Was.{Was}
use Rattle.mg_undo.specs.declared.changes.Was.TheVariants as wases
use Rattle.mg_value.specs.declared.shape.Shape.{Shape}
use Rattle.mg_value.specs.declared.value.Value.{Value}

-- a row that comes back has the key
abbrev pub MayComeBack : Shape → Value → Was → Type 0
MayComeBack shape key wases.Untouched = Unit {0}
MayComeBack shape key wases.Deleted = Unit {0}
MayComeBack shape key (wases.Row row) = key_of shape row ≡ key
