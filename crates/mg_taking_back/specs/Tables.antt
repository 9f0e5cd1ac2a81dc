-- Whether a transaction that is taken back takes back changes of the catalog.
use Rattle.std.specs.Prelude.{ℕ, Bool}
use Rattle.mg_core.specs.declared.parts.Core.{Core}
use Rattle.mg_model.specs.declared.change.Point.{Point}
use Rattle.mg_taking_back.specs.Taking.{IsUndoOf, MayReach}
use Rattle.mg_undo.specs.Machine.{going_to}
use Rattle.mg_undo.specs.Undo.{State as Undo, TellsTable}

-- whether one of those that a transaction takes back to a point is of the catalog
abbrev pub TellsTables : {D : Type 0} → Core D → ℕ → Point → Bool → Type 0
TellsTables core t point some = (undo : Undo) → IsUndoOf core.works t undo → MayReach undo point
    → TellsTable core.catalog.pointer.0 (going_to undo point) some
