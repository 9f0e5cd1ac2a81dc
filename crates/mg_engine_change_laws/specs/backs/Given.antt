-- What a transaction's undo list gives, as the keys that it takes back.
use Rattle.std.specs.Prelude.{◌≡◌, ◌∷◌, ◌++◌, [], ℕ, List, map}
use Rattle.mg_base.specs.declared.transaction.TxState.{TxState}
use Rattle.mg_base.specs.declared.transaction.TxState.TheVariants.{Active}
use Rattle.mg_engine_step_laws.specs.standing.Standing.{FindsTables, Remembers, Standing}
use Rattle.mg_engine_change_laws.specs.keys.Keys.{IsOfTable}
use Rattle.mg_engine_change_laws.specs.backs.Memory.{LeavesCatalog, MayGoTo}
use Rattle.mg_engine_change_laws.specs.backs.ToTake.{AreKeysOf, EachChange, since_point}
use Rattle.mg_image.specs.Form.{Pages, packed_form}
use Rattle.mg_image.specs.Records.{Reading}
use Rattle.mg_image.specs.Sound.{IsSoundBy}
use Rattle.mg_image.specs.Tables.{Layout}
use Rattle.mg_model.specs.History.{Entries, Entry, TakesBack, effect_of}
use Rattle.mg_model.specs.Machine.{deeds_by, own, steps}
use Rattle.mg_model.specs.declared.change.Change.{Change}
use Rattle.mg_model.specs.declared.change.Point.{Point}
use Rattle.mg_model.specs.declared.opening.Opening.{Opening}
use Rattle.mg_undo.specs.Machine.{first_of, given_from, going_to}
use Rattle.mg_undo.specs.Undo.{State as Undo, TakesBack as GivesAll}
use Rattle.mg_undo.specs.declared.changes.Change.{Change as Kept}

-- What is given are the first changes of the keys that were changed since the point, each with what was; each is of a
-- table that is not the catalog; and they are the keys of all those changes.
pub record AreGiven (o : Opening) (h : Entries) (e : Entry) (t : ℕ) (number : List ℕ → ℕ) (since : List Change)
    (given : List Kept) : Type 0 where
  pub given_is : given ≡ map (given_from number (own o (e ∷ h) t)) (first_of since)
  pub each : EachChange (IsOfTable o h t) (first_of since)
  pub keys : AreKeysOf (first_of since ++ []) since

-- the undo list of an active transaction gives them all, where no change since the point is of the catalog
abbrev pub UndoListsGiveKeys : Type 0
UndoListsGiveKeys = (size : ℕ) (state : ℕ → TxState) (pages : Pages) (layout : Layout) (reading : Reading)
    → IsSoundBy packed_form size state pages layout reading → (o : Opening) (h : Entries) (e : Entry)
    (point : Point) (t : ℕ) (s : Standing) (given : List Kept) (end : Undo) → Remembers o h s
    → s.state t ≡ Active → FindsTables o h s layout t → effect_of e ≡ TakesBack t point
    → MayGoTo point (deeds_by t (steps o h)) → LeavesCatalog point (deeds_by t (steps o h))
    → GivesAll (going_to (s.undo t) point) given end
    → AreGiven o h e t (s.number t) (since_point point (deeds_by t (steps o h))) given
