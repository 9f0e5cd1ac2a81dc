-- What is in memory where a transaction has taken back to a point.
use Rattle.std.specs.Prelude.{◌≡◌, ◌≢◌, ◌⊎◌, ℕ, true, false, List, None, Some}
use Rattle.mg_base.specs.declared.transaction.TxState.TheVariants.{Active}
use Rattle.mg_engine_change_laws.specs.backs.ToTake.{since_point}
use Rattle.mg_model.specs.Catalog.{catalog_name}
use Rattle.mg_model.specs.Changes.{has_change}
use Rattle.mg_model.specs.Effects.{has_deed}
use Rattle.mg_model.specs.History.{Entries, Entry, TakesBack, effect_of, transaction_of}
use Rattle.mg_model.specs.Machine.{deeds_by, steps, waited_on}
use Rattle.mg_model.specs.declared.change.Deed.{Deed}
use Rattle.mg_model.specs.declared.change.Point.{Point}
use Rattle.mg_model.specs.declared.change.Point.TheVariants.{LastMark}
use Rattle.mg_model.specs.declared.opening.Opening.{Opening}
use Rattle.mg_engine_step_laws.specs.standing.Following.{FollowsEntry, KeepsOne}
use Rattle.mg_engine_step_laws.specs.standing.Standing.{Remembers, Standing}
use Rattle.mg_undo.specs.Machine.{going_to}
use Rattle.mg_undo.specs.Undo.{TakesBack as GivesAll}
use Rattle.mg_undo.specs.declared.changes.Change.{Change as Kept}
use Rattle.mg_value.specs.declared.value.Value.{Value}
use Rattle.mg_waits.specs.Waits.{NowWaits}

-- A transaction is taken back to a point: what it has to take back is what the steps have left, its wait is over, and
-- all else is as it was.
pub record IsBackInMemory (t : ℕ) (point : Point) (given : List Kept) (s new : Standing) : Type 0 where
  pub limit : new.limit ≡ s.limit
  pub next : new.next ≡ s.next
  pub state : (u : ℕ) → new.state u ≡ s.state u
  pub live : new.live ≡ s.live
  pub over : NowWaits s.waits new.waits t None
  pub others : (u : ℕ) → u ≢ t → KeepsOne s new u
  pub mode : new.mode t ≡ s.mode t
  pub session : new.session t ≡ s.session t
  pub number : new.number t ≡ s.number t
  pub table : (name : List ℕ) → new.table t name ≡ s.table t name
  pub gave : GivesAll (going_to (s.undo t) point) given (new.undo t)

-- a savepoint stands; a mark may stand or not
abbrev pub MayGoTo : Point → List Deed → Type 0
MayGoTo point deeds = (has_deed point deeds ≡ true) ⊎ (point ≡ LastMark)

-- no change since a point is of the catalog
abbrev pub LeavesCatalog : Point → List Deed → Type 0
LeavesCatalog point deeds = (key : Value) → has_change (since_point point deeds) catalog_name key ≡ false

-- so memory follows the entry
abbrev pub BacksFollow : Type 0
BacksFollow = (o : Opening) (h : Entries) (e : Entry) (point : Point) (t : ℕ) (given : List Kept) (s new : Standing)
    → effect_of e ≡ TakesBack t point → transaction_of e.event ≡ Some t → waited_on e.answer ≡ None
    → Remembers o h s → s.state t ≡ Active → MayGoTo point (deeds_by t (steps o h))
    → LeavesCatalog point (deeds_by t (steps o h)) → IsBackInMemory t point given s new
    → FollowsEntry o h e s new
