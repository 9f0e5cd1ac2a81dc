-- An engine whose transaction is taken back to a point stands for the history with the event.
use Rattle.std.specs.Prelude.{◌≡◌, ◌≢◌, ◌∷◌, ℕ, false, Option, Some, None}
use Rattle.mg_base.specs.Disk.{Meaning}
use Rattle.mg_base.specs.Image.{Image}
use Rattle.mg_base.specs.declared.transaction.TxState.TheVariants.{Active}
use Rattle.mg_core.specs.Cores.{IsCore}
use Rattle.mg_core.specs.declared.parts.Core.{Core}
use Rattle.mg_engine_meaning_laws.specs.Standings.{StandsFor, standing_of}
use Rattle.mg_engine_step_laws.specs.reads.Walking.{AreToCome, WalkPlace}
use Rattle.mg_engine_change_laws.specs.backs.Memory.{LeavesCatalog, MayGoTo}
use Rattle.mg_engine_step_laws.specs.backs.Again.{rolling}
use Rattle.mg_image.specs.Form.{packed_form}
use Rattle.mg_lasting_laws.specs.Crashes.{HoldsAcknowledged, LeavesSince, may_last}
use Rattle.mg_model.specs.Changes.{KeyedRows}
use Rattle.mg_model.specs.History.{Entries, Entry, TakesBack, effect_of, transaction_of}
use Rattle.mg_model.specs.Legal.{IsLawful, is_durable}
use Rattle.mg_model.specs.Machine.{deeds_by, steps, waited_on}
use Rattle.mg_model.specs.declared.change.Point.{Point}
use Rattle.mg_model.specs.declared.opening.Opening.{Opening}
use Rattle.mg_model.specs.declared.table.Table.{Table}
use Rattle.mg_pool.specs.Pool.{shown}
use Rattle.mg_taking_back.specs.Taking.{TakesBackTo}
use Rattle.mg_txlist.specs.TxList.{said}

-- An entry takes a transaction back to a point that it may go to; it is lawful, as a rollback would be, and no change
-- since the point is of the catalog.
pub record IsBackEntry (o : Opening) (h : Entries) (e : Entry) (t : ℕ) (point : Point) : Type 0 where
  pub back : effect_of e ≡ TakesBack t point
  pub lawful : IsLawful o h e
  pub whose : transaction_of e.event ≡ Some t
  pub answered : waited_on e.answer ≡ None
  pub passing : is_durable e ≡ false
  pub no_failure : may_last e ≡ false
  pub ends : IsLawful o h (rolling t)
  pub may : MayGoTo point (deeds_by t (steps o h))
  pub leaves : LeavesCatalog point (deeds_by t (steps o h))

-- The walks of every other active transaction go on, whatever is taken back: over the cache then they come to the same
-- rows.
abbrev pub OthersWalkOnBack : (D : Type 0) → Meaning D → Type 0
OthersWalkOnBack D m = (old new : Core D) (t : ℕ) (point : Point) (o : Opening) (h : Entries) (e : Entry)
    → IsCore m old → TakesBackTo m old new t point → (stands : StandsFor m old o h) → IsBackEntry o h e t point
    → (i : Image) → m.held old.store.disk ≡ Some i → (u : ℕ) → u ≢ t → said old.list u ≡ Active → (table : Table)
    (after : Option WalkPlace) (rows : KeyedRows)
    → AreToCome old.store.geometry.size (standing_of old stands.numbers stands.tables) (shown old.store.dirty i) u table
    after rows
    → (k : Image) × (m.held new.store.disk ≡ Some k)
    × AreToCome new.store.geometry.size (standing_of new stands.numbers stands.tables) (shown new.store.dirty k) u table
    after rows

-- the engine stands for the history with it, and what a crash since the call began might have left holds the history
-- before it
abbrev pub EnginesGoBackTo : (D : Type 0) → Meaning D → Type 0
EnginesGoBackTo D m = (old new : Core D) (t : ℕ) (point : Point) (o : Opening) (h : Entries) (e : Entry)
    → IsCore m old → TakesBackTo m old new t point → StandsFor m old o h → IsBackEntry o h e t point
    → StandsFor m new o (e ∷ h)
    × LeavesSince m old.store.disk new.store.disk (HoldsAcknowledged packed_form old.store.dirty.size o h)
