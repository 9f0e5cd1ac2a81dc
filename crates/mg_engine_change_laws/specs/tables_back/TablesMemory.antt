-- What is in memory where a transaction has taken back to a point, with tables that it had made.
use Rattle.std.specs.Prelude.{◌≡◌, ◌≢◌, ◌∷◌, ℕ, false, List, None, Some}
use Rattle.mg_base.specs.declared.transaction.TxState.TheVariants.{Active}
use Rattle.mg_value.specs.declared.value.Value.{Value}
use Rattle.mg_waits.specs.Waits.{NowWaits}
use Rattle.mg_model.specs.declared.change.Change.{Change}
use Rattle.mg_model.specs.declared.change.Point.{Point}
use Rattle.mg_model.specs.declared.opening.Opening.{Opening}
use Rattle.mg_model.specs.Catalog.{catalog_name}
use Rattle.mg_model.specs.History.{Entries, Entry, TakesBack, effect_of, transaction_of}
use Rattle.mg_model.specs.Legal.{IsLegal, MayBegin}
use Rattle.mg_model.specs.Machine.{deeds_by, own, steps, waited_on}
use Rattle.mg_image.specs.Histories.{newest_at}
use Rattle.mg_undo.specs.Machine.{going_to}
use Rattle.mg_undo.specs.Undo.{TakesBack as GivesAll}
use Rattle.mg_undo.specs.declared.changes.Change.{Change as Kept}
use Rattle.mg_grown_catalog_laws.specs.Grown.{CatalogGrows}
use Rattle.mg_engine_step_laws.specs.standing.Following.{FollowsEntry, KeepsOne}
use Rattle.mg_engine_step_laws.specs.standing.Standing.{Remembers, Standing}
use Rattle.mg_engine_step_laws.specs.tables_back.Outs.{is_among}
use Rattle.mg_engine_step_laws.specs.tables_back.ShapesLeft.{table_left}
use Rattle.mg_engine_step_laws.specs.tables_back.TablesBack.{AreRowsLeft}
use Rattle.mg_engine_change_laws.specs.backs.Memory.{MayGoTo}

-- A transaction is taken back to a point, and the tables whose rows of the catalog go, under these keys, are gone: what it
-- has to take back is what the steps have left, its wait is over, it sees the other tables that it saw, and all else is as
-- it was.
pub record IsBackOverTables (t : ℕ) (point : Point) (given : List Kept) (keys : List Value) (s new : Standing) : Type 0
  where
    pub limit : new.limit ≡ s.limit
    pub next : new.next ≡ s.next
    pub state : (u : ℕ) → new.state u ≡ s.state u
    pub live : new.live ≡ s.live
    pub over : NowWaits s.waits new.waits t None
    pub others : (u : ℕ) → u ≢ t → KeepsOne s new u
    pub mode : new.mode t ≡ s.mode t
    pub session : new.session t ≡ s.session t
    pub number : new.number t ≡ s.number t
    pub table : (name : List ℕ) → new.table t name ≡ table_left (is_among keys) (s.table t) name
    pub gave : GivesAll (going_to (s.undo t) point) given (new.undo t)

-- so memory follows the entry
abbrev pub TablesFollow : Type 0
TablesFollow = (o : Opening) (h : Entries) (e : Entry) (point : Point) (t : ℕ) (given : List Kept) (left : List Change)
    (keys : List Value) (s new : Standing)
    → effect_of e ≡ TakesBack t point → transaction_of e.event ≡ Some t → waited_on e.answer ≡ None → MayBegin o
    → IsLegal o (e ∷ h) → CatalogGrows o h → Remembers o h s → s.state t ≡ Active
    → MayGoTo point (deeds_by t (steps o h)) → AreRowsLeft o h e t left keys
    → ((key : Value) → is_among keys key ≡ false
    → newest_at (own o (e ∷ h) t) catalog_name key ≡ newest_at (own o h t) catalog_name key)
    → IsBackOverTables t point given keys s new → FollowsEntry o h e s new
