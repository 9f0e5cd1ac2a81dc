-- Tables that a history leaves as they were.
use Rattle.std.specs.Prelude.{◌≡◌, ℕ, Bool, false, List, [], ◌∷◌}
use Rattle.mg_base.specs.declared.transaction.TxState.TheVariants.{Committed}
use Rattle.mg_value.specs.declared.value.Value.{Value}
use Rattle.mg_model.specs.declared.event.Event.{Event}
use Rattle.mg_model.specs.declared.event.Event.TheVariants.{Begin, Look, Find, Claim, Insert, Change, Erase, Mark, UndoMark, Savepoint, BackTo, Prepare, Commit, Rollback, Decide}
use Rattle.mg_model.specs.declared.opening.Opening.{Opening}
use Rattle.mg_model.specs.Catalog.{CatalogRows, catalog_name}
use Rattle.mg_model.specs.Changes.{same_name, has_change, row_at}
use Rattle.mg_model.specs.History.{Entries, Effect, Begins, Looks, Makes, Gives, Marks, Saves, TakesBack, Ends, Nothing, effect_of}
use Rattle.mg_model.specs.Machine.{opening_state, opening_rows, own}
use Rattle.mg_generation_laws.specs.Generations.{Generation, EachGeneration}

-- each of these versions was committed when the history began
abbrev pub AreOld : Opening → List Generation → Type 0
AreOld o gs = EachGeneration (λ g. opening_state o g.writer ≡ Committed) gs

-- an effect makes a row of this table, or gives a key of it another row or none
abbrev pub writes_table : Effect → List ℕ → Bool
writes_table (Makes t named row) table = same_name named table
writes_table (Gives t named key row) table = same_name named table
writes_table (Begins t mode) table = false
writes_table (Looks t) table = false
writes_table (Marks t) table = false
writes_table (Saves t name) table = false
writes_table (TakesBack t point) table = false
writes_table (Ends t end) table = false
writes_table Nothing table = false

-- an event asks for a write to this table
abbrev pub asks_to_write : Event → List ℕ → Bool
asks_to_write (Insert t named row) table = same_name named table
asks_to_write (Change t named key row) table = same_name named table
asks_to_write (Erase t named key) table = same_name named table
asks_to_write (Begin session mode) table = false
asks_to_write (Look t) table = false
asks_to_write (Find t named filter) table = false
asks_to_write (Claim t named) table = false
asks_to_write (Mark t) table = false
asks_to_write (UndoMark t) table = false
asks_to_write (Savepoint t name) table = false
asks_to_write (BackTo t name) table = false
asks_to_write (Prepare t) table = false
asks_to_write (Commit t) table = false
asks_to_write (Rollback t) table = false
asks_to_write (Decide t commit) table = false

-- a history leaves a table: no transaction in limbo had changed it when the history began, and no
-- entry writes it
abbrev pub LeavesTable : Opening → List ℕ → Entries → Type 0
LeavesTable o table [] = (t : ℕ) (key : Value) → has_change (own o [] t) table key ≡ false
LeavesTable o table (e ∷ h) = (writes_table (effect_of e) table ≡ false) × LeavesTable o table h

-- the catalog that a history begins with
abbrev pub opening_catalog : Opening → CatalogRows
opening_catalog o = row_at (opening_rows o) catalog_name
