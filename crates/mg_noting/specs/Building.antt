-- A directory of keys is made by one pass over the records of a table.
use Rattle.std.specs.Prelude.{◌≡◌, ℕ, List, Option, Some}
use Rattle.mg_base.specs.declared.numbers.RecId.{RecId}
use Rattle.mg_base.specs.declared.transaction.TxState.{TxState}
use Rattle.mg_directory.specs.Candidates.{ByKey, IsCandidate}
use Rattle.mg_image.specs.Form.{Pages}
use Rattle.mg_model.specs.declared.table.Table.{Table}
use Rattle.mg_sortkey.specs.KeyBytes.{key_bytes}
use Rattle.mg_snap.specs.Live.{State}
use Rattle.mg_value.specs.declared.value.Value.{Value}
use Rattle.mg_seek.specs.TableRecords.{IsAmong}
use Rattle.mg_seek.specs.Views.{IsKeyOf}

-- A record is in a directory under the key that was read of it, if it has one.
pub record IsUnderItsKey (state : ℕ → TxState) (live : State) (view : Pages) (table : Table) (dir : ByKey)
    (rec : RecId) : Type 0 where
  pub key : Option Value
  pub read : IsKeyOf state live view table rec key
  pub has : (k : Value) → key ≡ Some k → IsCandidate (dir (key_bytes k)) rec

-- the records of a table are in a directory, each under the key that was read of it
abbrev pub IsBuilt : (ℕ → TxState) → State → Pages → Table → List RecId → ByKey → Type 0
IsBuilt state live view table records dir =
    (rec : RecId) → IsAmong records rec → IsUnderItsKey state live view table dir rec
