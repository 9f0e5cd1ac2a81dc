-- Who speaks for a key among some candidates, and how a directory is made by one pass over a table.
use Rattle.std.specs.Prelude.{◌≡◌, ℕ, List, Option, None, Some}
use Rattle.mg_base.specs.declared.numbers.RecId.{RecId}
use Rattle.mg_base.specs.declared.transaction.TxState.{TxState}
use Rattle.mg_directory.specs.Candidates.{ByKey, IsCandidate}
use Rattle.mg_image.specs.Form.{Pages}
use Rattle.mg_model.specs.declared.table.Table.{Table}
use Rattle.mg_sortkey.specs.KeyBytes.{key_bytes}
use Rattle.mg_snap.specs.Live.{State}
use Rattle.mg_value.specs.declared.value.Value.{Value}
use Rattle.mg_seek.specs.Speaking.{Speaks}
use Rattle.mg_seek.specs.TableRecords.{IsAmong}
use Rattle.mg_seek.specs.Views.{IsKeyOf}

-- one of the candidates is a record of the table and speaks for the key, or none is and does
abbrev pub FoundAmong : (ℕ → TxState) → State → Pages → Table → Value → List RecId → List RecId → Option RecId → Type 0
FoundAmong state live view table key records candidates None =
    (p : RecId) → IsCandidate candidates p → IsAmong records p → Speaks state live view table key p → ⊥
FoundAmong state live view table key records candidates (Some p) =
    IsAmong records p × Speaks state live view table key p

-- the records of a table are in a directory, each under the key that was read of it
abbrev pub IsBuilt : (ℕ → TxState) → State → Pages → Table → List RecId → ByKey → Type 0
IsBuilt state live view table records dir = (p : RecId) → IsAmong records p
    → (key : Option Value) × IsKeyOf state live view table p key
    × ((k : Value) → key ≡ Some k → IsCandidate (dir (key_bytes k)) p)
