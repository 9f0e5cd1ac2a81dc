-- The records that the entries of a key name are enough to look for the one that speaks.
use Rattle.std.specs.Prelude.{ℕ, List}
use Rattle.mg_base.specs.declared.numbers.RecId.{RecId}
use Rattle.mg_base.specs.declared.transaction.TxState.{TxState}
use Rattle.mg_heap.specs.Listed.{IsRecordOf}
use Rattle.mg_image.specs.Form.{Pages}
use Rattle.mg_key_entry_laws.specs.KeyEntries.{SpeakersHaveEntries}
use Rattle.mg_model.specs.declared.table.Table.{Table}
use Rattle.mg_seek.specs.Candidates.{AreEnough}
use Rattle.mg_seek.specs.TableRecords.{AreTableRecords, IsAmong}
use Rattle.mg_snap.specs.Live.{State}
use Rattle.mg_sortkey.specs.KeyBytes.{key_bytes}
use Rattle.mg_value.specs.declared.value.Value.{Value}
use Rattle.mg_lookup.specs.Records.{AreNamed}

-- where each record of the table is told to be one, and each that speaks for the key has its entry
abbrev pub EntriesAreEnough : Type 0
EntriesAreEnough = (state : ℕ → TxState) (live : State) (view : Pages) (table : Table) (key : Value) (root : ℕ)
    (records found : List RecId) → AreTableRecords view table.pointer.0 records
    → ((rec : RecId) → IsAmong records rec → IsRecordOf view table.pointer.0 rec)
    → SpeakersHaveEntries state live view table records key root → AreNamed view root (key_bytes key) found
    → AreEnough state live view table key found
