-- The entries of keys in an index: that looking through those of one key finds the record that speaks for it, and when a
-- record has the entry of its key.
use Rattle.std.specs.Prelude.{◌≡◌, ℕ, true, false, List, Option, None, Some}
use Rattle.mg_base.specs.declared.numbers.RecId.{RecId}
use Rattle.mg_base.specs.declared.transaction.TxState.{TxState}
use Rattle.mg_chain.specs.Views.{first_entry, is_dead}
use Rattle.mg_image.specs.Form.{Pages}
use Rattle.mg_image.specs.Indexes.{Finds}
use Rattle.mg_image.specs.Records.{record_key}
use Rattle.mg_image.specs.declared.entry.Entry.{Entry}
use Rattle.mg_node.specs.declared.entry.Entry as nodes
use Rattle.mg_model.specs.Answers.{is_committed}
use Rattle.mg_model.specs.declared.table.Table.{Table}
use Rattle.mg_sortkey.specs.KeyBytes.{key_bytes}
use Rattle.mg_snap.specs.Live.{State, all_see}
use Rattle.mg_value.specs.declared.value.Value.{Value}
use Rattle.mg_seek.specs.declared.whose.Wanted.TheVariants.{Living}
use Rattle.mg_seek.specs.Speaking.{Speaks, is_erased_for_all}
use Rattle.mg_seek.specs.TableRecords.{IsAmong}
use Rattle.mg_seek.specs.Versions.{wants}

-- ---- how the record that speaks for a key is found

-- the entry of a key and a record
abbrev pub entry_of_key : Value → RecId → nodes.Entry
entry_of_key key p = record { key = key_bytes key; rec = p; child = record { 0 = 0 } }

-- each record of the table that speaks for a key has the entry of the key
abbrev pub SpeakersHaveEntries : (ℕ → TxState) → State → Pages → Table → List RecId → Value → ℕ → Type 0
SpeakersHaveEntries state live view table records key root = (p : RecId) → IsAmong records p
    → Speaks state live view table key p → Finds view (entry_of_key key p) root

-- these are the records whose entries of a key the index has
abbrev pub AreCandidates : Pages → Value → ℕ → List RecId → Type 0
AreCandidates view key root candidates = (p : RecId) → Finds view (entry_of_key key p) root → IsAmong candidates p

-- one of the candidates is a record of the table and speaks for the key, or none is and does
abbrev pub FoundAmong : (ℕ → TxState) → State → Pages → Table → Value → List RecId → List RecId → Option RecId → Type 0
FoundAmong state live view table key records candidates None =
    (p : RecId) → IsAmong candidates p → IsAmong records p → Speaks state live view table key p → ⊥
FoundAmong state live view table key records candidates (Some p) =
    IsAmong records p × Speaks state live view table key p

-- ---- what that needs

-- The newest version of these that is no dead transaction's is a deletion that every base sees, or this holds.
abbrev pub HoldsUnlessErased : (ℕ → TxState) → State → List Entry → Type 0 → Type 0
HoldsUnlessErased state live es P = (newest : Entry) → first_entry (wants state live Living) es ≡ Some newest
    → is_erased_for_all state live newest.version ≡ false → P

-- the record of these versions has the entry of its key, unless it is erased for all
abbrev pub IsKeyFound : (ℕ → TxState) → State → Pages → Table → ℕ → RecId → List Entry → Type 0
IsKeyFound state live view table root p es =
    HoldsUnlessErased state live es (Finds view (entry_of_key (record_key table es) p) root)

-- ---- transactions end

-- Transactions end: some of them are dead now that were not committed; who was committed is so; and whom every base
-- saw each still sees.
pub record Ends (state state' : ℕ → TxState) (live live' : State) : Type 0 where
  pub dead : (by : ℕ) → is_dead (state by) ≡ true → is_dead (state' by) ≡ true
  pub fresh : (by : ℕ) → is_dead (state by) ≡ false → is_dead (state' by) ≡ true → is_committed (state by) ≡ false
  pub committed : (by : ℕ) → is_committed (state by) ≡ true → is_committed (state' by) ≡ true
  pub seen : (by : ℕ) → all_see live by ≡ true → all_see live' by ≡ true
