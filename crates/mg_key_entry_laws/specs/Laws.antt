-- The laws of the entries of keys. The files `..Laws` prove them.
use Rattle.std.specs.Prelude.{◌≡◌, ◌≢◌, ℕ, false, List, ◌∷◌, Option, Some}
use Rattle.mg_base.specs.declared.numbers.RecId.{RecId}
use Rattle.mg_base.specs.declared.transaction.TxState.{TxState}
use Rattle.mg_base.specs.declared.transaction.TxState.TheVariants.{Active}
use Rattle.mg_chain.specs.Views.{first_entry, is_dead}
use Rattle.mg_image.specs.Form.{Form, Pages}
use Rattle.mg_image.specs.Indexes.{Finds, IsFoundIn}
use Rattle.mg_image.specs.RecordRules.{Facts, table_in}
use Rattle.mg_image.specs.Records.{Reading, record_key}
use Rattle.mg_image.specs.Sound.{IsSoundBy, facts_by}
use Rattle.mg_entry_overlay_laws.specs.Entered.{ShowsEntries}
use Rattle.mg_image.specs.Tables.{Layout, stands_of, table_at}
use Rattle.mg_image.specs.declared.entry.Entry.{Entry}
use Rattle.mg_model.specs.declared.table.Table.{Table}
use Rattle.mg_snap.specs.Live.{State}
use Rattle.mg_value.specs.declared.value.Value.{Value}
use Rattle.mg_seek.specs.declared.whose.Wanted.TheVariants.{Living}
use Rattle.mg_seek.specs.Readings.{IsReadAt}
use Rattle.mg_seek.specs.Speaking.{IsSpeaker, Speaks, is_erased_for_all}
use Rattle.mg_seek.specs.TableRecords.{AreTableRecords}
use Rattle.mg_seek.specs.Versions.{wants}
use Rattle.mg_key_entry_laws.specs.KeptEntries.{HasFound}
use Rattle.mg_key_entry_laws.specs.KeyEntries.{AreCandidates, Ends, FoundAmong, IsKeyFound, SpeakersHaveEntries, entry_of_key}

-- Where each record of a table that speaks for a key has the key's entry in an index, who looks through the records that
-- the entries of the key name finds the record that speaks, or that none does.
abbrev pub EntriesTellSpeakers : Type 0
EntriesTellSpeakers = (state : ℕ → TxState) (live : State) (view : Pages) (table : Table) (key : Value) (root : ℕ)
    (records candidates : List RecId) (found : Option RecId) → AreTableRecords view table.pointer.0 records
    → SpeakersHaveEntries state live view table records key root → AreCandidates view key root candidates
    → FoundAmong state live view table key records candidates found → IsSpeaker state live view table key found

-- a record that speaks for a key has its entry, where each record that is not erased for all has the entry of its key
abbrev pub SpeakersAreFound : Type 0
SpeakersAreFound = (state : ℕ → TxState) (live : State) (view : Pages) (table : Table) (root : ℕ) (key : Value)
    (p : RecId) (f : Facts) (r : Reading) → IsReadAt view f r table p
    → IsKeyFound state live view table root p (r p) → Speaks state live view table key p
    → Finds view (entry_of_key key p) root

-- that a record has the entry of its key lasts while transactions end
abbrev pub KeysStayFound : Type 0
KeysStayFound = (state now : ℕ → TxState) (live since : State) (view : Pages) (table : Table) (root : ℕ) (p : RecId)
    (es : List Entry) → Ends state now live since → IsKeyFound state live view table root p es
    → IsKeyFound now since view table root p es

-- and where a version of the same key is laid over those of a record that was not erased for all
abbrev pub PushedKeysStayFound : Type 0
PushedKeysStayFound = (state : ℕ → TxState) (live : State) (view : Pages) (table : Table) (root : ℕ) (p : RecId)
    (e : Entry) (es : List Entry) (newest : Entry) → first_entry (wants state live Living) es ≡ Some newest
    → is_erased_for_all state live newest.version ≡ false → record_key table (e ∷ es) ≡ record_key table es
    → IsKeyFound state live view table root p es → IsKeyFound state live view table root p (e ∷ es)

-- In a sound image the row of a record's newest version that is no dead transaction's is found in each index of its
-- table, where that version is no deletion. The same transactions are dead as count so, and none counts as active.
abbrev pub LivingRowsAreFound : Form → Type 0
LivingRowsAreFound form = (size : ℕ) (state counted : ℕ → TxState) (live : State) (pages : Pages) (layout : Layout)
    (r : Reading) → IsSoundBy form size counted pages layout r
    → ((u : ℕ) → is_dead (state u) ≡ is_dead (counted u)) → ((u : ℕ) → counted u ≢ Active)
    → (p : RecId) (table : Table) → table_in (facts_by counted pages layout) p ≡ Some table
    → (newest : Entry) → first_entry (wants state live Living) (r p) ≡ Some newest
    → newest.version.deleted ≡ false → IsFoundIn pages table.indexes p newest.row

-- what a keeper has of its indexes it has still over an image that is there after a batch of entries
abbrev pub EntriesKeepFound : Form → Type 0
EntriesKeepFound form = (size : ℕ) (state : ℕ → TxState) (pool changed : Pages) (a : Layout) (r : Reading)
    (entries : ShowsEntries form size state pool changed a r) (now : ℕ → TxState) (live : State)
    → HasFound now live (table_at (stands_of a)) pool r
    → HasFound now live (table_at (stands_of entries.layout)) changed r
