-- What is proved of complete directories, as statements.
use Rattle.std.specs.Prelude.{◌≡◌, ◌≢◌, ◌⊎◌, ℕ, Bool, List, [], Option, Some}
use Rattle.mg_base.specs.declared.numbers.RecId.{RecId}
use Rattle.mg_base.specs.declared.transaction.TxState.{TxState}
use Rattle.mg_directory.specs.Candidates.{ByKey, ByTable, NotesOrDrops}
use Rattle.mg_image.specs.Form.{Pages, packed_coding, packed_form}
use Rattle.mg_image.specs.RecordRules.{AreRecords, Facts, table_in}
use Rattle.mg_image.specs.Records.{Reading, cells_of}
use Rattle.mg_image.specs.Sound.{IsSoundBy}
use Rattle.mg_image.specs.Tables.{Layout}
use Rattle.mg_image.specs.declared.entry.Entry.{Entry}
use Rattle.mg_image_overlay_laws.specs.tables.Growing.{IsTableOf}
use Rattle.mg_model.specs.Changes.{Cells}
use Rattle.mg_model.specs.History.{Entries, Entry as Event}
use Rattle.mg_model.specs.Openings.{everyone}
use Rattle.mg_model.specs.declared.opening.Opening.{Opening}
use Rattle.mg_model.specs.declared.table.Table.{Table}
use Rattle.mg_overlay_laws.specs.Overlays.{left_state}
use Rattle.mg_sortkey.specs.KeyBytes.{key_bytes}
use Rattle.mg_snap.specs.Live.{State}
use Rattle.mg_value.specs.declared.value.Value.{Value}
use Rattle.mg_seek.specs.Speaking.{IsSpeaker}
use Rattle.mg_seek.specs.TableRecords.{AreTableRecords, IsAmong}
use Rattle.mg_engine_step_laws.specs.standing.Standing.{ShowsHistory, Standing}
use Rattle.mg_engine_step_laws.specs.writes.Writes.{WritesVersion}
use Rattle.mg_noted_laws.specs.Coming.{AreFewer}
use Rattle.mg_noted_laws.specs.Noted.{HasNoted, IsNoted}
use Rattle.mg_noted_laws.specs.Speaking.{FoundAmong, IsBuilt}

-- who speaks for a key is found among the candidates of a complete directory
abbrev pub DirectoriesTellSpeakers : Type 0
DirectoriesTellSpeakers = (state : ℕ → TxState) (live : State) (view : Pages) (table : Table) (key : Value)
    (records : List RecId) (f : Facts) (r : Reading) (dir : ByKey) (found : Option RecId)
    → AreRecords packed_coding f (cells_of view) r → AreTableRecords view table.pointer.0 records
    → ((p : RecId) → IsAmong records p → table_in f p ≡ Some table) → IsNoted f r table.pointer.0 dir
    → FoundAmong state live view table key records (dir (key_bytes key)) found
    → IsSpeaker state live view table key found

-- a directory that has each record of its table under the key that was read of it is complete
abbrev pub BuiltAreComplete : Type 0
BuiltAreComplete = (state : ℕ → TxState) (live : State) (view : Pages) (table : Table) (records : List RecId)
    (f : Facts) (r : Reading) (dir : ByKey) → AreRecords packed_coding f (cells_of view) r
    → ((p : RecId) (other : Table) → table_in f p ≡ Some other → other.pointer.0 ≡ table.pointer.0 → r p ≢ []
    → (other ≡ table) × IsAmong records p)
    → IsBuilt state live view table records dir → IsNoted f r table.pointer.0 dir

-- where a row is written and its record noted, directories that were complete are so
abbrev pub WritesKeepThem : Type 0
WritesKeepThem = (size : ℕ) (o : Opening) (h : Entries) (e : Event) (s new : Standing) (pages later : Pages)
    (shows : ShowsHistory packed_form size o h s pages) (t : ℕ) (name : List ℕ) (key : Value) (row : Option Cells)
    (p : RecId) (n : Entry) (older : List Entry) (table : Table) → ((u : ℕ) → new.state u ≡ s.state u)
    → ((q : RecId) → (q ≡ p) ⊎ (q ≢ p))
    → WritesVersion packed_form size o h e s new pages later shows t name key row p n older table
    → (dirs dirs' : ByTable) → HasNoted packed_form size (left_state everyone s.state) pages dirs
    → NotesOrDrops dirs dirs' table.pointer.0 (key_bytes key) p
    → HasNoted packed_form size (left_state everyone new.state) later dirs'

-- where fewer transactions count and the tables that still stand stood, directories that were complete are so
abbrev pub EndsKeepThem : Type 0
EndsKeepThem = (size : ℕ) (state : ℕ → TxState) (pages : Pages) (a : Layout) (r : Reading)
    → IsSoundBy packed_form size (left_state everyone state) pages a r → (chosen : ℕ → Bool) (b : Layout)
    (s : Reading) → IsSoundBy packed_form size (left_state chosen state) pages b s
    → ((x : Table) → IsTableOf b x → IsTableOf a x) → (old new : ByTable)
    → HasNoted packed_form size (left_state everyone state) pages old → AreFewer old new
    → HasNoted packed_form size (left_state chosen state) pages new
