-- Records where pages change: what is told of directories of keys, and what is known of the records.
use Rattle.std.specs.Prelude.{ℕ}
use Rattle.mg_base.specs.declared.numbers.RecId.{RecId}
use Rattle.mg_base.specs.declared.transaction.TxState.{TxState}
use Rattle.mg_directory.specs.Candidates.{ByTable, NotesOrDrops}
use Rattle.mg_heap.specs.Stands.{TablesAreWalked}
use Rattle.mg_engine_meaning_laws.specs.KnownRecords.{KnowsRecords}
use Rattle.mg_image.specs.Form.{Pages, packed_form}
use Rattle.mg_image_overlay_laws.specs.tables.OneLayout.{StandsOneWay}
use Rattle.mg_seek.specs.Readings.{SpeakersOfReadings}
use Rattle.mg_sortkey.specs.KeyBytes.{key_bytes}
use Rattle.mg_value.specs.declared.value.Value.{Value}

-- what was known of the records on pages is known of those on later ones: directories are complete, rows of the catalog stand
-- alone
abbrev pub StaysKnown : ℕ → (ℕ → TxState) → Pages → Pages → Type 0
StaysKnown size state pages later = (from : ℕ) (dirs : ByTable) → KnowsRecords from size state pages dirs
    → KnowsRecords from size state later dirs

-- so it is where a record was noted under a key, in the directory of the table that begins at a page
abbrev pub KeepsKnown : ℕ → (ℕ → TxState) → Pages → Pages → ℕ → Value → RecId → Type 0
KeepsKnown size state pages later first key rec = (from : ℕ) (old new : ByTable)
    → KnowsRecords from size state pages old → NotesOrDrops old new first (key_bytes key) rec
    → KnowsRecords from size state later new

-- What is known of the directories of an engine: pages stand one way, tables are walked as they stand, and who speaks
-- for a key is who speaks in every reading.
pub record DirectoriesTell : Type 0 where
  pub one_way : StandsOneWay packed_form
  pub walked : TablesAreWalked
  pub speakers : SpeakersOfReadings
