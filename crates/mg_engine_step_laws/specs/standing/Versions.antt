-- The versions of a key of a table as the records of an image have them, and which record speaks for the
-- key.
use Rattle.std.specs.Prelude.{◌≡◌, ◌≢◌, ◌⊎◌, ℕ, List, [], Option, None, Some}
use Rattle.mg_base.specs.declared.numbers.RecId.{RecId}
use Rattle.mg_value.specs.declared.value.Value.{Value}
use Rattle.mg_model.specs.declared.opening.Opening.{Opening}
use Rattle.mg_model.specs.declared.table.Table.{Table}
use Rattle.mg_model.specs.History.{Entries}
use Rattle.mg_generation_laws.specs.Generations.{Generation, generation}
use Rattle.mg_generation_laws.specs.Kept.{IsErasedForAll, StandFor}
use Rattle.mg_image.specs.declared.entry.Entry.{Entry}
use Rattle.mg_image.specs.RecordRules.{Facts, table_in}
use Rattle.mg_image.specs.Records.{Reading, record_key, writer}
use Rattle.mg_seek.specs.Histories.{told_given, told_versions}

-- a version as a history says it
abbrev pub told_version : Table → Entry → Generation
told_version table e = generation (writer e) (told_given table e)

-- A record of a table of this name has versions, with this key.
pub record IsRecordOf (f : Facts) (r : Reading) (name : List ℕ) (key : Value) (p : RecId) : Type 0
  where
    pub table : Table
    pub of_table : table_in f p ≡ Some table
    pub named : table.name ≡ name
    pub some : r p ≢ []
    pub keyed : record_key table (r p) ≡ key

-- a record speaks for a key of a table: its versions stand for those that the history says of the key.
-- Where none speaks, the history's stand for none
abbrev pub SpeaksFor : Opening → Entries → Facts → Reading → List ℕ → Value → Option RecId → Type 0
SpeaksFor o h f r name key None = StandFor o h name key []
SpeaksFor o h f r name key (Some p) = (its : IsRecordOf f r name key p)
    × StandFor o h name key (told_versions f.state its.table (r p))

-- a record of a table that does not speak for its key has no versions that count, or they begin with a
-- deletion that all see
abbrev pub SpeaksOrSilent : Opening → Entries → Facts → Reading → (List ℕ → Value → Option RecId)
    → RecId → Table → Type 0
SpeaksOrSilent o h f r speaker p table = (told_versions f.state table (r p) ≡ [])
    ⊎ (IsErasedForAll o h (told_versions f.state table (r p)))
    ⊎ (speaker table.name (record_key table (r p)) ≡ Some p)

-- For each key of a table one record at most speaks, and all others are silent: nobody sees a row in
-- them, and nobody goes on to.
pub record HaveVersions (o : Opening) (h : Entries) (f : Facts) (r : Reading) : Type 0 where
  pub speaker : List ℕ → Value → Option RecId
  pub speaks : (name : List ℕ) (key : Value) → SpeaksFor o h f r name key (speaker name key)
  pub others : (p : RecId) (table : Table) → table_in f p ≡ Some table
      → SpeaksOrSilent o h f r speaker p table
