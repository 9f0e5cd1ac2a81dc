-- What keeps the versions of an image standing for a history. The other files prove it.
use Rattle.std.specs.Prelude.{◌≡◌, ℕ, true, List, [], ◌∷◌, Option, None, Some}
use Rattle.mg_base.specs.declared.numbers.RecId.{RecId}
use Rattle.mg_value.specs.declared.value.Value.{Value}
use Rattle.mg_model.specs.declared.opening.Opening.{Opening}
use Rattle.mg_model.specs.declared.table.Table.{Table}
use Rattle.mg_model.specs.History.{Entries, Entry, effect_of}
use Rattle.mg_model.specs.Legal.{IsLegal, MayBegin}
use Rattle.mg_generation_laws.specs.After.{generations_with, leaves_versions}
use Rattle.mg_generation_laws.specs.Generations.{Generation}
use Rattle.mg_generation_laws.specs.Kept.{StandFor}
use Rattle.mg_image.specs.RecordRules.{Facts, table_in}
use Rattle.mg_image.specs.Records.{Reading}
use Rattle.mg_image_overlay_laws.specs.records.Fronts.{living}
use Rattle.mg_seek.specs.Histories.{told_versions}
use Rattle.mg_engine_step_laws.specs.standing.Versions.{HaveVersions, IsRecordOf, SpeaksOrSilent}

-- an entry of a legal history makes of a chain that stands for the versions of a key what its effect says
abbrev pub ChainsGoOn : Type 0
ChainsGoOn = (o : Opening) (h : Entries) (e : Entry) (table : List ℕ) (key : Value)
    (chain : List Generation) → MayBegin o → IsLegal o (e ∷ h) → StandFor o h table key chain
    → StandFor o (e ∷ h) table key (generations_with o h e table key chain)

-- ---- the versions of an image

-- the versions of the record that speaks for a key, none where none does
abbrev pub IsChainOf : Facts → Reading → List ℕ → Value → Option RecId → List Generation → Type 0
IsChainOf f r name key None chain = chain ≡ []
IsChainOf f r name key (Some p) chain = (its : IsRecordOf f r name key p)
    × (chain ≡ told_versions f.state its.table (r p))

-- The records of an image follow an entry: of each key the speaker's versions are those that the entry
-- makes of the speaker's before, and all other records are silent.
pub record FollowEntry (o : Opening) (h : Entries) (e : Entry) (f g : Facts) (r s : Reading)
    (speaker later : List ℕ → Value → Option RecId) : Type 0 where
  pub keys : (name : List ℕ) (key : Value) (chain : List Generation)
      → IsChainOf f r name key (speaker name key) chain
      → IsChainOf g s name key (later name key) (generations_with o h e name key chain)
  pub others : (p : RecId) (table : Table) → table_in g p ≡ Some table
      → SpeaksOrSilent o (e ∷ h) g s later p table

-- so they have the versions of the longer history
abbrev pub VersionsFollow : Type 0
VersionsFollow = (o : Opening) (h : Entries) (e : Entry) (f g : Facts) (r s : Reading)
    (have : HaveVersions o h f r) (later : List ℕ → Value → Option RecId) → MayBegin o
    → IsLegal o (e ∷ h) → FollowEntry o h e f g r s have.speaker later
    → HaveVersions o (e ∷ h) g s

-- an entry that writes nothing, lets nobody die and takes nothing back leaves the records as they are,
-- where the same versions count
abbrev pub VersionsStay : Type 0
VersionsStay = (o : Opening) (h : Entries) (e : Entry) (f g : Facts) (r : Reading) → MayBegin o
    → IsLegal o (e ∷ h) → leaves_versions (effect_of e) ≡ true
    → ((n : ℕ) → g.table_of n ≡ f.table_of n)
    → ((p : RecId) → living g.state (r p) ≡ living f.state (r p))
    → HaveVersions o h f r → HaveVersions o (e ∷ h) g r
