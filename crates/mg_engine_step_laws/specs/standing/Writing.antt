-- What an effect at one key makes of the records of an image.
use Rattle.std.specs.Prelude.{◌≡◌, ◌≢◌, ◌⊎◌, ℕ, ◌&&◌, false, List, [], ◌∷◌, Option, None, Some}
use Rattle.mg_base.specs.declared.numbers.RecId.{RecId}
use Rattle.mg_value.specs.declared.value.Value.{Value}
use Rattle.mg_model.specs.declared.opening.Opening.{Opening}
use Rattle.mg_model.specs.declared.table.Table.{Table}
use Rattle.mg_model.specs.Answers.{catalog_of, told}
use Rattle.mg_model.specs.Catalog.{key_in}
use Rattle.mg_model.specs.Changes.{Cells, same_key, same_name}
use Rattle.mg_model.specs.History.{Entries, Entry, Gives, Makes, effect_of}
use Rattle.mg_model.specs.Legal.{IsLegal, MayBegin}
use Rattle.mg_generation_laws.specs.Generations.{Generation, put}
use Rattle.mg_generation_laws.specs.Kept.{IsErasedForAll}
use Rattle.mg_image.specs.RecordRules.{Facts, table_in}
use Rattle.mg_image.specs.Records.{Reading, record_key}
use Rattle.mg_engine_step_laws.specs.standing.StandingLaws.{IsChainOf}
use Rattle.mg_seek.specs.Histories.{told_versions}
use Rattle.mg_engine_step_laws.specs.standing.Versions.{HaveVersions}

-- an entry gives a key of a table a row of a transaction's, or none, or makes one with the key
abbrev pub WritesKey : Opening → Entries → Entry → ℕ → List ℕ → Value → Option Cells → Type 0
WritesKey o h e t name key row = (effect_of e ≡ Gives t name key row)
    ⊎ ((made : Cells) × (row ≡ Some made) × (effect_of e ≡ Makes t name made)
    × (key_in (catalog_of (told o h) t) name made ≡ key))

-- One record was written: it speaks for a key now, and has the transaction's version in front of those of
-- the record that spoke for the key before, which was the same one, or there was none and it is new. All
-- other records are as they were.
pub record WritesRecord (f g : Facts) (r s : Reading) (speaker : List ℕ → Value → Option RecId)
    (t : ℕ) (name : List ℕ) (key : Value) (row : Option Cells) (p : RecId) : Type 0 where
  pub state : (u : ℕ) → g.state u ≡ f.state u
  pub table : Table
  pub of_table : table_in g p ≡ Some table
  pub named : table.name ≡ name
  pub some : s p ≢ []
  pub keyed : record_key table (s p) ≡ key
  pub spoke : (speaker name key ≡ Some p) ⊎ ((speaker name key ≡ None) × (r p ≡ []))
  pub versions : (chain : List Generation) → IsChainOf f r name key (speaker name key) chain
      → told_versions g.state table (s p) ≡ put t row chain
  pub others : (q : RecId) → q ≢ p → s q ≡ r q
  pub tables : (q : RecId) → q ≢ p → r q ≢ [] → table_in g q ≡ table_in f q

-- so the records have the versions of the longer history
abbrev pub WritesFollow : Type 0
WritesFollow = (o : Opening) (h : Entries) (e : Entry) (f g : Facts) (r s : Reading) (t : ℕ)
    (name : List ℕ) (key : Value) (row : Option Cells) (p : RecId) (have : HaveVersions o h f r)
    → MayBegin o → IsLegal o (e ∷ h) → WritesKey o h e t name key row
    → WritesRecord f g r s have.speaker t name key row p → HaveVersions o (e ∷ h) g s

-- A record that speaks for a key, and whose versions are erased for all, may be silent: then none speaks
-- for the key, and a new one may be made.
pub record Silenced (o : Opening) (h : Entries) (f : Facts) (r : Reading)
    (have : HaveVersions o h f r) (name : List ℕ) (key : Value) : Type 0 where
  pub now : HaveVersions o h f r
  pub none : now.speaker name key ≡ None
  pub others : (n : List ℕ) (k : Value) → (same_name name n && same_key key k) ≡ false
      → now.speaker n k ≡ have.speaker n k

abbrev pub ErasedMayBeSilent : Type 0
ErasedMayBeSilent = (o : Opening) (h : Entries) (f : Facts) (r : Reading)
    (have : HaveVersions o h f r) (name : List ℕ) (key : Value)
    → ((chain : List Generation) → IsChainOf f r name key (have.speaker name key) chain
    → (chain ≡ []) ⊎ IsErasedForAll o h chain)
    → Silenced o h f r have name key
