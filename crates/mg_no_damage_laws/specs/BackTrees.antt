-- What a key that a transaction takes back needs of the indexes of its table: these are few, and their trees stand before
-- each entry of what comes back is laid.
use Rattle.std.proofs.Common.{◌≡◌, ◌∙◌, ◌++◌, ◌≤◌, ◌∷◌, ap, ℕ, List, Some, length}
use Rattle.std.proofs.lemmas.List.{append_assoc}
use Rattle.mg_base.specs.Disk.{Meaning}
use Rattle.mg_base.specs.Image.{Image}
use Rattle.mg_base.specs.declared.numbers.RecId.{RecId}
use Rattle.mg_core.specs.declared.parts.Core.{Core}
use Rattle.mg_image.specs.Form.{Row}
use Rattle.mg_model.specs.declared.table.Table.{Table}
use Rattle.mg_pool.specs.Fault.{StaysOnline}
use Rattle.mg_pool.specs.Pool.{shown}
use Rattle.mg_pool.specs.declared.pool.Pool.{Pool}
use Rattle.mg_records.specs.Room.{most_indexes}
use Rattle.mg_space.specs.View.{KeepsStore, Tells}
use Rattle.mg_space.specs.declared.links.FireLinks.{FireLinks}
use Rattle.mg_taking_back.specs.Changes.{table_back}
use Rattle.mg_taking_back.specs.Keys.{IsOwnAt}
use Rattle.mg_taking_back.specs.Taking.{TakesChanges}
use Rattle.mg_txlist.specs.TxList.{said}
use Rattle.mg_undo.specs.declared.changes.Change.{Change}
use Rattle.mg_no_damage_laws.specs.EntryCalls.{TreesStandAlong}

-- So it is of a change, once its record was found and pages were read.
pub record StandsBack {D : Type 0} (m : Meaning D) (core : Core D) (t : ℕ) (c : Change) : Type 0 where
  pub few : (table : Table) → table_back core.catalog core.works t c.table ≡ Some table
      → length table.indexes ≤ most_indexes
  pub trees : (table : Table) → table_back core.catalog core.works t c.table ≡ Some table → (rec : RecId)
      (ready : Pool D FireLinks) → KeepsStore m core.store ready → StaysOnline m core.store ready
      → ((image : Image) → Tells m core.store.disk image
      → IsOwnAt (said core.list) core.live t (shown core.store.dirty image) table c.key rec)
      → (row : Row) → TreesStandAlong m ready table.indexes rec row

-- so it is of each of some changes, behind those before it
abbrev pub StandAll : {D : Type 0} → Meaning D → ℕ → Core D → List Change → Type 0
StandAll {D} m t old given = (front later : List Change) (c : Change) (mid : Core D) → given ≡ front ++ (c ∷ later)
    → TakesChanges m t old front mid → StandsBack m mid t c

-- and so of the first ones of them
pub front_stands : {D : Type 0} (m : Meaning D) (t : ℕ) (old : Core D) (given more : List Change)
    → StandAll m t old (given ++ more) → StandAll m t old given
front_stands m t old given more all front later c mid parts takes = all front (later ++ more) c mid
    (ap (λ (xs : List Change). xs ++ more) parts ∙ append_assoc front (c ∷ later) more) takes
