-- The entries of a row are laid in the indexes of its table.
use Rattle.std.specs.Prelude.{◌≡◌, ◌≤◌, ◌/◌, ◌++◌, ℕ, List, [], ◌∷◌, length}
use Rattle.std.proofs.Common.{get_or}
use Rattle.mg_base.specs.Disk.{Meaning}
use Rattle.mg_base.specs.Image.{Image}
use Rattle.mg_base.specs.declared.geometry.Geometry.{Geometry}
use Rattle.mg_base.specs.declared.numbers.RecId.{RecId}
use Rattle.mg_image.specs.Form.{Pages, Row}
use Rattle.mg_image.specs.Indexes.{IsTree, index_entry}
use Rattle.mg_model.specs.declared.table.Index.{Index}
use Rattle.mg_node.specs.declared.entry.Entry.{Entry}
use Rattle.mg_pool.specs.Batch.{Changed}
use Rattle.mg_pool.specs.declared.pool.Pool.{Pool}
use Rattle.mg_space.specs.View.{viewed}
use Rattle.mg_space.specs.declared.fault.SpaceFault.{SpaceFault}
use Rattle.mg_space.specs.declared.fault.SpaceFault.TheVariants as faults
use Rattle.mg_space.specs.declared.links.FireLinks.{FireLinks}
use Rattle.mg_sortkey.specs.KeyBytes.{key_bytes}
use Rattle.mg_value.specs.declared.value.Value.{Value}
use Rattle.mg_value.specs.declared.value.Value.TheVariants.{Null}
use Rattle.mg_btree.specs.Changing.{HasNoInventory}
use Rattle.mg_btree.specs.Inserting.{PutsAndTakes, RefusesInsert}
use Rattle.mg_batches.specs.Batches.{ChangesOwn, FailsOwn, nothing_yet}

-- ---- keys

-- the value of a row in the column of an index, NULL where it has no such column
abbrev pub value_in : Index → Row → Value
value_in index row = get_or row index.column Null

-- its key has an eighth of a page at most
abbrev pub KeyFits : ℕ → Row → Index → Type 0
KeyFits size row index = length (key_bytes (value_in index row)) ≤ size / 8

-- so have its keys in each of these indexes
abbrev pub KeysFit : ℕ → Row → List Index → Type 0
KeysFit size row [] = Unit {0}
KeysFit size row (index ∷ indexes) = KeyFits size row index × KeysFit size row indexes

-- ---- one entry

-- a batch puts an entry into each tree that stands at a root
abbrev pub PutsEntry : {D L : Type 0} → Pool D L → Image → Changed → Changed → ℕ → Entry → Type 0
PutsEntry store image old batch root e = (owner : ℕ) (levels : List (List ℕ))
    → IsTree store.geometry.size (viewed store image old) owner root levels
    → HasNoInventory store.geometry.size levels
    → PutsAndTakes store.geometry (viewed store image old) (viewed store image batch) old batch owner root levels e

-- why it is not put there: a page that is needed is not taken, or the cache refuses
abbrev pub IsNotPut : Geometry → Pages → ℕ → List (List ℕ) → Entry → SpaceFault → Type 0
IsNotPut g pages root levels e (faults.Full limit) = RefusesInsert g pages root levels e (faults.Full limit)
IsNotPut g pages root levels e (faults.Damaged it) = RefusesInsert g pages root levels e (faults.Damaged it)
IsNotPut g pages root levels e (faults.Pool fault) = Unit {0}

abbrev pub RefusesEntry : {D L : Type 0} → Pool D L → Image → Changed → ℕ → Entry → SpaceFault → Type 0
RefusesEntry store image old root e fault = (owner : ℕ) (levels : List (List ℕ))
    → IsTree store.geometry.size (viewed store image old) owner root levels
    → HasNoInventory store.geometry.size levels
    → IsNotPut store.geometry (viewed store image old) root levels e fault

-- an entry is laid, or it is not
abbrev pub LaysEntry : {D : Type 0} → Meaning D → Pool D FireLinks → Pool D FireLinks → ℕ → Entry → Type 0
LaysEntry m before after root e =
    ChangesOwn m before after (λ image batch. PutsEntry before image nothing_yet batch root e)

abbrev pub FailsEntry : {D : Type 0} → Meaning D → Pool D FireLinks → Pool D FireLinks → ℕ → Entry → SpaceFault
    → Type 0
FailsEntry m before after root e fault =
    FailsOwn m before after (λ image batch. PutsEntry before image nothing_yet batch root e)
    (λ image f. RefusesEntry before image nothing_yet root e f) fault

-- ---- the entries of a row

-- the entries of a record's row are laid in these indexes, one after another
pub data LaysAll {D : Type 0} (m : Meaning D) : List Index → RecId → Row → Pool D FireLinks → Pool D FireLinks
    → Type 0 where
  no_index : (p : RecId) (row : Row) (store : Pool D FireLinks) → LaysAll m [] p row store store
  one_more : (indexes : List Index) (index : Index) (p : RecId) (row : Row) (before mid after : Pool D FireLinks)
      → LaysAll m indexes p row before mid → LaysEntry m mid after index.root.0 (index_entry index p row)
      → LaysAll m (indexes ++ index ∷ []) p row before after

-- The entries are laid in some of these indexes, and the rest are to come.
pub record IsLaying {D : Type 0} (m : Meaning D) (indexes rest : List Index) (p : RecId) (row : Row)
    (before now : Pool D FireLinks) : Type 0 where
  pub first : List Index
  pub parts : indexes ≡ first ++ rest
  pub laid : LaysAll m first p row before now

-- They are laid in the first of these indexes, and in the next one the entry is not.
pub record FailsAll {D : Type 0} (m : Meaning D) (indexes : List Index) (p : RecId) (row : Row)
    (before after : Pool D FireLinks) (fault : SpaceFault) : Type 0 where
  pub first : List Index
  pub index : Index
  pub later : List Index
  pub parts : indexes ≡ first ++ index ∷ later
  pub mid : Pool D FireLinks
  pub laid : LaysAll m first p row before mid
  pub refused : FailsEntry m mid after index.root.0 (index_entry index p row) fault
