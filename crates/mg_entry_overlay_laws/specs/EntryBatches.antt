-- A batch that lays index entries: which pages it changes, and what becomes of the trees of tables.
use Rattle.std.specs.Prelude.{◌≡◌, ◌⊎◌, ◌<◌, ℕ, true, false, List, [], ◌∷◌, length, Option}
use Rattle.mg_base.specs.Fields.{byte}
use Rattle.mg_base.specs.declared.geometry.TheConstants.{GREATEST_LIMIT}
use Rattle.mg_base.specs.declared.transaction.TxState.{TxState}
use Rattle.mg_careful.specs.Precedence.{Orders}
use Rattle.mg_model.specs.declared.table.Index.{Index}
use Rattle.mg_image.specs.Form.{Form, Pages}
use Rattle.mg_image.specs.Inventory.{inventory_page, is_used}
use Rattle.mg_image.specs.Records.{Reading}
use Rattle.mg_image.specs.Sound.{HasInventory, IsSoundBy}
use Rattle.mg_image.specs.Tables.{IsOnce, Layout, Stand, stands_of}
use Rattle.mg_tree_overlay_laws.specs.TreeBatches.{Add, ChangesTree, EntryChange, Remove, Stay}
use Rattle.mg_entry_overlay_laws.specs.Retreed.{Trees, retreed, trees_pages}

-- ---- the trees of tables

-- a change that leaves all entries that there were
abbrev pub LeavesAll : EntryChange → Type 0
LeavesAll (Add e) = Unit {0}
LeavesAll (Remove e) = ⊥
LeavesAll Stay = Unit {0}

-- A tree changes by a row of steps, and all its entries stay.
pub record TreeChanges (size : ℕ) (batch : ℕ → Option (List ℕ)) (orders : Orders) (pool changed : Pages)
    (owner root : ℕ) (levels ends : List (List ℕ)) : Type 0 where
  pub change : EntryChange
  pub all : LeavesAll change
  pub row : ChangesTree size owner root batch orders change pool levels changed ends

-- so does each tree of a table
abbrev pub TreesChange : ℕ → (ℕ → Option (List ℕ)) → Orders → Pages → Pages → ℕ → List Index → Trees → Trees → Type 0
TreesChange size batch orders pool changed owner [] [] [] = Unit {0}
TreesChange size batch orders pool changed owner [] [] (e ∷ es) = ⊥
TreesChange size batch orders pool changed owner [] (l ∷ ls) es = ⊥
TreesChange size batch orders pool changed owner (i ∷ is) [] es = ⊥
TreesChange size batch orders pool changed owner (i ∷ is) (l ∷ ls) [] = ⊥
TreesChange size batch orders pool changed owner (i ∷ is) (l ∷ ls) (e ∷ es) =
    TreeChanges size batch orders pool changed owner i.root.0 l e
    × TreesChange size batch orders pool changed owner is ls es

-- and those of each table
abbrev pub StandsChange : ℕ → (ℕ → Option (List ℕ)) → Orders → Pages → Pages → List Stand → List Trees → Type 0
StandsChange size batch orders pool changed [] ends = Unit {0}
StandsChange size batch orders pool changed (s ∷ ss) [] = ⊥
StandsChange size batch orders pool changed (s ∷ ss) (t ∷ ts) =
    TreesChange size batch orders pool changed s.table.pointer.0 s.table.indexes s.trees t
    × StandsChange size batch orders pool changed ss ts

-- ---- the batch

-- a page of the page inventory
abbrev pub IsRegionPage : ℕ → ℕ → Type 0
IsRegionPage size n = (region : ℕ) × (n ≡ inventory_page size region) × (inventory_page size region < GREATEST_LIMIT)

-- a page of the page inventory, an index page, or a page that is not used
abbrev pub IsEntryPlace : ℕ → Pages → ℕ → Type 0
IsEntryPlace size pool n = IsRegionPage size n ⊎ (byte (pool n) 0 ≡ 7) ⊎ (is_used size pool n ≡ false)

-- The trees of the tables of a layout after a batch: no page stands twice in them.
pub record EntriesOf (size : ℕ) (batch : ℕ → Option (List ℕ)) (orders : Orders) (pool changed : Pages) (a : Layout)
    : Type 0 where
  pub first : Trees
  pub ends : List Trees
  pub rows : StandsChange size batch orders pool changed (stands_of a) (first ∷ ends)
  pub once : IsOnce (trees_pages (stands_of (retreed a first ends)))

-- A batch lays entries: it changes index pages, pages that were not used and pages of the page inventory alone, and the
-- trees of each layout by rows of steps that leave their entries; what was used is used still.
pub record LaysEntries (form : Form) (size : ℕ) (state : ℕ → TxState) (pool changed : Pages)
    (batch : ℕ → Option (List ℕ)) (orders : Orders) : Type 0 where
  pub only : (n : ℕ) → (changed n ≡ pool n) ⊎ IsEntryPlace size pool n
  pub used : (m : ℕ) → is_used size pool m ≡ true → is_used size changed m ≡ true
  pub lengths : (m : ℕ) → length (changed m) ≡ length (pool m)
  pub inventory : HasInventory size changed
  pub trees : (a : Layout) (r : Reading) → IsSoundBy form size state pool a r
      → EntriesOf size batch orders pool changed a
