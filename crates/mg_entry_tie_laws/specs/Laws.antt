-- The laws: an insertion into an index is a batch of entries, and takes few pages. The other files prove them.
use Rattle.std.specs.Prelude.{◌≡◌, ◌+◌, ℕ, Bool, List, [], Some, length}
use Rattle.mg_base.specs.declared.damage.Damaged.{Damaged}
use Rattle.mg_base.specs.declared.geometry.Geometry.{Geometry}
use Rattle.mg_base.specs.declared.transaction.TxState.{TxState}
use Rattle.mg_model.specs.declared.table.Table.{Table}
use Rattle.mg_node.specs.declared.entry.Entry.{Entry}
use Rattle.mg_node.specs.NodePage.{level_in}
use Rattle.mg_model.specs.History.{Entries}
use Rattle.mg_model.specs.declared.opening.Opening.{Opening}
use Rattle.mg_overlay_laws.specs.Overlays.{KeepsLaidAlways, left_state}
use Rattle.mg_pool.specs.Batch.{Changed, IsLawful, content_in, lists}
use Rattle.mg_image.specs.Form.{Form, Pages}
use Rattle.mg_image.specs.Indexes.{IsTree}
use Rattle.mg_image.specs.Sound.{HasInventory}
use Rattle.mg_image_overlay_laws.specs.kept.KeptImages.{keeping}
use Rattle.mg_image_overlay_laws.specs.names.Whose.{IsTableFor}
use Rattle.mg_space.specs.FreePages.{HasRegions}
use Rattle.mg_space.specs.Taking.{IsGeometry, RefusesTake}
use Rattle.mg_space.specs.declared.fault.SpaceFault.{SpaceFault}
use Rattle.mg_space.specs.declared.fault.SpaceFault.TheVariants as faults
use Rattle.mg_btree.specs.Inserting.{PutsAndTakes, RefusesInsert}
use Rattle.mg_free_page_laws.specs.FreePages.{IsNotFull, TakesAtMost}
use Rattle.mg_index_overlay_laws.specs.IndexBatches.{PutsChanges}
use Rattle.mg_entry_overlay_laws.specs.EntryBatches.{LaysEntries}
use Rattle.mg_entry_tie_laws.specs.IndexPlaces.{HasRoot, IsIndexFor}

-- An insertion into an index, as mg_btree makes it, lays entries: of each layout of the image the trees change by rows
-- of steps, the index by the entry that is added, the others not at all.
abbrev pub InsertionsLay : Form → Type 0
InsertionsLay form = (g : Geometry) (state : ℕ → TxState) (old new : Pages) (earlier batch : Changed)
    (owner root : ℕ) (levels : List (List ℕ)) (e : Entry) → IsGeometry g
    → IsTree g.size old owner root levels → PutsAndTakes g old new earlier batch owner root levels e
    → PutsChanges (content_in batch.pages) old new → ((m : ℕ) → length (old m) ≡ g.size)
    → HasInventory g.size old → IsIndexFor form g.size state old owner root
    → LaysEntries form g.size state old new (content_in batch.pages) (lists batch.orders)

-- So it keeps every overlay, whoever counts as what, where under each choice the index is one for each layout.
abbrev pub InsertionsKeep : Form → Type 0
InsertionsKeep form = (g : Geometry) (o : Opening) (h : Entries) (state : ℕ → TxState) (old new : Pages)
    (earlier batch : Changed) (owner root : ℕ) (levels : List (List ℕ)) (e : Entry) → IsGeometry g
    → IsTree g.size old owner root levels → PutsAndTakes g old new earlier batch owner root levels e
    → PutsChanges (content_in batch.pages) old new → ((m : ℕ) → length (old m) ≡ g.size)
    → HasInventory g.size old
    → ((chosen : ℕ → Bool) → IsIndexFor form g.size (left_state chosen state) old owner root)
    → KeepsLaidAlways (keeping form g.size o h) (keeping form g.size o h) state old new (content_in batch.pages)
    (lists batch.orders)

-- an index of a table that stands in each layout, or was made by one that counts as dead, is one for each
abbrev pub TablesHaveIndexes : Form → Type 0
TablesHaveIndexes form = (size by : ℕ) (state : ℕ → TxState) (pages : Pages) (table : Table) (root : ℕ)
    → IsTableFor form size by state pages table → HasRoot table.indexes root → (chosen : ℕ → Bool)
    → IsIndexFor form size (left_state chosen state) pages table.pointer.0 root

-- an insertion takes at most a page for each level of the tree below the root's, and two for the root
abbrev pub InsertionsTakeFew : Type 0
InsertionsTakeFew = (g : Geometry) (old new : Pages) (earlier batch : Changed) (owner root : ℕ)
    (levels : List (List ℕ)) (e : Entry) → IsGeometry g → IsTree g.size old owner root levels
    → PutsAndTakes g old new earlier batch owner root levels e → TakesAtMost g old new (level_in (old root) + 2)

-- so at most 18 pages are free before it that are not afterwards
abbrev pub InsertionsTakeEighteen : Type 0
InsertionsTakeEighteen = (g : Geometry) (old new : Pages) (earlier batch : Changed) (owner root : ℕ)
    (levels : List (List ℕ)) (e : Entry) → IsGeometry g → IsTree g.size old owner root levels
    → PutsAndTakes g old new earlier batch owner root levels e → TakesAtMost g old new 18

-- ---- nothing but want of pages or of memory keeps an entry from an index

-- a batch that has nothing
abbrev pub no_batch : Changed
no_batch = record { pages = []; orders = [] }

-- the batch of an insertion is lawful: it is small enough, since no tree is high, and its orders lead up the tree
abbrev pub InsertionsAreLawful : Type 0
InsertionsAreLawful = (g : Geometry) (old new : Pages) (batch : Changed) (owner root : ℕ) (levels : List (List ℕ))
    (e : Entry) → IsGeometry g → IsTree g.size old owner root levels
    → PutsAndTakes g old new no_batch batch owner root levels e
    → ((n : ℕ) (bytes : List ℕ) → content_in batch.pages n ≡ Some bytes → new n ≡ bytes)
    → ((m : ℕ) → length (old m) ≡ g.size) → IsLawful g.size batch.pages batch.orders

-- an insertion is refused for want of pages nowhere, where eighteen are free
abbrev pub InsertionsAreThere : Type 0
InsertionsAreThere = (g : Geometry) (old : Pages) (owner root : ℕ) (levels : List (List ℕ)) (e : Entry)
    (fault : SpaceFault) → IsTree g.size old owner root levels → IsGeometry g
    → RefusesInsert g old root levels e fault → IsNotFull g old 18 fault

-- and it meets no damage where the page inventory has none, since no root stands on the highest level that there is
abbrev pub InsertionsMeetNone : Type 0
InsertionsMeetNone = (g : Geometry) (old : Pages) (owner root : ℕ) (levels : List (List ℕ)) (e : Entry) (it : Damaged)
    → IsTree g.size old owner root levels → IsGeometry g → HasRegions g old
    → ((mid : Pages) → HasRegions g mid → RefusesTake g mid (faults.Damaged it) → ⊥)
    → RefusesInsert g old root levels e (faults.Damaged it) → ⊥
