-- What the batch of an entry leaves of a sound image, and that it keeps every overlay, whatever the history is.
use Rattle.std.proofs.Common.{inl, inr, sym, ap, subst, ℕ, List, [], ◌∷◌, Option}
use Rattle.std.specs.Prelude.{unwrap_or}
use Rattle.mg_base.specs.Disk.{Meaning}
use Rattle.mg_base.specs.Image.{Image}
use Rattle.mg_base.specs.declared.transaction.TxState.{TxState}
use Rattle.mg_btree.specs.Changing.{HasNoInventory}
use Rattle.mg_btree.specs.Inserting.{PutsAndTakes}
use Rattle.mg_engine_step_laws.specs.writes.Knowing.{WasChanged}
use Rattle.mg_engine_step_laws.specs.standing.Standing.{Standing}
use Rattle.mg_entries.specs.Entries.{PutsEntry}
use Rattle.mg_entry_overlay_laws.specs.Entered.{ShowsEntries}
use Rattle.mg_entry_overlay_laws.specs.EntryBatches.{LaysEntries}
use Rattle.mg_entry_overlay_laws.specs.Laws.{EntriesShow}
use Rattle.mg_entry_tie_laws.specs.IndexPlaces.{HasRoot}
use Rattle.mg_entry_tie_laws.specs.Laws.{InsertionsKeep, InsertionsLay, TablesHaveIndexes}
use Rattle.mg_image.specs.Form.{Form, Pages}
use Rattle.mg_image.specs.Indexes.{AreTrees, Finds, IsTree}
use Rattle.mg_image.specs.Records.{Reading}
use Rattle.mg_image.specs.Sound.{HasTablePages, IsSoundBy}
use Rattle.mg_image.specs.Tables.{EachStand, Layout, Stand}
use Rattle.mg_image_overlay_laws.specs.pages.Grow.{each_mid}
use Rattle.mg_image_overlay_laws.specs.tables.Growing.{IsTableOf}
use Rattle.mg_image_overlay_laws.specs.kept.KeptImages.{keeping}
use Rattle.mg_image_overlay_laws.specs.names.Whose.{IsTableFor}
use Rattle.mg_index_overlay_laws.specs.IndexBatches.{PutsChanges}
use Rattle.mg_index_overlay_laws.specs.SoundLaws.{tree_inventory}
use Rattle.mg_model.specs.History.{Entries}
use Rattle.mg_model.specs.Openings.{everyone}
use Rattle.mg_model.specs.declared.opening.Opening.{Opening}
use Rattle.mg_model.specs.declared.table.Index.{Index}
use Rattle.mg_model.specs.declared.table.Table.{Table}
use Rattle.mg_node.specs.declared.entry.Entry.{Entry}
use Rattle.mg_overlay_laws.specs.BatchLaws.{change_keeps_always}
use Rattle.mg_overlay_laws.specs.Overlays.{KeepsLaidAlways, left_state}
use Rattle.mg_pool.specs.Batch.{Changed, content_in, lists}
use Rattle.mg_pool.specs.Pool.{shown}
use Rattle.mg_pool.specs.declared.pool.Pool.{Pool}
use Rattle.mg_pool_overlay_laws.specs.Needs.{Asked, Sessions}
use Rattle.mg_space.specs.View.{viewed}
use Rattle.mg_tie_laws.specs.Changed.{BatchIsChanged, KeptIn, cache_over, changed_fresh, fresh, needs_in}

-- ---- the tree of an index

-- The tree of an index that has this root.
pub record HasTree (size : ℕ) (pages : Pages) (owner root : ℕ) : Type 0 where
  pub levels : List (List ℕ)
  pub tree : IsTree size pages owner root levels

pub tree_at : (size : ℕ) (pages : Pages) (owner : ℕ) (indexes : List Index) (trees : List (List (List ℕ))) (root : ℕ)
    → AreTrees size pages owner indexes trees → HasRoot indexes root → HasTree size pages owner root
tree_at size pages owner [] trees root are has = absurd has
tree_at size pages owner (i ∷ is) [] root are has = absurd are
tree_at size pages owner (i ∷ is) (l ∷ ls) root are (inl same) =
    record { levels = l; tree = subst (λ (n : ℕ). IsTree size pages owner n l) same are.0 }
tree_at size pages owner (i ∷ is) (l ∷ ls) root are (inr more) = tree_at size pages owner is ls root are.1 more

-- a table of a layout by which an image is sound has a tree for each of its indexes
pub table_tree : (form : Form) (size : ℕ) (state : ℕ → TxState) (pages : Pages) (a : Layout) (r : Reading)
    → IsSoundBy form size state pages a r → (table : Table) → IsTableOf a table → (root : ℕ)
    → HasRoot table.indexes root → HasTree size pages table.pointer.0 root
table_tree form size state pages a r sound table its root has = subst (λ (x : Table). HasRoot x.indexes root
    → HasTree size pages x.pointer.0 root) its.table_is (λ there. tree_at size pages its.stand.table.pointer.0
    its.stand.table.indexes its.stand.trees root its_pages.trees there) has
  where
    its_pages : HasTablePages form.in_primary size pages its.stand
    its_pages = each_mid (HasTablePages form.in_primary size pages) its.before its.after its.stand
        (subst (λ (ss : List Stand). EachStand (HasTablePages form.in_primary size pages) ss) its.is_ sound.tables)

-- ---- the batch

module _ (form : Form) (lay : InsertionsLay form) (keep : InsertionsKeep form) (indexes : TablesHaveIndexes form)
    (show : EntriesShow form) {D L : Type 0} (m : Meaning D) (s : Standing) (before after : Pool D L) (i j : Image)
    (batch : Changed) (asked : Asked) (session : Sessions) (a : Layout) (r : Reading)
    (sound : IsSoundBy form before.geometry.size (left_state everyone s.state) (shown before.dirty i) a r) (t : ℕ)
    (table : Table) (root : ℕ) (e : Entry) (was : WasChanged m before after i j batch)
    (puts : PutsEntry before i fresh batch root e) (its : IsTableOf a table) (has : HasRoot table.indexes root)
    (whose : IsTableFor form before.geometry.size t s.state (shown before.dirty i) table) where
  abbrev size : ℕ
  size = before.geometry.size

  abbrev pool : Pages
  pool = shown before.dirty i

  abbrev state : ℕ → TxState
  state = left_state everyone s.state

  it : BatchIsChanged before after i j batch asked session
  it = changed_fresh m before after i j batch asked session was.changes

  -- ---- the insertion

  its_tree : HasTree size pool table.pointer.0 root
  its_tree = table_tree form size state pool a r sound table its root has

  no_inventory : HasNoInventory size its_tree.levels
  no_inventory = tree_inventory size pool
      (record { owner = table.pointer.0; root = root; levels = its_tree.levels }) sound.inventory its_tree.tree

  taken : PutsAndTakes before.geometry pool (viewed before i batch) fresh batch table.pointer.0 root its_tree.levels e
  taken = puts table.pointer.0 its_tree.levels its_tree.tree no_inventory

  put : PutsChanges (content_in batch.pages) pool (viewed before i batch)
  put n none_ = ap (λ (x : Option (List ℕ)). unwrap_or x (pool n)) none_

  -- ---- what it leaves of the pages

  lays : LaysEntries form size state pool (viewed before i batch) (content_in batch.pages) (lists batch.orders)
  lays = lay before.geometry state pool (viewed before i batch) fresh batch table.pointer.0 root its_tree.levels e
      was.changes.geometry its_tree.tree taken put sound.header.whole sound.inventory
      (indexes size t s.state pool table root whose has everyone)

  pub shows_entries : ShowsEntries form before.geometry.size (left_state everyone s.state) (shown before.dirty i)
      (shown after.dirty j) a r
  shows_entries = subst (λ (pages : Pages). ShowsEntries form size state pool pages a r) (sym it.pool)
      (show size state pool (viewed before i batch) (content_in batch.pages) (lists batch.orders) lays a r sound)

  pub has_now : Finds (shown after.dirty j) e root
  has_now = subst (λ (pages : Pages). Finds pages e root) (sym it.pool) taken.puts.has

  -- ---- every overlay

  module _ (o : Opening) (h : Entries) where
    always : KeepsLaidAlways (keeping form size o h) (keeping form size o h) s.state pool (shown after.dirty j)
        (content_in batch.pages) (lists batch.orders)
    always = subst (λ (pages : Pages). KeepsLaidAlways (keeping form size o h) (keeping form size o h) s.state pool
        pages (content_in batch.pages) (lists batch.orders)) (sym it.pool) (keep before.geometry o h s.state pool
        (viewed before i batch) fresh batch table.pointer.0 root its_tree.levels e was.changes.geometry its_tree.tree
        taken put sound.header.whole sound.inventory (indexes size t s.state pool table root whose has))

    pub kept_then : KeptIn form before.geometry.size o h s.state asked session before i
        → KeptIn form before.geometry.size o h s.state asked session after j
    kept_then kept = change_keeps_always (keeping form size o h) (keeping form size o h) s.state (cache_over before i)
        (cache_over after j) it.gone (content_in batch.pages) (lists batch.orders) (needs_in asked session before)
        (needs_in asked session after) it.changes it.left always kept
