-- An insertion into an index lays entries, whatever the layout of the image.
use Rattle.std.proofs.Common.{◌≡◌, ◌⊎◌, inl, inr, refl, ◌∙◌, ap, sym, subst, arith, ℕ, Bool, false, List, [], ◌∷◌, ◌++◌, Option}
use Rattle.std.specs.List.{flat_map}
use Rattle.mg_base.specs.Fields.{byte}
use Rattle.mg_base.specs.declared.geometry.Geometry.{Geometry}
use Rattle.mg_btree.specs.Inserting.{PutsAndTakes}
use Rattle.mg_image.specs.Indexes.{IsTree}
use Rattle.mg_node.specs.declared.entry.Entry.{Entry}
use Rattle.mg_space.specs.Taking.{IsGeometry}
use Rattle.mg_careful.specs.Precedence.{Orders}
use Rattle.mg_model.specs.declared.table.Table.{Table}
use Rattle.mg_pip.specs.PipPage.{pip_checks}
use Rattle.mg_pointer.specs.PointerPage.{next_in}
use Rattle.mg_pool.specs.Batch.{Changed, content_in, lists}
use Rattle.mg_image.specs.Form.{Form, Pages}
use Rattle.mg_image.specs.Inventory.{inventory_page, is_used}
use Rattle.mg_image.specs.Reached.{tips_of}
use Rattle.mg_image.specs.Records.{Reading}
use Rattle.mg_image.specs.Sound.{HasInventory, HasRegion, HasTablePages, IsSoundBy}
use Rattle.mg_image.specs.Tables.{EachStand, Has, IsOnce, Layout, LinkChain, PointerChain, Stand, ended, goes, pages_of, stands_of}
use Rattle.mg_image_overlay_laws.specs.pages.DataPages.{all_passes, byte_blank, kind_of}
use Rattle.mg_image_overlay_laws.specs.tables.Growing.{IsTableOf}
use Rattle.mg_image_overlay_laws.specs.pages.Growth.{has_back, has_front}
use Rattle.mg_image_overlay_laws.specs.kept.KeptImages.{all_trees}
use Rattle.mg_image_overlay_laws.specs.pages.Kinds.{HasNoSequences, pointers_of}
use Rattle.mg_image_overlay_laws.specs.names.NotThere.{IsNotThere, IsOutOf}
use Rattle.mg_image_overlay_laws.specs.pages.Reach.{once_back, once_front}
use Rattle.mg_image_overlay_laws.specs.pages.Trees.{seven}
use Rattle.mg_overlay_laws.specs.Overlays.{left_state}
use Rattle.mg_space.specs.TakingLaws.{bits_some}
use Rattle.mg_tree_overlay_laws.specs.GrowParts.{root_in}
use Rattle.mg_tree_overlay_laws.specs.TreeBatches.{Add}
use Rattle.mg_tree_overlay_laws.specs.TreeOnceLaws.{in_levels}
use Rattle.mg_tree_overlay_laws.specs.TreeSteps.{InTree}
use Rattle.mg_btree.specs.TakeLaws.{no_true}
use Rattle.mg_entry_overlay_laws.specs.EntriesKeptLaws.{entries_keep}
use Rattle.mg_entry_overlay_laws.specs.EntryBatches.{EntriesOf, IsEntryPlace, IsRegionPage, StandsChange}
use Rattle.mg_entry_overlay_laws.specs.GrownOnceLaws.{tables_once}
use Rattle.mg_entry_overlay_laws.specs.Retreed.{Trees, retree, trees_pages}
use Rattle.mg_entry_overlay_laws.specs.RetreedLaws.{as_retreed, first_of, rest_of, retree_self}
use Rattle.mg_entry_overlay_laws.specs.StandsOnceLaws.{trees_once}
use Rattle.mg_entry_tie_laws.specs.IndexPlaces.{HasIndex, HasNoTable, HasRoot}
use Rattle.mg_entry_tie_laws.specs.Laws.{InsertionsKeep, InsertionsLay, TablesHaveIndexes}
use Rattle.mg_entry_tie_laws.specs.PageLaws.{LeavesPages, change_leaves, leaves_all, leaves_both, taking_leaves}
use Rattle.mg_entry_tie_laws.specs.RowLaws.{across_row}
use Rattle.mg_entry_tie_laws.specs.StandLaws.{StandsChanged, no_table, stands_change, stands_stay, stands_used}

-- ---- a layout's trees

-- one list of trees for each table, the catalog's first
as_first : (size : ℕ) (batch : ℕ → Option (List ℕ)) (orders : Orders) (old new : Pages) (layout : Layout)
    (ts : List Trees) → StandsChange size batch orders old new (stands_of layout) ts
    → StandsChange size batch orders old new (stands_of layout) (first_of ts ∷ rest_of ts)
as_first size batch orders old new layout [] rows = absurd rows
as_first size batch orders old new layout (t ∷ ts) rows = rows

entries_of : (size : ℕ) (batch : ℕ → Option (List ℕ)) (orders : Orders) (old new : Pages) (layout : Layout)
    (ts : List Trees) → StandsChange size batch orders old new (stands_of layout) ts
    → IsOnce (trees_pages (retree (stands_of layout) ts)) → EntriesOf size batch orders old new layout
entries_of size batch orders old new layout ts rows once = record {
  first = first_of ts;
  ends = rest_of ts;
  rows = as_first size batch orders old new layout ts rows;
  once = subst (λ (ss : List Stand). IsOnce (trees_pages ss)) (sym (as_retreed layout ts)) once;
}

-- no page of the page inventory is an index page by its kind
no_region : (size : ℕ) (pages : Pages) (n : ℕ) → HasInventory size pages → byte (pages n) 0 ≡ 7 → IsRegionPage size n → ⊥
no_region size pages n inventory is (region, same, below) = at (inventory region below)
  where
    at : HasRegion size pages (inventory_page size region) region → ⊥
    at (inl empty) =
        let zero_ : byte (pages n) 0 ≡ 0 = ap (λ (k : ℕ). byte (pages k) 0) same
        ∙ (ap (λ (page : List ℕ). byte page 0) empty ∙ byte_blank size) in
        omega (arith, zero_, is)
    at (inr wanted) =
        let two : byte (pages n) 0 ≡ 2 = ap (λ (k : ℕ). byte (pages k) 0) same
        ∙ kind_of (pages (inventory_page size region)) (inventory_page size region) 2 0 region []
        (all_passes (pip_checks (pages (inventory_page size region)) (inventory_page size region) region)
        wanted.fields) in
        omega (arith, two, is)

-- ---- so

-- what an insertion leaves of the pages
pub insertion_leaves : (g : Geometry) (old new : Pages) (earlier batch : Changed) (owner root : ℕ)
    (levels : List (List ℕ)) (e : Entry) → IsGeometry g → IsTree g.size old owner root levels
    → (is : PutsAndTakes g old new earlier batch owner root levels e) → LeavesPages g.size is.puts.ends old new
insertion_leaves g old new earlier batch owner root levels e lawful tree is = across_row g is.puts.ends
    (LeavesPages g.size is.puts.ends) (leaves_all g lawful is.puts.ends) (leaves_both g lawful is.puts.ends)
    (change_leaves g lawful is.puts.ends) (taking_leaves g lawful is.puts.ends) owner root (content_in batch.pages)
    (lists batch.orders) (Add e) (is.puts.wider root (root_in g.size old owner root levels tree.rooted tree)) old new
    levels is.puts.ends is.puts.row [] is.takes is.puts.wider (λ n none. absurd none)

pub insertions_lay : (form : Form) → InsertionsLay form
insertions_lay form g state old new earlier batch owner root levels e lawful tree is put whole inventory index = record {
  only = λ n. at n (leaves.only n);
  used = leaves.used;
  lengths = λ m. leaves.whole whole m ∙ sym (whole m);
  inventory = leaves.inventory inventory;
  trees = λ layout r sound. entries layout r sound (index layout r sound);
}
  where
    leaves : LeavesPages g.size is.puts.ends old new
    leaves = insertion_leaves g old new earlier batch owner root levels e lawful tree is

    at : (n : ℕ) → (new n ≡ old n) ⊎ (InTree is.puts.ends n ⊎ IsRegionPage g.size n)
        → (new n ≡ old n) ⊎ IsEntryPlace g.size old n
    at n (inl same) = inl same
    at n (inr (inr region)) = inr (inl region)
    at n (inr (inl placed)) = by (is.puts.fresh n placed)
      where
        by : InTree levels n ⊎ (is_used g.size old n ≡ false) → (new n ≡ old n) ⊎ IsEntryPlace g.size old n
        by (inl was) = inr (inr (inl (seven g.size old old owner (λ m is_. is_) levels tree.nodes n
            (in_levels levels n was))))
        by (inr unused) = inr (inr (inr unused))

    -- an index page that is none of the tree stays
    stays : (n : ℕ) → byte (old n) 0 ≡ 7 → (InTree is.puts.ends n → ⊥) → new n ≡ old n
    stays n kind out = by (leaves.only n)
      where
        by : (new n ≡ old n) ⊎ (InTree is.puts.ends n ⊎ IsRegionPage g.size n) → new n ≡ old n
        by (inl same) = same
        by (inr (inl placed)) = absurd (out placed)
        by (inr (inr region)) = absurd (no_region g.size old n inventory kind region)

    entries : (layout : Layout) (r : Reading) → IsSoundBy form g.size state old layout r
        → HasIndex (stands_of layout) owner root ⊎ HasNoTable (stands_of layout) owner
        → EntriesOf g.size (content_in batch.pages) (lists batch.orders) old new layout
    entries layout r sound which = by which
      where
        once : IsOnce (trees_pages (stands_of layout))
        once = trees_once (stands_of layout) (once_back (tips_of g.size old) (flat_map pages_of (stands_of layout))
            (once_front (tips_of g.size old ++ flat_map pages_of (stands_of layout)) layout.sequences sound.once))

        changed : StandsChanged g.size old new earlier batch owner root levels e tree is.puts put stays (stands_of layout)
            → EntriesOf g.size (content_in batch.pages) (lists batch.orders) old new layout
        changed it = entries_of g.size (content_in batch.pages) (lists batch.orders) old new layout it.now it.rows
            (tables_once (stands_of layout) (retree (stands_of layout) it.now) (λ n. is_used g.size old n ≡ false) once
            it.grows it.each (λ m has unused. no_true (is_used g.size old m) unused
            (stands_used form.in_primary g.size old (stands_of layout) sound.tables m has)))

        by : HasIndex (stands_of layout) owner root ⊎ HasNoTable (stands_of layout) owner
            → EntriesOf g.size (content_in batch.pages) (lists batch.orders) old new layout
        by (inl has) = changed (stands_change g.size old new earlier batch owner root levels e tree is.puts put stays
            form.in_primary (stands_of layout) sound.tables once has)
        by (inr none) = entries_of g.size (content_in batch.pages) (lists batch.orders) old new layout
            (all_trees (stands_of layout))
            (stands_stay g.size old new earlier batch owner root levels e tree is.puts put stays form.in_primary
            (stands_of layout) sound.tables (no_table g.size old new earlier batch owner root levels e tree is.puts put
            stays form.in_primary (stands_of layout) sound.tables none))
            (subst (λ (ss : List Stand). IsOnce (trees_pages ss)) (sym (retree_self (stands_of layout))) once)

-- and so keeps every overlay
pub insertions_keep : (form : Form) → HasNoSequences form → InsertionsKeep form
insertions_keep form none g o h state old new earlier batch owner root levels e lawful tree is put whole inventory index =
    entries_keep form none g.size o h state old new (content_in batch.pages) (lists batch.orders)
    (let some = bits_some g.size lawful.size in omega (arith, some))
    (λ chosen. insertions_lay form g (left_state chosen state) old new earlier batch owner root levels e lawful tree is put
    whole inventory (index chosen))

-- ---- the indexes of a table

its_index : (table : Table) (root : ℕ) (before after : List Stand) (stand : Stand) → stand.table ≡ table
    → HasRoot table.indexes root → HasIndex (before ++ (stand ∷ after)) table.pointer.0 root
its_index table root [] after stand same has = inl (
  ap (λ (t : Table). t.pointer.0) same,
  subst (λ (t : Table). HasRoot t.indexes root) (sym same) has,
)
its_index table root (first ∷ before) after stand same has = inr (its_index table root before after stand same has)

-- a chain from a page on has that page
chain_has : (next : ℕ → ℕ) (first : ℕ) (ns : List ℕ) → LinkChain next first ns → (first ≡ 0 → ⊥) → Has ns first
chain_has next first ns ended some = absurd (some refl)
chain_has next first ns (goes n ms other more) some = inl refl

module _ (in_primary : Bool) (size : ℕ) (pages : Pages) (layout : Layout) (first : ℕ)
    (out : IsOutOf pages layout first) where
  -- a layout that has none of a table's pages has no such table
  none_there : (ss : List Stand) → EachStand (HasTablePages in_primary size pages) ss
      → ((m : ℕ) → Has (pointers_of ss) m → Has (pointers_of (stands_of layout)) m) → HasNoTable ss first
  none_there [] has_ within = tt
  none_there (s ∷ ss) has_ within = (
    (λ same. out.pointers s.pointers (subst (λ (n : ℕ). PointerChain pages n s.pointers) same has_.0.chain)
        first (here same) (within first (has_front s.pointers (pointers_of ss) first (here same)))),
    none_there ss has_.1 (λ m there. within m (has_back s.pointers (pointers_of ss) m there)),
  )
    where
      here : s.table.pointer.0 ≡ first → Has s.pointers first
      here same = subst (Has s.pointers) same (chain_has (λ n. next_in (pages n)) s.table.pointer.0 s.pointers has_.0.chain
          has_.0.first)

pub tables_have_indexes : (form : Form) → TablesHaveIndexes form
tables_have_indexes form size by state pages table root whose has chosen layout r sound = at (whose chosen layout r sound)
  where
    at : IsTableOf layout table ⊎ IsNotThere by (left_state chosen state) pages layout table
        → HasIndex (stands_of layout) table.pointer.0 root ⊎ HasNoTable (stands_of layout) table.pointer.0
    at (inl its) = inl (subst (λ (ss : List Stand). HasIndex ss table.pointer.0 root) (sym its.is_)
        (its_index table root its.before its.after its.stand its.table_is has))
    at (inr unmade) = inr (none_there form.in_primary size pages layout table.pointer.0 unmade.out (stands_of layout)
        sound.tables (λ m there. there))
