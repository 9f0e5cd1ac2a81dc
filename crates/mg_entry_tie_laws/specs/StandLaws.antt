-- The trees of all tables across an insertion into one index: that one changes, and the others stay.
use Rattle.std.proofs.Common.{◌≡◌, ◌⊎◌, inl, inr, sym, subst, ◌∙◌, ℕ, Bool, true, false, List, [], ◌∷◌, ◌++◌}
use Rattle.mg_base.specs.Fields.{byte}
use Rattle.mg_model.specs.declared.table.Index.{Index}
use Rattle.mg_node.specs.declared.entry.Entry.{Entry}
use Rattle.mg_pool.specs.Batch.{Changed, content_in, lists}
use Rattle.mg_image.specs.Form.{Pages}
use Rattle.mg_image.specs.Indexes.{AreTrees, IsTree}
use Rattle.mg_image.specs.Inventory.{is_used}
use Rattle.mg_image.specs.Sound.{HasTablePages}
use Rattle.mg_image.specs.Tables.{EachStand, Has, IsOnce, Stand, tree_pages}
use Rattle.mg_image_overlay_laws.specs.pages.Growth.{has_back, has_either, has_front}
use Rattle.mg_image_overlay_laws.specs.kept.KeptImages.{all_trees}
use Rattle.mg_image_overlay_laws.specs.tables.OneChain.{one_tree}
use Rattle.mg_image_overlay_laws.specs.pages.Reach.{once_apart, once_back, once_front}
use Rattle.mg_image_overlay_laws.specs.tables.StandOwners.{IsOwned, of_nodes, stand_owned}
use Rattle.mg_image_overlay_laws.specs.pages.Trees.{seven}
use Rattle.mg_tree_overlay_laws.specs.TreeBatches.{Add, ChangesTree, Stay}
use Rattle.mg_tree_overlay_laws.specs.TreeOnceLaws.{has_placed, in_levels}
use Rattle.mg_tree_overlay_laws.specs.TreePages.{all_of}
use Rattle.mg_tree_overlay_laws.specs.TreeSteps.{InTree, StaysUsed}
use Rattle.mg_btree.specs.Inserting.{PutsIn}
use Rattle.mg_btree.specs.TakeLaws.{no_true, row_used}
use Rattle.mg_index_overlay_laws.specs.IndexBatches.{PutsChanges}
use Rattle.mg_index_overlay_laws.specs.PutLaws.{stays_row, stays_tree}
use Rattle.mg_entry_overlay_laws.specs.EntryBatches.{StandsChange, TreeChanges, TreesChange}
use Rattle.mg_entry_overlay_laws.specs.GrownOnceLaws.{EachOnce, OneGrows, StayWithin, grown_has, pages_in_trees, table_once}
use Rattle.mg_entry_overlay_laws.specs.Retreed.{Trees, retree, trees_pages}
use Rattle.mg_entry_tie_laws.specs.IndexPlaces.{HasIndex, HasNoTable, HasRoot}
use Rattle.mg_entry_tie_laws.specs.RowLaws.{node_used}

-- ---- pages of trees are used

pub trees_used : (size : ℕ) (pages : Pages) (owner : ℕ) (indexes : List Index) (trees : Trees)
    → AreTrees size pages owner indexes trees → (n : ℕ) → Has (tree_pages trees) n → is_used size pages n ≡ true
trees_used size pages owner [] [] are n has = absurd has
trees_used size pages owner [] (l ∷ ls) are n has = absurd are
trees_used size pages owner (i ∷ is) [] are n has = absurd has
trees_used size pages owner (i ∷ is) (l ∷ ls) are n has =
    at (has_either (all_of l) (tree_pages ls) n has) (trees_used size pages owner is ls are.1 n)
  where
    at : Has (all_of l) n ⊎ Has (tree_pages ls) n → (Has (tree_pages ls) n → is_used size pages n ≡ true)
        → is_used size pages n ≡ true
    at (inl here) more = node_used size pages owner l n are.0.nodes (has_placed l n here)
    at (inr later) more = more later

pub stands_used : (in_primary : Bool) (size : ℕ) (pages : Pages) (ss : List Stand)
    → EachStand (HasTablePages in_primary size pages) ss → (n : ℕ) → Has (trees_pages ss) n
    → is_used size pages n ≡ true
stands_used in_primary size pages [] has_ n is = absurd is
stands_used in_primary size pages (s ∷ ss) has_ n is =
    at (has_either (tree_pages s.trees) (trees_pages ss) n is) (stands_used in_primary size pages ss has_.1 n)
  where
    at : Has (tree_pages s.trees) n ⊎ Has (trees_pages ss) n → (Has (trees_pages ss) n → is_used size pages n ≡ true)
        → is_used size pages n ≡ true
    at (inl here) more = trees_used size pages s.table.pointer.0 s.table.indexes s.trees has_.0.trees n here
    at (inr later) more = more later

-- ---- the insertion

module _ (size : ℕ) (old new : Pages) (earlier batch : Changed) (owner root : ℕ) (levels : List (List ℕ)) (e : Entry)
    (tree : IsTree size old owner root levels) (is : PutsIn size old new earlier batch owner root levels e)
    (put : PutsChanges (content_in batch.pages) old new)
    (stays : (n : ℕ) → byte (old n) 0 ≡ 7 → (InTree is.ends n → ⊥) → new n ≡ old n) where
  -- a page that was not used
  abbrev pub IsFresh : ℕ → Type 0
  IsFresh n = is_used size old n ≡ false

  used : StaysUsed size old new
  used = row_used size owner root (content_in batch.pages) (lists batch.orders) (Add e) old new levels is.ends is.row

  -- ---- a tree that shares no page with it

  module _ (o r : ℕ) (l : List (List ℕ)) (its : IsTree size old o r l)
      (apart : (n : ℕ) → InTree l n → InTree levels n → ⊥) where
    its_pages : (n : ℕ) → InTree l n → new n ≡ old n
    its_pages n placed = stays n (seven size old old o (λ m is_. is_) l its.nodes n (in_levels l n placed))
        (λ there. at (is.fresh n there))
      where
        at : InTree levels n ⊎ (is_used size old n ≡ false) → ⊥
        at (inl here) = apart n placed here
        at (inr unused) = no_true (is_used size old n) unused (node_used size old o l n its.nodes placed)

    tree_changes : TreeChanges size (content_in batch.pages) (lists batch.orders) old new o r l l
    tree_changes = record {
      change = Stay;
      all = tt;
      row = stays_row size old new batch (lists batch.orders) put used
          (record { owner = o; root = r; levels = l }) its its_pages;
    }

    tree_after : IsTree size new o r l
    tree_after = stays_tree size old new batch (lists batch.orders) put used
        (record { owner = o; root = r; levels = l }) its its_pages

  -- ---- the trees of a table that does not have it

  trees_stay : (o : ℕ) (indexes : List Index) (ts : Trees) → AreTrees size old o indexes ts
      → ((n : ℕ) → Has (tree_pages ts) n → InTree levels n → ⊥)
      → TreesChange size (content_in batch.pages) (lists batch.orders) old new o indexes ts ts
      × AreTrees size new o indexes ts
  trees_stay o [] [] are apart = (tt, tt)
  trees_stay o [] (l ∷ ls) are apart = absurd are
  trees_stay o (i ∷ indexes) [] are apart = absurd are
  trees_stay o (i ∷ indexes) (l ∷ ls) are apart =
      let rest = trees_stay o indexes ls are.1 (λ n has. apart n (has_back (all_of l) (tree_pages ls) n has)) in
      let here : (n : ℕ) → InTree l n → InTree levels n → ⊥ = λ n placed.
      apart n (has_front (all_of l) (tree_pages ls) n (in_levels l n placed)) in
      ((tree_changes o i.root.0 l are.0 here, rest.0), (tree_after o i.root.0 l are.0 here, rest.1))

  -- each of a list stays within itself
  trees_within : (ts : Trees) → StayWithin (List (List ℕ)) all_of IsFresh ts ts
  trees_within [] = tt
  trees_within (t ∷ ts) = ((λ m has. has), trees_within ts)

  -- ---- the trees of a table that has it

  record TableChanges (indexes : List Index) (ts : Trees) : Type 0 where
    pub now : Trees
    pub rows : TreesChange size (content_in batch.pages) (lists batch.orders) old new owner indexes ts now
    pub are : AreTrees size new owner indexes now
    pub grows : OneGrows (List (List ℕ)) all_of IsFresh ts now
    pub there : (n : ℕ) → InTree levels n → Has (tree_pages ts) n

  table_changes : (indexes : List Index) (ts : Trees) → AreTrees size old owner indexes ts → IsOnce (tree_pages ts)
      → HasRoot indexes root → TableChanges indexes ts
  table_changes [] ts are once has = absurd has
  table_changes (i ∷ indexes) [] are once has = absurd are
  table_changes (i ∷ indexes) (l ∷ ls) are once (inl same) = record {
    now = is.ends ∷ ls;
    rows = (
      record {
        change = Add e;
        all = tt;
        row = subst (λ (k : ℕ). ChangesTree size owner k (content_in batch.pages) (lists batch.orders) (Add e) old l new
            is.ends) (sym same) (subst (λ (x : List (List ℕ)). ChangesTree size owner root (content_in batch.pages)
            (lists batch.orders) (Add e) old x new is.ends) (sym it) is.row);
      },
      rest.0,
    );
    are = (subst (λ (k : ℕ). IsTree size new owner k is.ends) (sym same) is.tree, rest.1);
    grows = inr ((λ n has. into n (is.fresh n (has_placed is.ends n has))), trees_within ls);
    there = λ n placed. has_front (all_of l) (tree_pages ls) n (as_its n placed);
  }
    where
      it : l ≡ levels
      it = one_tree size old owner root l levels (subst (λ (k : ℕ). IsTree size old owner k l) same are.0) tree

      as_its : (n : ℕ) → InTree levels n → Has (all_of l) n
      as_its n placed = in_levels l n (subst (λ (x : List (List ℕ)). InTree x n) (sym it) placed)

      rest : TreesChange size (content_in batch.pages) (lists batch.orders) old new owner indexes ls ls
          × AreTrees size new owner indexes ls
      rest = trees_stay owner indexes ls are.1
          (λ n has placed. once_apart (all_of l) (tree_pages ls) n once (as_its n placed) has)

      into : (n : ℕ) → InTree levels n ⊎ (is_used size old n ≡ false) → Has (all_of l) n ⊎ IsFresh n
      into n (inl placed) = inl (as_its n placed)
      into n (inr unused) = inr unused
  table_changes (i ∷ indexes) (l ∷ ls) are once (inr later) = by
      (table_changes indexes ls are.1 (once_back (all_of l) (tree_pages ls) once) later)
    where
      by : TableChanges indexes ls → TableChanges (i ∷ indexes) (l ∷ ls)
      by rest =
          let apart : (n : ℕ) → InTree l n → InTree levels n → ⊥ = λ n placed here.
          once_apart (all_of l) (tree_pages ls) n once (in_levels l n placed) (rest.there n here) in
          record {
            now = l ∷ rest.now;
            rows = (tree_changes owner i.root.0 l are.0 apart, rest.rows);
            are = (tree_after owner i.root.0 l are.0 apart, rest.are);
            grows = inl ((λ m has. has), rest.grows);
            there = λ n placed. has_back (all_of l) (tree_pages ls) n (rest.there n placed);
          }

  -- ---- tables none of which has it

  pub stands_stay : (in_primary : Bool) (ss : List Stand) → EachStand (HasTablePages in_primary size old) ss
      → ((n : ℕ) → Has (trees_pages ss) n → InTree levels n → ⊥)
      → StandsChange size (content_in batch.pages) (lists batch.orders) old new ss (all_trees ss)
  stands_stay in_primary [] has_ apart = tt
  stands_stay in_primary (s ∷ ss) has_ apart = (
    (trees_stay s.table.pointer.0 s.table.indexes s.trees has_.0.trees
        (λ n has. apart n (has_front (tree_pages s.trees) (trees_pages ss) n has))).0,
    stands_stay in_primary ss has_.1 (λ n has. apart n (has_back (tree_pages s.trees) (trees_pages ss) n has)),
  )

  stands_within : (ss : List Stand) → StayWithin Stand pages_in_trees IsFresh ss (retree ss (all_trees ss))
  stands_within [] = tt
  stands_within (s ∷ ss) = ((λ m has. has), stands_within ss)

  stands_each : (ss : List Stand) → IsOnce (trees_pages ss)
      → EachOnce Stand pages_in_trees IsFresh (retree ss (all_trees ss))
  stands_each [] once = tt
  stands_each (s ∷ ss) once = (
    once_front (tree_pages s.trees) (trees_pages ss) once,
    stands_each ss (once_back (tree_pages s.trees) (trees_pages ss) once),
  )

  -- its pages are of its owner, so no other table has them
  pub no_table : (in_primary : Bool) (ss : List Stand) → EachStand (HasTablePages in_primary size old) ss
      → HasNoTable ss owner → (n : ℕ) → Has (trees_pages ss) n → InTree levels n → ⊥
  no_table in_primary [] has_ none n has placed = has
  no_table in_primary (s ∷ ss) has_ none n has placed =
      at (has_either (tree_pages s.trees) (trees_pages ss) n has)
      (λ later. no_table in_primary ss has_.1 none.1 n later placed)
    where
      mine : IsOwned old owner n
      mine = of_nodes in_primary size old owner levels tree.nodes n (in_levels levels n placed)

      at : Has (tree_pages s.trees) n ⊎ Has (trees_pages ss) n → (Has (trees_pages ss) n → ⊥) → ⊥
      at (inl here) more =
          let its : IsOwned old s.table.pointer.0 n = stand_owned in_primary size old s has_.0 n
          (has_back (s.pointers ++ s.data_pages) (tree_pages s.trees) n here) in
          none.0 (sym its.told ∙ mine.told)
      at (inr later) more = more later

  -- ---- tables one of which has it

  pub record StandsChanged (ss : List Stand) : Type 0 where
    pub now : List Trees
    pub rows : StandsChange size (content_in batch.pages) (lists batch.orders) old new ss now
    pub grows : OneGrows Stand pages_in_trees IsFresh ss (retree ss now)
    pub each : EachOnce Stand pages_in_trees IsFresh (retree ss now)
    pub there : (n : ℕ) → InTree levels n → Has (trees_pages ss) n

  pub stands_change : (in_primary : Bool) (ss : List Stand) → EachStand (HasTablePages in_primary size old) ss
      → IsOnce (trees_pages ss) → HasIndex ss owner root → StandsChanged ss
  stands_change in_primary [] has_ once has = absurd has
  stands_change in_primary (s ∷ ss) has_ once (inl (same, has)) = by
      (table_changes s.table.indexes s.trees
      (subst (λ (o : ℕ). AreTrees size old o s.table.indexes s.trees) same has_.0.trees)
      (once_front (tree_pages s.trees) (trees_pages ss) once) has)
    where
      by : TableChanges s.table.indexes s.trees → StandsChanged (s ∷ ss)
      by here = record {
        now = here.now ∷ all_trees ss;
        rows = (
          subst (λ (o : ℕ). TreesChange size (content_in batch.pages) (lists batch.orders) old new o s.table.indexes
              s.trees here.now) (sym same) here.rows,
          stands_stay in_primary ss has_.1 (λ n later placed. once_apart (tree_pages s.trees) (trees_pages ss) n once
              (here.there n placed) later),
        );
        grows = inr ((λ m is_. into m is_), stands_within ss);
        each = (
          table_once size new owner s.table.indexes s.trees here.now IsFresh
              (once_front (tree_pages s.trees) (trees_pages ss) once) here.grows here.are
              (λ m is_ unused. no_true (is_used size old m) unused
              (trees_used size old s.table.pointer.0 s.table.indexes s.trees has_.0.trees m is_)),
          stands_each ss (once_back (tree_pages s.trees) (trees_pages ss) once),
        );
        there = λ n placed. has_front (tree_pages s.trees) (trees_pages ss) n (here.there n placed);
      }
        where
          into : (m : ℕ) → Has (tree_pages here.now) m → Has (tree_pages s.trees) m ⊎ IsFresh m
          into m is_ = grown_has (List (List ℕ)) all_of IsFresh s.trees here.now here.grows m is_
  stands_change in_primary (s ∷ ss) has_ once (inr later) = by
      (stands_change in_primary ss has_.1 (once_back (tree_pages s.trees) (trees_pages ss) once) later)
    where
      by : StandsChanged ss → StandsChanged (s ∷ ss)
      by rest = record {
        now = s.trees ∷ rest.now;
        rows = (
          (trees_stay s.table.pointer.0 s.table.indexes s.trees has_.0.trees
              (λ n here placed. once_apart (tree_pages s.trees) (trees_pages ss) n once here (rest.there n placed))).0,
          rest.rows,
        );
        grows = inl ((λ m is_. is_), rest.grows);
        each = (once_front (tree_pages s.trees) (trees_pages ss) once, rest.each);
        there = λ n placed. has_back (tree_pages s.trees) (trees_pages ss) n (rest.there n placed);
      }
