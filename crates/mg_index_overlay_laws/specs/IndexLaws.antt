-- Every index keeps its tree in every overlay.
use Rattle.std.proofs.Common.{◌≡◌, ◌⊎◌, inl, inr, sym, subst, ℕ, false, List, [], ◌∷◌}
use Rattle.mg_careful.specs.CarefulWrite.{Cache, overlay}
use Rattle.mg_image.specs.Indexes.{Finds, index_entry}
use Rattle.mg_image.specs.Tables.{Has, tree_pages}
use Rattle.mg_image_overlay_laws.specs.pages.Growth.{has_back, has_either, has_front}
use Rattle.mg_tree_overlay_laws.specs.TreePages.{all_of}
use Rattle.mg_overlay_laws.specs.Overlays.{IsCleanAsDisk, before}
use Rattle.mg_tree_overlay_laws.specs.EveryTreeLaws.{batches_keep_trees, trees_start, writes_keep_trees}
use Rattle.mg_tree_overlay_laws.specs.TreeSteps.{InTree}
use Rattle.mg_index_overlay_laws.specs.IndexTrees.{Each, EveryIndex, IndexTree, IsIndexTree}
use Rattle.mg_index_overlay_laws.specs.Laws.{BatchesKeepIndexes, OverlaysHaveTrees, RowsStayFound, WritesKeepIndexes}

pub each_start : (size : ℕ) (cache : Cache) (trees : List IndexTree)
    → ((p : ℕ) → cache.dirty p ≡ false) → IsCleanAsDisk cache
    → Each (IsIndexTree size cache.pool) trees → EveryIndex size cache trees
each_start size cache [] none clean are = tt
each_start size cache (t ∷ ts) none clean are = (
  trees_start size t.owner t.root cache t.levels none clean are.0,
  each_start size cache ts none clean are.1,
)

pub writes_keep : WritesKeepIndexes
writes_keep size old new gone [] writes every = tt
writes_keep size old new gone (t ∷ ts) writes every = (
  writes_keep_trees size t.owner t.root old new gone t.levels writes every.0,
  writes_keep size old new gone ts writes every.1,
)

pub batches_keep : BatchesKeepIndexes
batches_keep size old new gone batch orders [] changes rows every = (tt, tt)
batches_keep size old new gone batch orders (c ∷ cs) changes rows every =
    let here = batches_keep_trees size c.owner c.root old new gone batch orders c.change c.levels c.ends
    changes rows.0 every.0 in
    let rest = batches_keep size old new gone batch orders cs changes rows.1 every.1 in
    ((here.0, rest.0), (here.1, rest.1))

pub rows_stay_found : RowsStayFound
rows_stay_found old new gone changes [] p row finds left set_ closed found = tt
rows_stay_found old new gone [] (index ∷ indexes) p row finds left set_ closed found = absurd left
rows_stay_found old new gone (c ∷ cs) (index ∷ indexes) p row finds left set_ closed found = (
  subst (Finds (overlay new set_) (index_entry index p row)) left.0
      (finds.0 set_ closed (index_entry index p row) left.1
      (subst (Finds (overlay old (before old gone set_)) (index_entry index p row)) (sym left.0) found.0)),
  rows_stay_found old new gone cs indexes p row finds.1 left.2 set_ closed found.1,
)

-- the pages of a tree as one list
pub placed_has : (levels : List (List ℕ)) (n : ℕ) → InTree levels n → Has (all_of levels) n
placed_has [] n has = absurd has
placed_has (level ∷ below) n (inl here) = has_front level (all_of below) n here
placed_has (level ∷ below) n (inr later) = has_back level (all_of below) n (placed_has below n later)

pub has_placed : (levels : List (List ℕ)) (n : ℕ) → Has (all_of levels) n → InTree levels n
has_placed [] n has = absurd has
has_placed (level ∷ below) n has = at (has_either level (all_of below) n has) (has_placed below n)
  where
    at : Has level n ⊎ Has (all_of below) n → (Has (all_of below) n → InTree below n)
        → InTree (level ∷ below) n
    at (inl here) more = inl here
    at (inr later) more = inr (more later)

pub overlays_have_trees : OverlaysHaveTrees
overlays_have_trees size cache owner [] [] are every set_ closed =
    record { of_image = []; are = tt; within = λ n has. has }
overlays_have_trees size cache owner [] (levels ∷ trees) are every set_ closed = absurd are
overlays_have_trees size cache owner (index ∷ indexes) [] are every set_ closed = absurd are
overlays_have_trees size cache owner (index ∷ indexes) (levels ∷ trees) are every set_ closed =
    let kept = every.0.overlays set_ closed in
    let rest = overlays_have_trees size cache owner indexes trees are.1 every.1 set_ closed in
    record {
      of_image = kept.0 ∷ rest.of_image;
      are = (kept.1.tree, rest.are);
      within = λ n has. within kept.0 rest.of_image n (kept.1.behind.within n) (rest.within n)
          (has_either (all_of kept.0) (tree_pages rest.of_image) n has);
    }
  where
    within : (image : List (List ℕ)) (more : List (List (List ℕ))) (n : ℕ)
        → (InTree image n → InTree levels n) → (Has (tree_pages more) n → Has (tree_pages trees) n)
        → Has (all_of image) n ⊎ Has (tree_pages more) n → Has (tree_pages (levels ∷ trees)) n
    within image more n here later (inl has) = has_front (all_of levels) (tree_pages trees) n
        (placed_has levels n (here (has_placed image n has)))
    within image more n here later (inr has) = has_back (all_of levels) (tree_pages trees) n (later has)
