-- No page of tables and their trees stands twice: trees lie on pages of their own kind, and those of an image within
-- the pool's.
use Rattle.std.proofs.Common.{◌≡◌, ◌⊎◌, inl, inr, ap, ◌∙◌, ℕ, suc, Bool, List, [], ◌∷◌, ◌++◌}
use Rattle.std.specs.List.{flat_map}
use Rattle.mg_base.specs.Checks.{common_checks}
use Rattle.mg_base.specs.Fields.{byte}
use Rattle.mg_image.specs.Form.{Pages}
use Rattle.mg_image.specs.Indexes.{AreTrees}
use Rattle.mg_image.specs.Sound.{HasTablePages, IsTableData, IsTablePointer}
use Rattle.mg_image.specs.Tables.{EachFrom, EachStand, Has, IsOnce, Stand, pages_of, tree_pages}
use Rattle.mg_image_overlay_laws.specs.pages.DataPages.{all_passes, kind_of}
use Rattle.mg_image_overlay_laws.specs.pages.Growth.{has_back, has_either, has_front}
use Rattle.mg_image_overlay_laws.specs.kept.KeptImages.{EachBehind, StandsBehind}
use Rattle.mg_image_overlay_laws.specs.pages.Reach.{once_apart, once_back, once_front}
use Rattle.mg_image_overlay_laws.specs.pages.Trees.{trees_seven}
use Rattle.mg_model.specs.declared.table.Index.{Index}
use Rattle.mg_pointer.specs.PointerPage.{pointer_checks}
use Rattle.mg_entry_overlay_laws.specs.Retreed.{Trees, held_pages, trees_pages}
use Rattle.mg_tree_overlay_laws.specs.TreeOnceLaws.{has_placed, in_levels, once_both, tree_once}
use Rattle.mg_tree_overlay_laws.specs.TreePages.{all_of}

-- ---- lists

pub pages_either : (ss : List Stand) (m : ℕ) → Has (flat_map pages_of ss) m
    → Has (held_pages ss) m ⊎ Has (trees_pages ss) m
pages_either [] m is = absurd is
pages_either (s ∷ ss) m is = at (has_either (pages_of s) (flat_map pages_of ss) m is) (pages_either ss m)
  where
    here : Has (s.pointers ++ s.data_pages) m ⊎ Has (tree_pages s.trees) m
        → Has (held_pages (s ∷ ss)) m ⊎ Has (trees_pages (s ∷ ss)) m
    here (inl a) = inl (has_front (s.pointers ++ s.data_pages) (held_pages ss) m a)
    here (inr b) = inr (has_front (tree_pages s.trees) (trees_pages ss) m b)

    later : Has (held_pages ss) m ⊎ Has (trees_pages ss) m
        → Has (held_pages (s ∷ ss)) m ⊎ Has (trees_pages (s ∷ ss)) m
    later (inl a) = inl (has_back (s.pointers ++ s.data_pages) (held_pages ss) m a)
    later (inr b) = inr (has_back (tree_pages s.trees) (trees_pages ss) m b)

    at : Has (pages_of s) m ⊎ Has (flat_map pages_of ss) m
        → (Has (flat_map pages_of ss) m → Has (held_pages ss) m ⊎ Has (trees_pages ss) m)
        → Has (held_pages (s ∷ ss)) m ⊎ Has (trees_pages (s ∷ ss)) m
    at (inl a) more = here (has_either (s.pointers ++ s.data_pages) (tree_pages s.trees) m a)
    at (inr b) more = later (more b)

pub held_in : (ss : List Stand) (m : ℕ) → Has (held_pages ss) m → Has (flat_map pages_of ss) m
held_in [] m is = is
held_in (s ∷ ss) m is = at (has_either (s.pointers ++ s.data_pages) (held_pages ss) m is) (held_in ss m)
  where
    at : Has (s.pointers ++ s.data_pages) m ⊎ Has (held_pages ss) m
        → (Has (held_pages ss) m → Has (flat_map pages_of ss) m) → Has (flat_map pages_of (s ∷ ss)) m
    at (inl a) more = has_front (pages_of s) (flat_map pages_of ss) m
        (has_front (s.pointers ++ s.data_pages) (tree_pages s.trees) m a)
    at (inr b) more = has_back (pages_of s) (flat_map pages_of ss) m (more b)

pub held_once : (ss : List Stand) → IsOnce (flat_map pages_of ss) → IsOnce (held_pages ss)
held_once [] once = tt
held_once (s ∷ ss) once = once_both (s.pointers ++ s.data_pages) (held_pages ss)
    (once_front (s.pointers ++ s.data_pages) (tree_pages s.trees) (once_front (pages_of s) (flat_map pages_of ss) once))
    (held_once ss (once_back (pages_of s) (flat_map pages_of ss) once))
    (λ m here later. once_apart (pages_of s) (flat_map pages_of ss) m once
    (has_front (s.pointers ++ s.data_pages) (tree_pages s.trees) m here) (held_in ss m later))

pub trees_in : (ss : List Stand) (m : ℕ) → Has (trees_pages ss) m → Has (flat_map pages_of ss) m
trees_in [] m is = is
trees_in (s ∷ ss) m is = at (has_either (tree_pages s.trees) (trees_pages ss) m is) (trees_in ss m)
  where
    at : Has (tree_pages s.trees) m ⊎ Has (trees_pages ss) m
        → (Has (trees_pages ss) m → Has (flat_map pages_of ss) m) → Has (flat_map pages_of (s ∷ ss)) m
    at (inl a) more = has_front (pages_of s) (flat_map pages_of ss) m
        (has_back (s.pointers ++ s.data_pages) (tree_pages s.trees) m a)
    at (inr b) more = has_back (pages_of s) (flat_map pages_of ss) m (more b)

pub trees_once : (ss : List Stand) → IsOnce (flat_map pages_of ss) → IsOnce (trees_pages ss)
trees_once [] once = tt
trees_once (s ∷ ss) once = once_both (tree_pages s.trees) (trees_pages ss)
    (once_back (s.pointers ++ s.data_pages) (tree_pages s.trees) (once_front (pages_of s) (flat_map pages_of ss) once))
    (trees_once ss (once_back (pages_of s) (flat_map pages_of ss) once))
    (λ m here later. once_apart (pages_of s) (flat_map pages_of ss) m once
    (has_back (s.pointers ++ s.data_pages) (tree_pages s.trees) m here) (trees_in ss m later))

-- tables and trees, each once, on different pages
pub both_once : (ss : List Stand) → IsOnce (held_pages ss) → IsOnce (trees_pages ss)
    → ((m : ℕ) → Has (held_pages ss) m → Has (trees_pages ss) m → ⊥) → IsOnce (flat_map pages_of ss)
both_once [] held trees apart = tt
both_once (s ∷ ss) held trees apart = once_both (pages_of s) (flat_map pages_of ss)
    (once_both (s.pointers ++ s.data_pages) (tree_pages s.trees)
    (once_front (s.pointers ++ s.data_pages) (held_pages ss) held)
    (once_front (tree_pages s.trees) (trees_pages ss) trees)
    (λ m here there. apart m (has_front (s.pointers ++ s.data_pages) (held_pages ss) m here)
    (has_front (tree_pages s.trees) (trees_pages ss) m there)))
    (both_once ss (once_back (s.pointers ++ s.data_pages) (held_pages ss) held)
    (once_back (tree_pages s.trees) (trees_pages ss) trees)
    (λ m here there. apart m (has_back (s.pointers ++ s.data_pages) (held_pages ss) m here)
    (has_back (tree_pages s.trees) (trees_pages ss) m there)))
    (λ m here later. at m (has_either (s.pointers ++ s.data_pages) (tree_pages s.trees) m here) (pages_either ss m later))
  where
    at : (m : ℕ) → Has (s.pointers ++ s.data_pages) m ⊎ Has (tree_pages s.trees) m
        → Has (held_pages ss) m ⊎ Has (trees_pages ss) m → ⊥
    at m (inl a) (inl b) = once_apart (s.pointers ++ s.data_pages) (held_pages ss) m held a b
    at m (inl a) (inr b) = apart m (has_front (s.pointers ++ s.data_pages) (held_pages ss) m a)
        (has_back (tree_pages s.trees) (trees_pages ss) m b)
    at m (inr a) (inl b) = apart m (has_back (s.pointers ++ s.data_pages) (held_pages ss) m b)
        (has_front (tree_pages s.trees) (trees_pages ss) m a)
    at m (inr a) (inr b) = once_apart (tree_pages s.trees) (trees_pages ss) m trees a b

-- ---- kinds

module _ (in_primary : Bool) (size : ℕ) (pages : Pages) where
  -- a pointer page, or a data page
  abbrev IsHeld : ℕ → Type 0
  IsHeld m = (byte (pages m) 0 ≡ 4) ⊎ (byte (pages m) 0 ≡ 5)

  four : (owner k : ℕ) (ns : List ℕ) → EachFrom (IsTablePointer size pages owner) k ns → (m : ℕ) → Has ns m
      → byte (pages m) 0 ≡ 4
  unfolding pointer_checks
  four owner k [] each m is = absurd is
  four owner k (n ∷ ns) each m (inl e) = ap (λ (j : ℕ). byte (pages j) 0) e
      ∙ kind_of (pages n) n 4 owner k _ each.0.fields
  four owner k (n ∷ ns) each m (inr more) = four owner (suc k) ns each.1 m more

  five : (owner k : ℕ) (ns : List ℕ) → EachFrom (IsTableData in_primary size pages owner) k ns → (m : ℕ) → Has ns m
      → byte (pages m) 0 ≡ 5
  five owner k [] each m is = absurd is
  five owner k (n ∷ ns) each m (inl e) = ap (λ (j : ℕ). byte (pages j) 0) e
      ∙ kind_of (pages n) n 5 owner k [] (all_passes (common_checks (pages n) n 5 owner k) each.0.wanted.fields)
  five owner k (n ∷ ns) each m (inr more) = five owner (suc k) ns each.1 m more

  pub held_kind : (ss : List Stand) → EachStand (HasTablePages in_primary size pages) ss → (m : ℕ)
      → Has (held_pages ss) m → IsHeld m
  held_kind [] has_ m is = absurd is
  held_kind (s ∷ ss) has_ m is = at (has_either (s.pointers ++ s.data_pages) (held_pages ss) m is) (held_kind ss has_.1 m)
    where
      here : Has s.pointers m ⊎ Has s.data_pages m → IsHeld m
      here (inl a) = inl (four s.table.pointer.0 0 s.pointers has_.0.pointers m a)
      here (inr b) = inr (five s.table.pointer.0 0 s.data_pages has_.0.data_pages m b)

      at : Has (s.pointers ++ s.data_pages) m ⊎ Has (held_pages ss) m → (Has (held_pages ss) m → IsHeld m) → IsHeld m
      at (inl a) more = here (has_either s.pointers s.data_pages m a)
      at (inr b) more = more b

  pub trees_kind : (ss : List Stand)
      → EachStand (λ s. AreTrees size pages s.table.pointer.0 s.table.indexes s.trees) ss → (m : ℕ)
      → Has (trees_pages ss) m → byte (pages m) 0 ≡ 7
  trees_kind [] are m is = absurd is
  trees_kind (s ∷ ss) are m is = at (has_either (tree_pages s.trees) (trees_pages ss) m is) (trees_kind ss are.1 m)
    where
      at : Has (tree_pages s.trees) m ⊎ Has (trees_pages ss) m → (Has (trees_pages ss) m → byte (pages m) 0 ≡ 7)
          → byte (pages m) 0 ≡ 7
      at (inl a) more = trees_seven size pages pages s.table.pointer.0 (λ n used. used) s.table.indexes s.trees are.0 m a
      at (inr b) more = more b

-- ---- the trees of an image lie within the pool's

module _ (size : ℕ) (pool image : Pages) where
  each_within : (ps is : Trees) → EachBehind pool image ps is → (m : ℕ) → Has (tree_pages is) m → Has (tree_pages ps) m
  each_within [] [] behind m is_ = absurd is_
  each_within [] (i ∷ is) behind m is_ = absurd behind
  each_within (p ∷ ps) [] behind m is_ = absurd is_
  each_within (p ∷ ps) (i ∷ is) behind m is_ =
      at (has_either (all_of i) (tree_pages is) m is_) (each_within ps is behind.1 m)
    where
      at : Has (all_of i) m ⊎ Has (tree_pages is) m → (Has (tree_pages is) m → Has (tree_pages ps) m)
          → Has (tree_pages (p ∷ ps)) m
      at (inl a) more = has_front (all_of p) (tree_pages ps) m (in_levels p m (behind.0.within m (has_placed i m a)))
      at (inr b) more = has_back (all_of p) (tree_pages ps) m (more b)

  each_once : (owner : ℕ) (indexes : List Index) (ps is : Trees) → AreTrees size image owner indexes is
      → EachBehind pool image ps is → IsOnce (tree_pages ps) → IsOnce (tree_pages is)
  each_once owner indexes [] [] are behind once = tt
  each_once owner indexes [] (i ∷ is) are behind once = absurd behind
  each_once owner indexes (p ∷ ps) [] are behind once = tt
  each_once owner [] (p ∷ ps) (i ∷ is) are behind once = absurd are
  each_once owner (x ∷ xs) (p ∷ ps) (i ∷ is) are behind once = once_both (all_of i) (tree_pages is)
      (tree_once size image owner x.root.0 i are.0)
      (each_once owner xs ps is are.1 behind.1 (once_back (all_of p) (tree_pages ps) once))
      (λ m here later. once_apart (all_of p) (tree_pages ps) m once
      (in_levels p m (behind.0.within m (has_placed i m here))) (each_within ps is behind.1 m later))

  all_within : (ps is : List Stand) → StandsBehind pool image ps is → (m : ℕ) → Has (trees_pages is) m
      → Has (trees_pages ps) m
  all_within [] [] behind m is_ = absurd is_
  all_within [] (i ∷ is) behind m is_ = absurd behind
  all_within (p ∷ ps) [] behind m is_ = absurd is_
  all_within (p ∷ ps) (i ∷ is) behind m is_ =
      at (has_either (tree_pages i.trees) (trees_pages is) m is_) (all_within ps is behind.1 m)
    where
      at : Has (tree_pages i.trees) m ⊎ Has (trees_pages is) m → (Has (trees_pages is) m → Has (trees_pages ps) m)
          → Has (trees_pages (p ∷ ps)) m
      at (inl a) more = has_front (tree_pages p.trees) (trees_pages ps) m (each_within p.trees i.trees behind.0 m a)
      at (inr b) more = has_back (tree_pages p.trees) (trees_pages ps) m (more b)

  -- so they stand once
  pub image_once : (ps is : List Stand)
      → EachStand (λ s. AreTrees size image s.table.pointer.0 s.table.indexes s.trees) is
      → StandsBehind pool image ps is → IsOnce (trees_pages ps) → IsOnce (trees_pages is)
  image_once [] [] are behind once = tt
  image_once [] (i ∷ is) are behind once = absurd behind
  image_once (p ∷ ps) [] are behind once = tt
  image_once (p ∷ ps) (i ∷ is) are behind once = once_both (tree_pages i.trees) (trees_pages is)
      (each_once i.table.pointer.0 i.table.indexes p.trees i.trees are.0 behind.0
      (once_front (tree_pages p.trees) (trees_pages ps) once))
      (image_once ps is are.1 behind.1 (once_back (tree_pages p.trees) (trees_pages ps) once))
      (λ m here later. once_apart (tree_pages p.trees) (trees_pages ps) m once
      (each_within p.trees i.trees behind.0 m here) (all_within ps is behind.1 m later))
