-- Index trees of an image that are behind the pool's: they stay behind them, as long as the pages of the pool's
-- trees stay, whatever the image's pages become.
use Rattle.std.proofs.Common.{◌≡◌, ◌⊎◌, inl, inr, ap, ℕ, Bool, List, [], ◌∷◌, ◌++◌}
use Rattle.std.specs.List.{flat_map}
use Rattle.mg_base.specs.Fields.{byte}
use Rattle.mg_image.specs.Form.{Pages}
use Rattle.mg_image.specs.Sound.{HasTablePages}
use Rattle.mg_image.specs.Tables.{EachStand, Has, Stand, pages_of, tree_pages}
use Rattle.mg_image_overlay_laws.specs.pages.Growth.{has_back, has_front}
use Rattle.mg_image_overlay_laws.specs.kept.KeptImages.{EachBehind, StandsBehind, all_trees}
use Rattle.mg_image_overlay_laws.specs.pages.Trees.{trees_seven}
use Rattle.mg_tree_overlay_laws.specs.TreeOnceLaws.{in_levels}
use Rattle.mg_tree_overlay_laws.specs.TreePages.{all_of}
use Rattle.mg_tree_overlay_laws.specs.TreeSteps.{InTree}
use Rattle.mg_tree_overlay_laws.specs.TreesBehind.{IsNamed, IsTreeBehind}

module _ (pool new image last : Pages) where
  tree_stays : (a b : List (List ℕ)) → ((m : ℕ) → InTree a m → new m ≡ pool m)
      → IsTreeBehind pool image a b → IsTreeBehind new last a b
  tree_stays a b same is = record {
    within = is.within;
    unnamed = λ n there. at n (is.unnamed n there);
  }
    where
      at : (n : ℕ) → IsNamed pool a n ⊎ InTree b n → IsNamed new a n ⊎ InTree b n
      at n (inl (m, there, inner, child)) =
          inl (m, there, rw (same m there) inner, rw (same m there) child)
      at n (inr there) = inr there

  trees_stay_behind : (as_ bs : List (List (List ℕ)))
      → ((m : ℕ) → Has (tree_pages as_) m → new m ≡ pool m)
      → EachBehind pool image as_ bs → EachBehind new last as_ bs
  trees_stay_behind [] [] same is = is
  trees_stay_behind [] (b ∷ bs) same is = is
  trees_stay_behind (a ∷ as_) [] same is = is
  trees_stay_behind (a ∷ as_) (b ∷ bs) same is = (
    tree_stays a b (λ m there. same m (has_front (all_of a) (tree_pages as_) m (in_levels a m there))) is.0,
    trees_stay_behind as_ bs (λ m there. same m (has_back (all_of a) (tree_pages as_) m there)) is.1,
  )

  -- The pages of the pool's trees are index pages by their kind: where its tables' index pages stay, the trees of
  -- the image are behind as they were.
  pub behind_stays : (in_primary : Bool) (size : ℕ) (of_pool of_image : List Stand)
      → EachStand (HasTablePages in_primary size pool) of_pool
      → ((m : ℕ) → Has (flat_map pages_of of_pool) m → byte (pool m) 0 ≡ 7 → new m ≡ pool m)
      → StandsBehind pool image of_pool of_image → StandsBehind new last of_pool of_image
  behind_stays in_primary size [] [] has_ same is = is
  behind_stays in_primary size [] (b ∷ bs) has_ same is = is
  behind_stays in_primary size (a ∷ stands) [] has_ same is = is
  behind_stays in_primary size (a ∷ stands) (b ∷ bs) has_ same is = (
    trees_stay_behind a.trees b.trees (λ m there. same m (has_front (pages_of a) (flat_map pages_of stands) m
        (has_back (a.pointers ++ a.data_pages) (tree_pages a.trees) m there))
        (trees_seven size pool pool a.table.pointer.0 (λ n used. used) a.table.indexes a.trees has_.0.trees m there))
        is.0,
    behind_stays in_primary size stands bs has_.1
        (λ m there. same m (has_back (pages_of a) (flat_map pages_of stands) m there)) is.1,
  )

-- ---- an image is behind itself

tree_by_itself : (pages : Pages) (levels : List (List ℕ)) → IsTreeBehind pages pages levels levels
tree_by_itself pages levels = record { within = λ n there. there; unnamed = λ n there. inr there }

trees_by_themselves : (pages : Pages) (trees : List (List (List ℕ))) → EachBehind pages pages trees trees
trees_by_themselves pages [] = tt
trees_by_themselves pages (levels ∷ trees) = (tree_by_itself pages levels, trees_by_themselves pages trees)

pub behind_by_itself : (pages : Pages) (stands : List Stand) → StandsBehind pages pages stands stands
behind_by_itself pages [] = tt
behind_by_itself pages (stand ∷ stands) =
    (trees_by_themselves pages stand.trees, behind_by_itself pages stands)

-- ---- tables of which one has more pages, and the same trees

pub trees_with : (before after : List Stand) (stand more : Stand) → more.trees ≡ stand.trees
    → all_trees (before ++ (more ∷ after)) ≡ all_trees (before ++ (stand ∷ after))
trees_with [] after stand more same = ap (λ (trees : List (List (List ℕ))). trees ∷ all_trees after) same
trees_with (first ∷ before) after stand more same =
    ap (λ (all : List (List (List (List ℕ)))). first.trees ∷ all) (trees_with before after stand more same)
