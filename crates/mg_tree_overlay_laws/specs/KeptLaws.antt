-- What an image's tree has to be beside the pool's, and that each step keeps it.
use Rattle.std.proofs.Common.{◌≡◌, ◌≢◌, ◌⊎◌, inl, inr, sym, subst, ◌<◌, ℕ, List, suc, [], ◌∷◌, length, arith}
use Rattle.mg_careful.specs.CarefulWrite.{PageSet}
use Rattle.mg_node.specs.declared.entry.Entry.{Entry}
use Rattle.mg_node.specs.NodePage.{entries_of, level_in}
use Rattle.mg_image.specs.Form.{Pages}
use Rattle.mg_image.specs.Indexes.{AreNodes, Finds, HasEntry, IsNode, IsTree}
use Rattle.mg_image.specs.Tables.{Has}
use Rattle.mg_tree_overlay_laws.specs.FoundLaws.{found_in_leaves, leaves_found}
use Rattle.mg_tree_overlay_laws.specs.GrowLaws.{tree_beside}
use Rattle.mg_tree_overlay_laws.specs.GrowParts.{LaysGrow, LaysInPlace, grow_part, leaf_part}
use Rattle.mg_tree_overlay_laws.specs.LeafLaws.{leaves_in, page_has, pages_as}
use Rattle.mg_tree_overlay_laws.specs.SplitParts.{LaysSplit, split_part}
use Rattle.mg_tree_overlay_laws.specs.StepLaws.{each_has}
use Rattle.mg_tree_overlay_laws.specs.TreeSteps.{Grows, InTree, Rewrites, StaysUsed, grow_levels, split_levels}
use Rattle.mg_tree_overlay_laws.specs.TreesBehind.{HasChild, HasKeptTree, InLeaves, IsNamed, IsTreeKept, KeepsFound, SplitsNamed, leaves}

-- the pool's own image, and any image at the start
pub kept_by_itself : (size owner root : ℕ) (pool : Pages) (of_pool : List (List ℕ))
    → IsTree size pool owner root of_pool
    → IsTreeKept size owner root pool pool of_pool of_pool
kept_by_itself size owner root pool of_pool tree = record {
  tree = tree;
  behind = record { within = λ n has. has; unnamed = λ n has. inr has };
}

pub keeps_found : (size owner root : ℕ) (image last : Pages) (of_image levels : List (List ℕ))
    → IsTree size image owner root of_image → IsTree size last owner root levels
    → ((e : Entry) → InLeaves image of_image e → InLeaves last levels e) → KeepsFound root image last
keeps_found size owner root image last of_image levels tree now finds e found =
    leaves_found size last owner root levels e now
    (finds e (found_in_leaves size image owner root of_image e tree found))

-- pages beside the pool's tree change: the right page and its inventory page, data pages, other trees
pub beside_kept : (size owner root : ℕ) (pool changed image last : Pages) (of_pool of_image : List (List ℕ))
    → ((m : ℕ) → InTree of_pool m → (changed m ≡ pool m) × (last m ≡ image m)) → StaysUsed size image last
    → IsTreeKept size owner root pool image of_pool of_image
    → IsTreeKept size owner root changed last of_pool of_image
beside_kept size owner root pool changed image last of_pool of_image same used kept = record {
  tree = tree_beside size image last owner root of_image (λ m has. (same m (kept.behind.within m has)).1) used kept.tree;
  behind = record {
    within = kept.behind.within;
    unnamed = λ n has. at n (kept.behind.unnamed n has);
  };
}
  where
    at : (n : ℕ) → IsNamed pool of_pool n ⊎ InTree of_image n → IsNamed changed of_pool n ⊎ InTree of_image n
    at n (inr has) = inr has
    at n (inl (m, placed, inner, names)) = inl (
      m,
      placed,
      subst (λ (page : List ℕ). 0 < level_in page) (sym (same m placed).0) inner,
      subst (λ (page : List ℕ). HasChild (entries_of page) n) (sym (same m placed).0) names,
    )

-- a page of any level splits, and its parent names the right page
pub split_kept : (size owner root : ℕ) (pool split named image mid last : Pages) (of_pool of_image : List (List ℕ))
    (l r p : ℕ) (e : Entry) (set_ : PageSet) → SplitsNamed size pool split named owner of_pool l r p e
    → LaysSplit size pool split named image mid last set_ l r p → root ≢ l
    → (InTree of_pool r → ⊥) → IsTreeKept size owner root pool image of_pool of_image
    → HasKeptTree size owner root named last (split_levels l r of_pool) × KeepsFound root image last
split_kept size owner root pool split named image mid last of_pool of_image l r p e set_ is lays other fresh kept =
    let part = split_part size pool split named owner of_pool l r p e is root of_image image mid last set_ lays other
    (λ has. fresh (kept.behind.within r has)) kept.behind kept.tree in (
      (part.levels, record { tree = part.tree; behind = part.behind }),
      keeps_found size owner root image last of_image part.levels kept.tree part.tree part.finds,
    )

-- the root splits
pub grow_kept : (size owner root : ℕ) (pool grown image last : Pages) (of_pool of_image : List (List ℕ))
    (a b : ℕ) (set_ : PageSet) → Grows size pool grown owner root a b
    → LaysGrow size pool grown image last set_ root a b → IsTree size pool owner root of_pool
    → IsTreeKept size owner root pool image of_pool of_image
    → HasKeptTree size owner root grown last (grow_levels root a b of_pool) × KeepsFound root image last
grow_kept size owner root pool grown image last of_pool of_image a b set_ is lays pool_tree kept =
    let part = grow_part size pool grown image last owner root a b of_pool of_image set_ is lays kept.behind pool_tree kept.tree in (
      (part.levels, record { tree = part.tree; behind = part.behind }),
      keeps_found size owner root image last of_image part.levels kept.tree part.tree part.finds,
    )

-- a leaf changes in place: what its new content keeps is found again
pub leaf_kept : (size owner root : ℕ) (pool changed image last : Pages) (of_pool of_image : List (List ℕ))
    (n : ℕ) (set_ : PageSet) → Rewrites size pool changed owner n → level_in (pool n) ≡ 0
    → LaysInPlace size pool changed image last set_ n
    → IsTreeKept size owner root pool image of_pool of_image
    → IsTreeKept size owner root changed last of_pool of_image
    × ((e : Entry) → (HasEntry (entries_of (pool n)) e → HasEntry (entries_of (changed n)) e)
    → Finds image e root → Finds last e root)
leaf_kept size owner root pool changed image last of_pool of_image n set_ is leaf lays kept =
    let part = leaf_part size pool changed image last owner root n of_pool of_image set_ is leaf lays kept.behind kept.tree in (
      record { tree = part.tree; behind = part.behind },
      λ e keeps found. leaves_found size last owner root of_image e part.tree
          (part.finds e keeps (found_in_leaves size image owner root of_image e kept.tree found)),
    )

-- a page without level is one of the leaves
pub on_leaves : (size : ℕ) (pages : Pages) (owner : ℕ) (levels : List (List ℕ)) (n : ℕ)
    → AreNodes size pages owner levels → InTree levels n → level_in (pages n) ≡ 0
    → Has (leaves levels) n
on_leaves size pages owner [] n nodes placed leaf = absurd placed
on_leaves size pages owner (level ∷ []) n nodes (inl placed) leaf = placed
on_leaves size pages owner (level ∷ []) n nodes (inr none) leaf = absurd none
on_leaves size pages owner (level ∷ next ∷ below) n nodes (inl placed) leaf =
    let node = each_has (IsNode size pages owner (suc (length below)) next) level n placed nodes.0 in
    let on_level = node.on_level in absurd (omega arith)
on_leaves size pages owner (level ∷ next ∷ below) n nodes (inr later) leaf =
    on_leaves size pages owner (next ∷ below) n nodes.1 later leaf

-- what stands on a leaf of a tree is found, a new entry too
pub leaf_found : (size : ℕ) (pages : Pages) (owner root : ℕ) (levels : List (List ℕ)) (n : ℕ) (e : Entry)
    → IsTree size pages owner root levels → InTree levels n → level_in (pages n) ≡ 0
    → HasEntry (entries_of (pages n)) e → Finds pages e root
leaf_found size pages owner root levels n e tree placed leaf has =
    leaves_found size pages owner root levels e tree
    (page_has pages (leaves levels) n e (on_leaves size pages owner levels n tree.nodes placed leaf) has)

-- and all is found again
pub beside_found : (size owner root : ℕ) (pool image last : Pages) (of_pool of_image : List (List ℕ))
    → ((m : ℕ) → InTree of_pool m → last m ≡ image m) → StaysUsed size image last
    → IsTreeKept size owner root pool image of_pool of_image → KeepsFound root image last
beside_found size owner root pool image last of_pool of_image same used kept =
    keeps_found size owner root image last of_image of_image kept.tree
    (tree_beside size image last owner root of_image (λ m has. same m (kept.behind.within m has)) used kept.tree)
    (λ e on. pages_as image last (leaves of_image) e (λ n has there.
    subst (λ (page : List ℕ). HasEntry (entries_of page) e)
    (sym (same n (kept.behind.within n (leaves_in of_image n has)))) there) on)
