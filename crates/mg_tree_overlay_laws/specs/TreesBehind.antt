-- What a tree of an image has to be beside the pool's: a tree, behind the pool's, in which an entry is
-- found exactly where a leaf has it.
use Rattle.std.specs.Prelude.{◌≡◌, ◌≢◌, ◌⊎◌, ◌<◌, ℕ, suc, List, [], ◌∷◌, Some, IfSome}
use Rattle.mg_careful.specs.CarefulWrite.{Cache, IsClosed, PageSet, overlay}
use Rattle.mg_node.specs.declared.entry.Entry.{Entry}
use Rattle.mg_node.specs.NodePage.{IsAtLeast, IsBelow, entries_of, high_of, level_in, low_of, right_in}
use Rattle.mg_image.specs.Form.{Pages}
use Rattle.mg_image.specs.Indexes.{Finds, HasEntry, IsTree}
use Rattle.mg_tree_overlay_laws.specs.TreeSteps.{InTree, Names, Rewrites, Splits}

-- ---- what the leaves have

-- one of these pages has an entry
abbrev pub OnPages : Pages → List ℕ → Entry → Type 0
OnPages pages [] e = ⊥
OnPages pages (n ∷ ns) e = HasEntry (entries_of (pages n)) e ⊎ OnPages pages ns e

-- the last of these levels
abbrev pub leaves : List (List ℕ) → List ℕ
leaves [] = []
leaves (level ∷ []) = level
leaves (level ∷ next ∷ below) = leaves (next ∷ below)

-- a leaf has an entry
abbrev pub InLeaves : Pages → List (List ℕ) → Entry → Type 0
InLeaves pages levels e = OnPages pages (leaves levels) e

-- ---- a tree behind another

-- one of these entries has a child
abbrev pub HasChild : List Entry → ℕ → Type 0
HasChild [] n = ⊥
HasChild (e ∷ es) n = (e.child.0 ≡ n) ⊎ HasChild es n

-- an inner page of a tree names a page
abbrev pub IsNamed : Pages → List (List ℕ) → ℕ → Type 0
IsNamed pages levels n =
    (m : ℕ) × InTree levels m × (0 < level_in (pages m)) × HasChild (entries_of (pages m)) n

-- What relates a tree of an image to the pool's: its pages are pages of the pool's tree, and a page
-- that no page of the pool's tree names (the root, and one that a crash left in its chain alone) is
-- in the image's tree. Which content these pages have, older or newer, is not asked.
pub record IsTreeBehind (pool image : Pages) (of_pool of_image : List (List ℕ)) : Type 0 where
  pub within : (n : ℕ) → InTree of_image n → InTree of_pool n
  pub unnamed : (n : ℕ) → InTree of_pool n → IsNamed pool of_pool n ⊎ InTree of_image n

-- A tree of an image, behind the pool's.
pub record IsTreeKept (size owner root : ℕ) (pool image : Pages) (of_pool of_image : List (List ℕ))
    : Type 0 where
  pub tree : IsTree size image owner root of_image
  pub behind : IsTreeBehind pool image of_pool of_image

-- there is such a tree
abbrev pub HasKeptTree : ℕ → ℕ → ℕ → Pages → Pages → List (List ℕ) → Type 0
HasKeptTree size owner root pool image of_pool =
    (of_image : List (List ℕ)) × IsTreeKept size owner root pool image of_pool of_image

-- all is found from the root that was
abbrev pub KeepsFound : ℕ → Pages → Pages → Type 0
KeepsFound root image last = (e : Entry) → Finds image e root → Finds last e root

-- Every overlay of a cache has a tree: that of the pool, and behind it one in the overlay of each closed
-- set of dirty pages.
pub record EveryTree (size owner root : ℕ) (cache : Cache) (levels : List (List ℕ)) : Type 0 where
  pub pool : IsTree size cache.pool owner root levels
  pub overlays : (set_ : PageSet) → IsClosed cache set_
      → HasKeptTree size owner root cache.pool (overlay cache set_) levels

-- ---- the page on which a split is named

-- A page of the pool's tree is that on which the right half of another is to be named: it names the
-- other, or no page does.
pub record IsParent (pool : Pages) (levels : List (List ℕ)) (p l : ℕ) : Type 0 where
  pub parent : InTree levels p
  pub child : InTree levels l
  pub level : level_in (pool p) ≡ suc (level_in (pool l))
  pub names : HasChild (entries_of (pool p)) l ⊎ (IsNamed pool levels l → ⊥)

-- The pool's two steps, after the right page was put in place: l gives its last entries to r, and p
-- comes to name r.
pub record SplitsNamed (size : ℕ) (pool split named : Pages) (owner : ℕ) (levels : List (List ℕ))
    (l r p : ℕ) (e : Entry) : Type 0 where
  pub splits : Splits size pool split owner l r
  pub rewrites : Rewrites size split named owner p
  pub names : Names split named p e
  pub child : e.child.0 ≡ r
  pub apart : (p ≢ l) × (p ≢ r)
  pub parent : IsParent pool levels p l

-- ---- a search on its way down

-- an entry does not come before the low fence of a page
abbrev pub IsFrom : Pages → Entry → ℕ → Type 0
IsFrom pages e n = IfSome (low_of (pages n)) (λ fence. IsAtLeast e fence)

-- an entry lies between the fences of a page
abbrev pub Covers : Pages → ℕ → Entry → Type 0
Covers pages n e = IsFrom pages e n × IfSome (high_of (pages n)) (λ fence. IsBelow e fence)

-- a page is come to from another, to the right over fences that an entry isn't below
pub data GoesRight (pages : Pages) (e : Entry) (c : ℕ) : ℕ → Type 0 where
  stays : GoesRight pages e c c
  over : (n : ℕ) (fence : Entry) → GoesRight pages e c n → high_of (pages n) ≡ Some fence
      → IsAtLeast e fence → GoesRight pages e c (right_in (pages n))
