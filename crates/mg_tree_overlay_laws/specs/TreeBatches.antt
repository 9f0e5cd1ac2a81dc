-- A batch that changes an index, as a row of steps of the pool's own tree. The steps are splits from
-- the top down, and at last a leaf that changes in place. A step's pages that stand between are on no
-- disk and in no pool: they have to be lawful alone.
use Rattle.std.specs.Prelude.{◌≡◌, ◌≢◌, ◌⊎◌, ◌/◌, ℕ, true, List, Option, None}
use Rattle.mg_careful.specs.Precedence.{Orders}
use Rattle.mg_node.specs.declared.entry.Entry.{Entry}
use Rattle.mg_node.specs.NodePage.{entries_of, level_in}
use Rattle.mg_pip.specs.PipPage.{bits}
use Rattle.mg_image.specs.Form.{Pages}
use Rattle.mg_image.specs.Indexes.{Finds, HasEntry, IsTree}
use Rattle.mg_image.specs.Inventory.{inventory_page}
use Rattle.mg_tree_overlay_laws.specs.TreeSteps.{Grows, InTree, Rewrites, StaysUsed, grow_levels, split_levels}
use Rattle.mg_tree_overlay_laws.specs.TreesBehind.{SplitsNamed}

-- ---- what a batch does to the entries

-- an entry is added to an index, or removed, or its entries stay
pub data EntryChange : Type 0 where
  Add : Entry → EntryChange
  Remove : Entry → EntryChange
  Stay : EntryChange

-- an entry is not the one that is removed
abbrev pub IsLeft : EntryChange → Entry → Type 0
IsLeft (Add e) f = Unit {0}
IsLeft (Remove e) f = f ≢ e
IsLeft Stay f = Unit {0}

-- an entry is the one that is added
abbrev pub IsAdded : EntryChange → Entry → Type 0
IsAdded (Add e) f = f ≡ e
IsAdded (Remove e) f = ⊥
IsAdded Stay f = ⊥

-- Of the entries of a leaf those stay that are left, and no other comes but the one that is added.
pub record ChangesEntries (change : EntryChange) (old new : List Entry) : Type 0 where
  pub keeps : (f : Entry) → IsLeft change f → HasEntry old f → HasEntry new f
  pub only : (f : Entry) → HasEntry new f → HasEntry old f ⊎ IsAdded change f

-- ---- what a batch has to order

-- the page inventory page that has the bit of a page
abbrev pub inventory_of : ℕ → ℕ → ℕ
inventory_of size n = inventory_page size (n / bits size)

-- a page is none of the page inventory
abbrev pub IsNoInventory : ℕ → ℕ → Type 0
IsNoInventory size n = (m : ℕ) → inventory_of size m ≢ n

-- A split: the new right page and its bit are written before the left page, and the left page before
-- the one that comes to name the right page.
pub record OrdersSplit (size : ℕ) (batch : ℕ → Option (List ℕ)) (orders : Orders) (l r p : ℕ)
    : Type 0 where
  pub right : orders r l ≡ true
  pub bit : orders (inventory_of size r) l ≡ true
  pub left : orders l p ≡ true
  pub has_left : batch l ≢ None
  pub has_parent : batch p ≢ None

-- The root splits: both new pages and their bits are written before the root.
pub record OrdersRoot (size : ℕ) (batch : ℕ → Option (List ℕ)) (orders : Orders) (root a b : ℕ)
    : Type 0 where
  pub first : orders a root ≡ true
  pub second : orders b root ≡ true
  pub first_bit : orders (inventory_of size a) root ≡ true
  pub second_bit : orders (inventory_of size b) root ≡ true
  pub has_root : batch root ≢ None

-- ---- the row

-- A batch's steps from a pool to the last one, and from the levels of a tree to the last ones.
pub data ChangesTree (size owner root : ℕ) (batch : ℕ → Option (List ℕ)) (orders : Orders)
    (change : EntryChange) : Pages → List (List ℕ) → Pages → List (List ℕ) → Type 0 where
  done : (pool : Pages) (levels : List (List ℕ))
      → ChangesTree size owner root batch orders change pool levels pool levels
  -- a page that is in no level changes: a new page is put in place, its bit is set; a data page
  beside : (pool next last : Pages) (levels ends : List (List ℕ)) (n : ℕ)
      → ((m : ℕ) → m ≢ n → next m ≡ pool m) → StaysUsed size pool next → batch n ≢ None
      → (InTree levels n → ⊥)
      → ChangesTree size owner root batch orders change next levels last ends
      → ChangesTree size owner root batch orders change pool levels last ends
  -- a page below the root splits, on a page that has room for one entry more
  splits : (pool split named last : Pages) (levels ends : List (List ℕ)) (l r p : ℕ) (e : Entry)
      → SplitsNamed size pool split named owner levels l r p e
      → OrdersSplit size batch orders l r p → IsNoInventory size l → IsNoInventory size p
      → root ≢ l → (InTree levels r → ⊥)
      → ChangesTree size owner root batch orders change named (split_levels l r levels) last ends
      → ChangesTree size owner root batch orders change pool levels last ends
  -- the root splits
  grows : (pool grown last : Pages) (levels ends : List (List ℕ)) (a b : ℕ)
      → Grows size pool grown owner root a b → OrdersRoot size batch orders root a b
      → IsNoInventory size root
      → ChangesTree size owner root batch orders change grown (grow_levels root a b levels) last ends
      → ChangesTree size owner root batch orders change pool levels last ends
  -- a leaf changes in place
  leaf : (pool next last : Pages) (levels ends : List (List ℕ)) (n : ℕ)
      → Rewrites size pool next owner n → level_in (pool n) ≡ 0
      → ChangesEntries change (entries_of (pool n)) (entries_of (next n)) → batch n ≢ None
      → IsNoInventory size n
      → ChangesTree size owner root batch orders change next levels last ends
      → ChangesTree size owner root batch orders change pool levels last ends

-- A tree after a batch: an entry is found that was found and is left, and no other but the one that is
-- added.
pub record HasChanged (size owner root : ℕ) (change : EntryChange) (pool last : Pages)
    (ends : List (List ℕ)) : Type 0 where
  pub tree : IsTree size last owner root ends
  pub keeps : (f : Entry) → IsLeft change f → Finds pool f root → Finds last f root
  pub only : (f : Entry) → Finds last f root → Finds pool f root ⊎ IsAdded change f
