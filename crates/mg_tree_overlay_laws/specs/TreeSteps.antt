-- Steps of an index tree: what one page of it becomes, told of contents alone.
use Rattle.std.specs.Prelude.{◌≡◌, ◌≢◌, ◌⊎◌, ◌<◌, ◌≤◌, ◌==◌, ℕ, suc, true, false, List, [], ◌∷◌, ◌++◌, Some, if◌then◌else◌}
use Rattle.mg_base.specs.Checks.{PassesAll}
use Rattle.mg_node.specs.declared.entry.Entry.{Entry}
use Rattle.mg_node.specs.NodePage.{IsNodePage, count_in, entries_of, has_high, has_low, high_of, level_in, low_of, node_checks, right_in}
use Rattle.mg_image.specs.Form.{Pages}
use Rattle.mg_image.specs.Indexes.{HasChildren, as_fence, first_child, first_level}
use Rattle.mg_image.specs.Inventory.{is_used}
use Rattle.mg_image.specs.Reached.{IsAsWanted}
use Rattle.mg_image.specs.Tables.{Has}

-- ---- the pages of a tree, and what a step makes of their lists

-- a page stands on one of these levels
abbrev pub InTree : List (List ℕ) → ℕ → Type 0
InTree [] n = ⊥
InTree (level ∷ levels) n = Has level n ⊎ InTree levels n

-- these pages, with a page behind another where that is one of them
abbrev pub after : ℕ → ℕ → List ℕ → List ℕ
after l r [] = []
after l r (n ∷ ns) = if n == l then n ∷ r ∷ after l r ns else n ∷ after l r ns

-- the same in each level: a page was split
abbrev pub split_levels : ℕ → ℕ → List (List ℕ) → List (List ℕ)
split_levels l r [] = []
split_levels l r (level ∷ levels) = after l r level ∷ split_levels l r levels

-- the root's content stands on two pages below it: a tree has one level more
abbrev pub grow_levels : ℕ → ℕ → ℕ → List (List ℕ) → List (List ℕ)
grow_levels root a b [] = []
grow_levels root a b (top ∷ below) = (root ∷ []) ∷ (a ∷ b ∷ []) ∷ below

-- the level below that of a page has a property, wherever the page stands
abbrev pub Under : (List ℕ → Type 0) → List (List ℕ) → ℕ → Type 0
Under P [] n = Unit {0}
Under P (level ∷ below) n = (Has level n → P (first_level below)) × Under P below n

-- what was used is used
abbrev pub StaysUsed : ℕ → Pages → Pages → Type 0
StaysUsed size old new = (m : ℕ) → is_used size old m ≡ true → is_used size new m ≡ true

-- ---- a page splits

-- A page l gives its last entries to a page r, which is in place and in no tree; l comes to name r as
-- its right neighbour. All of it is said of the two contents and of r's use, nothing of where they
-- stand.
pub record Splits (size : ℕ) (old new : Pages) (owner l r : ℕ) : Type 0 where
  pub others : (m : ℕ) → m ≢ l → new m ≡ old m
  pub used : StaysUsed size old new
  pub apart : r ≢ l
  pub some : r ≢ 0
  pub left_fields : PassesAll (node_checks (new l) l owner)
  pub left_lawful : IsNodePage (new l)
  pub right_wanted : IsAsWanted size old r (node_checks (old r) r owner)
  pub right_lawful : IsNodePage (old r)
  pub left_level : level_in (new l) ≡ level_in (old l)
  pub right_level : level_in (old r) ≡ level_in (old l)
  pub goes_to : right_in (new l) ≡ r
  pub goes_on : right_in (old r) ≡ right_in (old l)
  pub low : low_of (new l) ≡ low_of (old l)
  pub middle : high_of (new l) ≡ low_of (old r)
  pub high : high_of (old r) ≡ high_of (old l)
  -- what the left page keeps, what the right one gets, and the fence between
  pub first : Entry
  pub kept : List Entry
  pub given : Entry
  pub rest : List Entry
  pub left_is : entries_of (new l) ≡ first ∷ kept
  pub right_is : entries_of (old r) ≡ given ∷ rest
  pub was : entries_of (old l) ≡ first ∷ kept ++ given ∷ rest
  pub fence : low_of (old r) ≡ Some (as_fence given)
  pub left_two : 0 < level_in (old l) → 2 ≤ count_in (new l)
  pub right_two : 0 < level_in (old l) → 2 ≤ count_in (old r)

-- ---- a page changes in place

-- A page n of an owner changes in place: its level, its fences and its right neighbour stay.
pub record Rewrites (size : ℕ) (old new : Pages) (owner n : ℕ) : Type 0 where
  pub others : (m : ℕ) → m ≢ n → new m ≡ old m
  pub used : StaysUsed size old new
  pub fields : PassesAll (node_checks (new n) n owner)
  pub lawful : IsNodePage (new n)
  pub level : level_in (new n) ≡ level_in (old n)
  pub right : right_in (new n) ≡ right_in (old n)
  pub low : low_of (new n) ≡ low_of (old n)
  pub high : high_of (new n) ≡ high_of (old n)
  -- an inner page keeps its first child, and has two entries
  pub two : 0 < level_in (old n) → 2 ≤ count_in (new n)
  pub first : 0 < level_in (old n)
      → first_child (entries_of (new n)) ≡ first_child (entries_of (old n))

-- where an inner page had its children on a level, it has them there again
abbrev pub KeepsChildren : Pages → Pages → ℕ → List ℕ → Type 0
KeepsChildren old new n below = 0 < level_in (old n)
    → HasChildren old below (low_of (old n)) (entries_of (old n))
    → HasChildren old below (low_of (old n)) (entries_of (new n))

-- An inner page gets an entry behind its first one, for a page with that low fence.
pub record Names (old new : Pages) (n : ℕ) (e : Entry) : Type 0 where
  pub first : Entry
  pub front : List Entry
  pub back : List Entry
  pub was : entries_of (old n) ≡ first ∷ front ++ back
  pub is : entries_of (new n) ≡ first ∷ front ++ e ∷ back
  pub fence : low_of (old e.child.0) ≡ Some (as_fence e)

-- ---- the root splits

-- The content of a root stands on two pages a and b, which are in place, and the root comes to name
-- them.
pub record Grows (size : ℕ) (old new : Pages) (owner root a b : ℕ) : Type 0 where
  pub others : (m : ℕ) → m ≢ root → new m ≡ old m
  pub used : StaysUsed size old new
  pub some : (root ≢ 0) × (a ≢ 0) × (b ≢ 0)
  pub apart : (a ≢ root) × (b ≢ root)
  pub root_fields : PassesAll (node_checks (new root) root owner)
  pub root_lawful : IsNodePage (new root)
  pub a_wanted : IsAsWanted size old a (node_checks (old a) a owner)
  pub a_lawful : IsNodePage (old a)
  pub b_wanted : IsAsWanted size old b (node_checks (old b) b owner)
  pub b_lawful : IsNodePage (old b)
  pub root_level : level_in (new root) ≡ suc (level_in (old root))
  pub a_level : level_in (old a) ≡ level_in (old root)
  pub b_level : level_in (old b) ≡ level_in (old root)
  pub root_right : right_in (new root) ≡ 0
  pub a_right : right_in (old a) ≡ b
  pub b_right : right_in (old b) ≡ 0
  pub root_low : has_low (new root) ≡ false
  pub root_high : has_high (new root) ≡ false
  pub a_low : has_low (old a) ≡ false
  pub a_high : has_high (old a) ≡ true
  pub middle : high_of (old a) ≡ low_of (old b)
  pub b_high : has_high (old b) ≡ false
  -- what each of them gets, and the fence between
  pub first : Entry
  pub kept : List Entry
  pub given : Entry
  pub rest : List Entry
  pub a_is : entries_of (old a) ≡ first ∷ kept
  pub b_is : entries_of (old b) ≡ given ∷ rest
  pub was : entries_of (old root) ≡ first ∷ kept ++ given ∷ rest
  pub fence : low_of (old b) ≡ Some (as_fence given)
  pub a_two : 0 < level_in (old root) → 2 ≤ count_in (old a)
  pub b_two : 0 < level_in (old root) → 2 ≤ count_in (old b)
  -- the root's two entries
  pub to_a : Entry
  pub to_b : Entry
  pub root_two : 2 ≤ count_in (new root)
  pub root_is : entries_of (new root) ≡ to_a ∷ to_b ∷ []
  pub a_child : to_a.child.0 ≡ a
  pub b_child : to_b.child.0 ≡ b
  pub b_fence : as_fence to_b ≡ as_fence given
