-- What is read of an index tree: its levels one by one, and what a page owes to the others.
use Rattle.std.specs.Prelude.{◌≡◌, ◌≢◌, ◌≤◌, ◌==◌, ℕ, suc, not, List, length, Option, Some, IfSome, is_some}
use Rattle.mg_node.specs.declared.entry.Entry.{Entry}
use Rattle.mg_node.specs.declared.node.Node.{Node}
use Rattle.mg_node.specs.NodePage.{IsBelow, IsNodePage, level_in, low_of, node_checks, right_in}
use Rattle.mg_image.specs.Form.{Pages}
use Rattle.mg_image.specs.Indexes.{AreNodes, EachPage, HasChildren, IsTree, LevelChain, Levels, as_fence}
use Rattle.mg_image.specs.Reached.{IsAsWanted}
use Rattle.mg_image.specs.Tables.{Has}

-- A page of an index, so many levels above the leaves, by itself.
pub record IsLevelPage (size : ℕ) (pages : Pages) (owner level n : ℕ) : Type 0 where
  pub wanted : IsAsWanted size pages n (node_checks (pages n) n owner)
  pub lawful : IsNodePage (pages n)
  pub on_level : level_in (pages n) ≡ level

-- The pages of a level from one on, each by itself.
pub record IsLevelFrom (size : ℕ) (pages : Pages) (owner level first : ℕ) (ns : List ℕ)
    : Type 0 where
  pub chain : LevelChain pages first ns
  pub each : EachPage (IsLevelPage size pages owner level) ns

-- there are pages of a level from one on
abbrev pub HasLevelFrom : ℕ → Pages → ℕ → ℕ → ℕ → Type 0
HasLevelFrom size pages owner level first =
    (ns : List ℕ) × IsLevelFrom size pages owner level first ns

-- The levels from a page on, so many levels above the leaves.
pub record AreLevelsFrom (size : ℕ) (pages : Pages) (owner level first : ℕ)
    (levels : List (List ℕ)) : Type 0 where
  pub levels_from : Levels pages first levels
  pub nodes : AreNodes size pages owner levels
  pub count : length levels ≡ suc level

-- there are levels from a page on
abbrev pub HasLevelsFrom : ℕ → Pages → ℕ → ℕ → ℕ → Type 0
HasLevelsFrom size pages owner level first =
    (levels : List (List ℕ)) × AreLevelsFrom size pages owner level first levels

-- there is a tree from a root on
abbrev pub HasTree : ℕ → Pages → ℕ → ℕ → Type 0
HasTree size pages owner root = (levels : List (List ℕ)) × IsTree size pages owner root levels

-- each of these pages is a lawful index page
abbrev pub AreLawful : Pages → List ℕ → Type 0
AreLawful pages ns = EachPage (λ n. IsNodePage (pages n)) ns

-- A page of an index by itself, whose right neighbour is a lawful index page.
pub record IsBounded (size : ℕ) (pages : Pages) (owner level n : ℕ) : Type 0 where
  pub page : IsLevelPage size pages owner level n
  pub neighbour : right_in (pages n) ≢ 0 → IsNodePage (pages (right_in (pages n)))

-- the child of an entry stands on a level, and its low fence is the entry
abbrev pub IsChild : Pages → List ℕ → Entry → Type 0
IsChild pages below e =
    Has below e.child.0 × (low_of (pages e.child.0) ≡ Some (as_fence e))

-- the child of an entry stands on a level, and has this low fence
abbrev pub IsFirstChild : Pages → List ℕ → Option Entry → Entry → Type 0
IsFirstChild pages below low e = Has below e.child.0 × (low_of (pages e.child.0) ≡ low)

-- the low fence of a page is less than its high one, where it has both
abbrev pub AreFencesApart : Option Entry → Option Entry → Type 0
AreFencesApart low high = IfSome low (λ l. IfSome high (λ h. IsBelow l h))

-- A page has a high fence exactly where it has a right neighbour, whose low fence is the same, and
-- its own low fence is less than that.
pub record HasFences (pages : Pages) (node : Node) : Type 0 where
  pub high : is_some node.high ≡ not (node.right.0 == 0)
  pub fence : node.right.0 ≢ 0 → low_of (pages node.right.0) ≡ node.high
  pub apart : AreFencesApart node.low node.high

-- An inner page has two entries or more, and their children stand on the level below.
pub record IsInner (pages : Pages) (below : List ℕ) (node : Node) : Type 0 where
  pub two : 2 ≤ length node.entries.items
  pub children : HasChildren pages below node.low node.entries.items
