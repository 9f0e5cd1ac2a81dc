-- The search for an entry in a tree whose pages are known: along a level, and down.
use Rattle.std.specs.Prelude.{◌≢◌, ◌↔◌, ◌==◌, ℕ, List, [], ◌∷◌, length, IfSome, if◌then◌else◌}
use Rattle.std.specs.declared.cmp.Ordering.{Ordering}
use Rattle.std.specs.declared.cmp.Ordering.TheVariants.{Less, Equal, Greater}
use Rattle.mg_model.specs.declared.table.Index.{Index}
use Rattle.mg_node.specs.declared.entry.Entry.{Entry}
use Rattle.mg_node.specs.declared.node.Node.{Node}
use Rattle.mg_node.specs.NodePage.{IsAtLeast, IsBelow, entry_cmp, high_of, low_of}
use Rattle.mg_node.specs.NodeReading.{IsNodeOf}
use Rattle.mg_image.specs.Form.{Pages}
use Rattle.mg_image.specs.Indexes.{AreNodes, AreTrees, EachPage, Finds, IsNode, IsTree, LevelChain, first_level}
use Rattle.mg_image.specs.Tables.{Has}

-- there is an owner whose index is a tree with these levels
abbrev pub IsTreeOf : ℕ → Pages → ℕ → List (List ℕ) → Type 0
IsTreeOf size pages root levels = (owner : ℕ) × IsTree size pages owner root levels

-- there is an owner whose indexes are trees with these levels
abbrev pub HasTrees : ℕ → Pages → List Index → List (List (List ℕ)) → Type 0
HasTrees size pages indexes trees = (owner : ℕ) × AreTrees size pages owner indexes trees

-- the first of these pages, 0 where there is none
abbrev pub first_page : List ℕ → ℕ
first_page [] = 0
first_page (n ∷ ns) = n

-- these pages from one of them on
abbrev pub pages_from : ℕ → List ℕ → List ℕ
pages_from n [] = []
pages_from n (m ∷ ms) = if m == n then m ∷ ms else pages_from n ms

-- each of these levels is the chain from some page on
abbrev pub AreChained : Pages → List (List ℕ) → Type 0
AreChained pages [] = Unit {0}
AreChained pages (level ∷ levels) =
    ((first : ℕ) × LevelChain pages first level) × AreChained pages levels

-- an entry does not come before the low fence of a page
abbrev pub IsFrom : Pages → Entry → ℕ → Type 0
IsFrom pages e n = IfSome (low_of (pages n)) (λ fence. IsAtLeast e fence)

-- These are pages of an index from one on, to its level's end, and the entry does not come before
-- their first.
pub record IsAlong (pages : Pages) (e : Entry) (ns : List ℕ) : Type 0 where
  pub size : ℕ
  pub owner : ℕ
  pub level : ℕ
  pub below : List ℕ
  pub some : first_page ns ≢ 0
  pub chain : LevelChain pages (first_page ns) ns
  pub nodes : EachPage (IsNode size pages owner level below) ns
  pub reached : IsFrom pages e (first_page ns)

-- The same, with the levels below.
pub record IsSearched (size : ℕ) (pages : Pages) (e : Entry) (ns : List ℕ)
    (below : List (List ℕ)) : Type 0 where
  pub owner : ℕ
  pub some : first_page ns ≢ 0
  pub chain : LevelChain pages (first_page ns) ns
  pub nodes : EachPage (IsNode size pages owner (length below) (first_level below)) ns
  pub lower : AreNodes size pages owner below
  pub chained : AreChained pages below
  pub reached : IsFrom pages e (first_page ns)

-- A node is that of the page on which an entry lies: it is found from there where it is found from
-- the first one on.
pub record IsPageFor (pages : Pages) (e : Entry) (ns : List ℕ) (node : Node) : Type 0 where
  pub page : ℕ
  pub node_of : IsNodeOf (pages page) node
  pub placed : Has ns page
  pub reached : IsFrom pages e page
  pub before : IfSome (high_of (pages page)) (λ fence. IsBelow e fence)
  pub same : Finds pages e (first_page ns) ↔ Finds pages e page

-- the one of two children by how an entry compares with that of the second
abbrev pub by_order : Ordering → ℕ → ℕ → ℕ
by_order Less child next = child
by_order Equal child next = next
by_order Greater child next = next

-- the child to go down by, after one entry more
abbrev pub child_after : Entry → ℕ → Entry → ℕ
child_after e child next = by_order (entry_cmp e next) child next.child.0

-- the child of the last of these entries that does not come behind another entry
abbrev pub last_child : Entry → ℕ → List Entry → ℕ
last_child e child [] = child
last_child e child (next ∷ es) = last_child e (child_after e child next) es
