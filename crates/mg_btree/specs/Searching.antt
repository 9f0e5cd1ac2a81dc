-- The search for the page of a level between whose fences an entry lies.
use Rattle.std.specs.Prelude.{◌≡◌, ◌≤◌, ℕ, suc, List, [], ◌∷◌, length, Result, Ok, Err, IfSome}
use Rattle.std.specs.declared.cmp.Ordering.{Ordering}
use Rattle.std.specs.declared.cmp.Ordering.TheVariants.{Less, Equal, Greater}
use Rattle.mg_base.specs.declared.numbers.PageNo.{PageNo}
use Rattle.mg_node.specs.declared.entry.Entry.{Entry}
use Rattle.mg_node.specs.NodePage.{IsAtLeast, IsBelow, entry_cmp, high_of, level_in, low_of}
use Rattle.mg_node.specs.NodeReading.{IsNodeOf}
use Rattle.mg_image.specs.Form.{Pages}
use Rattle.mg_image.specs.Indexes.{IsTree, LevelChain}
use Rattle.mg_space.specs.declared.fault.SpaceFault.{SpaceFault}
use Rattle.mg_space.specs.declared.fault.SpaceFault.TheVariants.{Full, Pool as OfPool, Damaged as OfPage}
use Rattle.mg_tree_overlay_laws.specs.TreeSteps.{InTree}
use Rattle.mg_tree_overlay_laws.specs.TreesBehind.{IsFrom}
use Rattle.mg_btree.specs.declared.node.ReadNode.{ReadNode}
use Rattle.mg_btree.specs.Reading.{IsNodeOn}

-- A search goes on from a page of a level of a tree, before whose low fence the entry does not come.
pub record BeginsAt (size : ℕ) (pages : Pages) (owner root : ℕ) (levels : List (List ℕ)) (e : Entry)
    (level n : ℕ) : Type 0 where
  pub tree : IsTree size pages owner root levels
  pub placed : InTree levels n
  pub on_level : level_in (pages n) ≡ level
  pub from : IsFrom pages e n

-- A page that was read lies on a level, and the entry between its fences.
pub record IsReached (size owner level : ℕ) (e : Entry) (read : ReadNode) : Type 0 where
  pub len : length read.bytes ≡ size
  pub is : IsNodeOn owner level read.page.0 read.bytes
  pub says : IsNodeOf read.bytes read.node
  pub from : IfSome (low_of read.bytes) (λ fence. IsAtLeast e fence)
  pub below : IfSome (high_of read.bytes) (λ fence. IsBelow e fence)

-- in a tree a search comes to a page of it, and meets no damage
abbrev pub ComesTo : Pages → List (List ℕ) → Result ReadNode SpaceFault → Type 0
ComesTo pages levels (Ok read) = (read.bytes ≡ pages read.page.0) × InTree levels read.page.0
ComesTo pages levels (Err (Full limit)) = ⊥
ComesTo pages levels (Err (OfPage damage)) = ⊥
ComesTo pages levels (Err (OfPool fault)) = Unit {0}

-- in a tree a search on a level above the leaves goes on from a child, and meets no damage
abbrev pub PassesTo : ℕ → Pages → ℕ → ℕ → List (List ℕ) → Entry → ℕ → Result PageNo SpaceFault → Type 0
PassesTo size pages owner root levels e level (Ok child) = (lower : ℕ) → level ≡ suc lower
    → BeginsAt size pages owner root levels e lower child.0
PassesTo size pages owner root levels e level (Err (Full limit)) = ⊥
PassesTo size pages owner root levels e level (Err (OfPage damage)) = ⊥
PassesTo size pages owner root levels e level (Err (OfPool fault)) = Unit {0}

-- so many pages follow from a page on, at most
pub record IsShort (pages : Pages) (n most : ℕ) : Type 0 where
  pub rest : List ℕ
  pub chain : LevelChain pages n rest
  pub few : length rest ≤ most

-- the one of two children by how an entry compares with that of the second
abbrev pub by_order : Ordering → ℕ → ℕ → ℕ
by_order Less child next = child
by_order Equal child next = next
by_order Greater child next = next

-- the child of the last of these entries that does not come behind another entry
abbrev pub child_to : Entry → ℕ → List Entry → ℕ
child_to e child [] = child
child_to e child (next ∷ es) = child_to e (by_order (entry_cmp e next) child next.child.0) es
