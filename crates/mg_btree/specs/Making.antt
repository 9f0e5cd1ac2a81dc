-- What the parts of a split do: a page is taken, the page above is found, and the pages are put.
use Rattle.std.specs.Prelude.{◌≡◌, ◌≤◌, ◌/◌, ℕ, suc, List, length, Result, Ok, Err}
use Rattle.mg_base.specs.declared.geometry.Geometry.{Geometry}
use Rattle.mg_node.specs.declared.entry.Entry.{Entry}
use Rattle.mg_image.specs.Form.{Pages}
use Rattle.mg_pool.specs.Batch.{Changed}
use Rattle.mg_space.specs.Taking.{RefusesTake}
use Rattle.mg_space.specs.declared.fault.SpaceFault.{SpaceFault}
use Rattle.mg_tree_overlay_laws.specs.TreeSteps.{InTree}
use Rattle.mg_btree.specs.declared.growing.Growth.{Growth}
use Rattle.mg_btree.specs.declared.growing.TwoPages.{TwoPages}
use Rattle.mg_btree.specs.declared.halves.Halves.{Halves}
use Rattle.mg_btree.specs.declared.halves.PageBytes.{PageBytes}
use Rattle.mg_btree.specs.declared.making.Split.{Split}
use Rattle.mg_btree.specs.Growing.{IsGrowth}
use Rattle.mg_btree.specs.Halves.{AreHalves, IsHalfFor, NamesMore, RefusesName}
use Rattle.mg_btree.specs.Ordering.{AddsOrders, PutsThree, root_orders, split_orders}
use Rattle.mg_btree.specs.Rooms.{TakesInto}
use Rattle.mg_btree.specs.Searching.{IsReached}

-- a page was taken for the right half, or it was refused
abbrev pub TakesRight : Geometry → Pages → Pages → Changed → Result Halves SpaceFault → Type 0
TakesRight g old new batch (Ok halves) = TakesInto g old new batch halves.right.page.0
TakesRight g old new batch (Err fault) = RefusesTake g old fault

-- A page was split, and the page above was read that covers the fence between the halves.
pub record IsSplit (size owner level : ℕ) (full : PageBytes) (split : Split) : Type 0 where
  pub at : ℕ
  pub halves : AreHalves full.bytes full.page.0 at split.halves
  pub short : length split.halves.fence.key ≤ size / 8
  pub above : IsReached size owner (suc level) split.halves.fence split.above

-- in a tree the page above is one of its pages; or no page was taken
abbrev pub TakesAbove : Geometry → Pages → Pages → Changed → List (List ℕ) → Result Split SpaceFault
    → Type 0
TakesAbove g old new batch levels (Ok split) = TakesInto g old new batch split.halves.right.page.0
    × (split.above.bytes ≡ new split.above.page.0) × InTree levels split.above.page.0
TakesAbove g old new batch levels (Err fault) = RefusesTake g old fault

-- The pages of a split were put, the right half first, with their orders.
pub record PutsSplit (size : ℕ) (old new : Changed) (halves : Halves) (p : ℕ) (named : List ℕ)
    : Type 0 where
  pub put : Changed
  pub puts : PutsThree old put halves.right.page.0 halves.left.page.0 p halves.right.bytes
      halves.left.bytes named
  pub orders : AddsOrders put new (split_orders size halves.names.items halves.left.page.0
      halves.right.page.0 p)

-- A split was put whole, with its right half named on the page above; the half is given to which an
-- entry belongs.
pub record SplitsPage (size : ℕ) (old new : Changed) (halves : Halves) (above : PageBytes) (e : Entry)
    (half : PageBytes) : Type 0 where
  pub named : List ℕ
  pub names : NamesMore above.bytes named halves.fence
  pub puts : PutsSplit size old new halves above.page.0 named
  pub is_half : IsHalfFor halves e half

-- or the page above does not take the right half
abbrev pub SplitsIn : ℕ → Changed → Changed → Halves → PageBytes → Entry → Result PageBytes SpaceFault
    → Type 0
SplitsIn size old new halves above e (Ok half) = SplitsPage size old new halves above e half
SplitsIn size old new halves above e (Err fault) = RefusesName above.page above.bytes halves.fence fault

-- The pages of a root that splits were put, its halves first, with their orders.
pub record PutsRoot (size : ℕ) (old new : Changed) (growth : Growth) : Type 0 where
  pub put : Changed
  pub puts : PutsThree old put growth.halves.left.page.0 growth.halves.right.page.0 growth.root.page.0
      growth.halves.left.bytes growth.halves.right.bytes growth.root.bytes
  pub orders : AddsOrders put new (root_orders size growth.names.items growth.halves.names.items
      growth.root.page.0 growth.halves.left.page.0 growth.halves.right.page.0)

-- A root was split whole; the half is given to which an entry belongs.
pub record SplitsRoot (size : ℕ) (old new : Changed) (owner level : ℕ) (full : PageBytes) (two : TwoPages)
    (e : Entry) (half : PageBytes) : Type 0 where
  pub growth : Growth
  pub is : IsGrowth owner full.page.0 level two.first.0 two.second.0 full.bytes growth
  pub puts : PutsRoot size old new growth
  pub is_half : IsHalfFor growth.halves e half
