-- A row of steps of an index tree: what is known at each of them.
use Rattle.std.specs.Prelude.{◌≡◌, ◌≢◌, ℕ, suc, Bool, List, Option}
use Rattle.mg_careful.specs.declared.links.Demand.{Demand}
use Rattle.mg_careful.specs.Precedence.{Orders}
use Rattle.mg_careful.specs.CarefulWrite.{DemandSet, IsIn, either, listed}
use Rattle.mg_image.specs.Form.{Pages}
use Rattle.mg_node.specs.NodePage.{level_in}
use Rattle.mg_space.specs.declared.links.TheConstants.{NODE}
use Rattle.mg_tree_overlay_laws.specs.TreeSteps.{grow_levels, split_levels}
use Rattle.mg_tree_overlay_laws.specs.TreeBatches.{ChangesTree, EntryChange, beside, done, grows, leaf, splits}
use Rattle.mg_demand_laws.specs.Steps.{no_more}
use Rattle.mg_demand_laws.specs.Wanting.{Pays}
use Rattle.mg_demand_laws.specs.NodeSteps.{IsNodeOf, WantsNode}

-- What is known of a page l that splits, and of the page p above: both are index pages, p stands one level above, and
-- the new right neighbour is wanted on l's level.
pub record KnowsSplit (size : ℕ) (old split named : Pages) (owner l r p : ℕ) (wanted : DemandSet) : Type 0 where
  pub left : IsNodeOf size old split l owner
  pub parent : IsNodeOf size split named p owner
  pub above : level_in (split p) ≡ suc (level_in (old l))
  pub right : WantsNode size wanted r owner (level_in (old l))

-- What is known of a root that splits: of itself only the tree is wanted, and its two halves are wanted on its level.
pub record KnowsGrowth (size : ℕ) (old new : Pages) (owner root a b : ℕ) (wanted : DemandSet) : Type 0 where
  pub root_ : IsNodeOf size old new root owner
  pub top : (d : Demand) → IsIn wanted d → d.target ≡ root → d.what ≢ NODE
  pub first : WantsNode size wanted a owner (level_in (old root))
  pub second : WantsNode size wanted b owner (level_in (old root))

-- What is known at each step of a row: one beside the tree, as that a page is taken or made, pays for what it newly
-- wants.
abbrev pub KnowsSteps : (size owner root : ℕ) (batch : ℕ → Option (List ℕ)) (orders : Orders)
    (change : EntryChange) (pool last : Pages) (levels ends : List (List ℕ))
    → ChangesTree size owner root batch orders change pool levels last ends → (ℕ → Bool) → DemandSet → DemandSet
    → Type 0
KnowsSteps size owner root batch orders change pool last levels ends (done v ls) settled on_disk wanted = Unit {0}
KnowsSteps size owner root batch orders change pool last levels ends
    (beside v next w ls es n others used some fresh more) settled on_disk wanted =
    (most : List Demand) × Pays size v next orders settled on_disk wanted (listed most)
    × KnowsSteps size owner root batch orders change next last levels ends more settled on_disk
    (either wanted (listed most))
KnowsSteps size owner root batch orders change pool last levels ends
    (splits v split named w ls es l r p e is order no_l no_p below fresh more) settled on_disk wanted =
    KnowsSplit size v split named owner l r p wanted
    × KnowsSteps size owner root batch orders change named last (split_levels l r levels) ends more settled on_disk
    (either (either wanted no_more) no_more)
KnowsSteps size owner root batch orders change pool last levels ends
    (grows v grown w ls es a b is order no_root more) settled on_disk wanted =
    KnowsGrowth size v grown owner root a b wanted
    × KnowsSteps size owner root batch orders change grown last (grow_levels root a b levels) ends more settled on_disk
    (either wanted no_more)
KnowsSteps size owner root batch orders change pool last levels ends
    (leaf v next w ls es n is low entries some no_inventory more) settled on_disk wanted =
    IsNodeOf size v next n owner
    × KnowsSteps size owner root batch orders change next last levels ends more settled on_disk (either wanted no_more)

-- a row pays, and this is what it newly wants
pub record PaysRow (size : ℕ) (old new : Pages) (orders : Orders) (settled : ℕ → Bool) (on_disk wanted : DemandSet)
    : Type 0 where
  pub more : List Demand
  pub pays : Pays size old new orders settled on_disk wanted (listed more)
