-- How the pages of an index tree are wanted, and what a row of steps pays that takes its own new pages.
use Rattle.std.specs.Prelude.{◌≡◌, ◌≢◌, ◌⊎◌, ℕ, Bool, true, false, List}
use Rattle.mg_btree.specs.Changing.{HasNoInventory}
use Rattle.mg_careful.specs.declared.links.Demand.{Demand}
use Rattle.mg_careful.specs.Precedence.{Orders}
use Rattle.mg_careful.specs.CarefulWrite.{DemandSet, Has, IsIn, either, listed}
use Rattle.mg_image.specs.Form.{Pages}
use Rattle.mg_image.specs.Indexes.{IsTree}
use Rattle.mg_image.specs.Inventory.{inventory_page, is_used}
use Rattle.mg_image.specs.Tables.{Has as IsOneOf}
use Rattle.mg_node.specs.NodePage.{level_in}
use Rattle.mg_space.specs.Taking.{region_of}
use Rattle.mg_space.specs.declared.links.TheConstants.{BIT, NODE, TREE}
use Rattle.mg_tree_overlay_laws.specs.TreeSteps.{InTree, StaysUsed}
use Rattle.mg_demand_laws.specs.Steps.{IsUnwanted}
use Rattle.mg_demand_laws.specs.Wanting.{Pays, want_of}
use Rattle.mg_demand_laws.specs.NodeSteps.{WantsNode}

-- The pages of a tree are wanted: its root as the top of a tree, and not as a page of a level; each other page as one of
-- its level.
pub record WantsTree (size : ℕ) (pages : Pages) (owner root : ℕ) (levels : List (List ℕ)) (wanted : DemandSet)
    : Type 0 where
  pub top : IsIn wanted (want_of root TREE owner 0)
  pub alone : (d : Demand) → IsIn wanted d → d.target ≡ root → d.what ≢ NODE
  pub below : (n : ℕ) → InTree levels n → n ≢ root → WantsNode size wanted n owner (level_in (pages n))

-- A tree stands, none of its pages is one of the page inventory, and they are wanted.
pub record StandsWanted (size : ℕ) (pages : Pages) (owner root : ℕ) (levels : List (List ℕ)) (wanted : DemandSet)
    : Type 0 where
  pub tree : IsTree size pages owner root levels
  pub no_inventory : HasNoInventory size levels
  pub wants : WantsTree size pages owner root levels wanted

-- A page was taken: its bit is wanted, and of the page itself nothing until the tree has it.
pub record IsReady (size : ℕ) (pages : Pages) (levels : List (List ℕ)) (wanted : DemandSet) (n : ℕ) : Type 0 where
  pub off_inventory : (region : ℕ) → inventory_page size region ≢ n
  pub used : is_used size pages n ≡ true
  pub bit : IsIn wanted (want_of (inventory_page size (region_of size n)) BIT n 0)
  pub unwanted : (InTree levels n → ⊥) → IsUnwanted wanted n

-- a bit of the page inventory, or an index page that was not used before, or that is one of these
abbrev pub IsNew : ℕ → Pages → List ℕ → Demand → Type 0
IsNew size pages taken d =
    (d.what ≡ BIT) ⊎ ((d.what ≡ NODE) × (IsOneOf taken d.target ⊎ (is_used size pages d.target ≡ false)))

-- One step pays for a list of what it newly wants, bits and new index pages alone; the tree stands behind it, its
-- pages are wanted, and what was ready is so still.
pub record StepsOn (size : ℕ) (old new : Pages) (owner root : ℕ) (levels ends : List (List ℕ)) (taken : List ℕ)
    (orders : Orders) (settled : ℕ → Bool) (on_disk wanted : DemandSet) (more : List Demand) : Type 0 where
  pub pays : Pays size old new orders settled on_disk wanted (listed more)
  pub stands : StandsWanted size new owner root ends (either wanted (listed more))
  pub used : StaysUsed size old new
  pub ready : (n : ℕ) → IsReady size old levels wanted n → IsReady size new ends (either wanted (listed more)) n
  pub own : (d : Demand) → Has more d → IsNew size old taken d

-- A change of a tree pays for what it newly wants, bits and new index pages alone; and the tree stands then, and its
-- pages are wanted.
pub record PaysTree (size : ℕ) (old new : Pages) (owner root : ℕ) (taken : List ℕ) (ends : List (List ℕ))
    (orders : Orders) (settled : ℕ → Bool) (on_disk wanted : DemandSet) : Type 0 where
  pub more : List Demand
  pub pays : Pays size old new orders settled on_disk wanted (listed more)
  pub stands : StandsWanted size new owner root ends (either wanted (listed more))
  pub used : StaysUsed size old new
  pub own : (d : Demand) → Has more d → IsNew size old taken d
