-- The steps of an index tree between two views, as what a page of it comes to lead to.
use Rattle.std.specs.Prelude.{◌≡◌, ◌≢◌, ◌⊎◌, ℕ, true, List, length}
use Rattle.mg_base.specs.Checks.{PassesAll}
use Rattle.mg_careful.specs.declared.links.Demand.{Demand}
use Rattle.mg_careful.specs.Precedence.{Orders}
use Rattle.mg_careful.specs.CarefulWrite.{DemandSet, Has, IsIn}
use Rattle.mg_demand_laws.specs.CellDemands.{IsBehind}
use Rattle.mg_image.specs.Form.{Pages}
use Rattle.mg_image.specs.Inventory.{inventory_page, is_used}
use Rattle.mg_node.specs.NodePage.{level_in, node_checks}
use Rattle.mg_space.specs.Demands.{node_demands, right_demands, tree_demands}
use Rattle.mg_space.specs.Taking.{region_of}
use Rattle.mg_space.specs.declared.links.TheConstants.{BIT, NODE}
use Rattle.mg_demand_laws.specs.Wanting.{want_of}

-- A page is wanted as an index page of an owner on a level, and its bit is.
pub record WantsNode (size : ℕ) (wanted : DemandSet) (n owner level : ℕ) : Type 0 where
  pub page : IsIn wanted (want_of n NODE owner level)
  pub bit : IsIn wanted (want_of (inventory_page size (region_of size n)) BIT n 0)

-- A page, and the inventory page with its bit, are ordered before another page.
pub record IsNodeFirst (size : ℕ) (orders : Orders) (n later : ℕ) : Type 0 where
  pub page : orders n later ≡ true
  pub bit : orders (inventory_page size (region_of size n)) later ≡ true

-- An index page has another content. Where it is wanted as one of its level, it stays on that.
pub record ChangesNode (size : ℕ) (old new : Pages) (n owner : ℕ) (wanted : DemandSet) : Type 0 where
  pub others : (m : ℕ) → m ≢ n → new m ≡ old m
  pub len : length (new n) ≡ size
  pub was_passes : PassesAll (node_checks (old n) n owner)
  pub passes : PassesAll (node_checks (new n) n owner)
  pub off_header : n ≢ 0
  pub off_inventory : (region : ℕ) → inventory_page size region ≢ n
  pub on_level : (d : Demand) → IsIn wanted d → d.target ≡ n → d.what ≡ NODE → level_in (new n) ≡ level_in (old n)

-- What it leads to it led to before, or that comes before it.
pub record LeadsOn (size : ℕ) (old new : List ℕ) (n owner : ℕ) (orders : Orders) (on_disk wanted : DemandSet)
    : Type 0 where
  pub right : (e : Demand) → Has (right_demands size new owner) e
      → Has (right_demands size old owner) e ⊎ IsBehind orders on_disk wanted n e
  pub children : (e : Demand) → Has (tree_demands size new owner) e
      → Has (tree_demands size old owner) e ⊎ IsBehind orders on_disk wanted n e

-- A page of which nothing was wanted was made an index page of an owner on a level; all that it leads to comes
-- before it.
pub record MakesNode (size : ℕ) (old new : Pages) (n owner level : ℕ) (orders : Orders) (on_disk wanted : DemandSet)
    : Type 0 where
  pub others : (m : ℕ) → m ≢ n → new m ≡ old m
  pub len : length (new n) ≡ size
  pub off_inventory : (region : ℕ) → inventory_page size region ≢ n
  pub used : is_used size old n ≡ true
  pub unwanted : (d : Demand) → IsIn wanted d → d.target ≢ n
  pub passes : PassesAll (node_checks (new n) n owner)
  pub on_level : level_in (new n) ≡ level
  pub leads : (e : Demand) → Has (node_demands size (new n) owner) e → IsBehind orders on_disk wanted n e

-- What is known of an index page that changes: it is one, it is neither the header page nor one of the page
-- inventory, and its new content is one page long.
pub record IsNodeOf (size : ℕ) (old new : Pages) (n owner : ℕ) : Type 0 where
  pub passes : PassesAll (node_checks (old n) n owner)
  pub len : length (new n) ≡ size
  pub off_header : n ≢ 0
  pub off_inventory : (region : ℕ) → inventory_page size region ≢ n
