-- A page of a level gets room for an entry: what becomes of the tree, and why it may be refused.
use Rattle.std.specs.Prelude.{◌≡◌, ◌≢◌, ◌<◌, ◌≤◌, ◌+◌, ◌*◌, ◌-◌, ◌⊎◌, ◌∷◌, ◌++◌, [], ℕ, suc, false, List, length, None, Result, Ok, Err}
use Rattle.mg_base.specs.declared.damage.Damaged.{Damaged}
use Rattle.mg_base.specs.declared.damage.Field.TheVariants.{Level}
use Rattle.mg_base.specs.declared.geometry.Geometry.{Geometry}
use Rattle.mg_node.specs.declared.entry.Entry.{Entry}
use Rattle.mg_node.specs.NodePage.{level_in}
use Rattle.mg_image.specs.Form.{Pages}
use Rattle.mg_image.specs.Indexes.{IsTree}
use Rattle.mg_image.specs.Inventory.{is_used}
use Rattle.mg_pool.specs.Batch.{Changed, content_in, lists}
use Rattle.mg_space.specs.Taking.{RefusesTake, TakesPage}
use Rattle.mg_space.specs.declared.fault.SpaceFault.{SpaceFault}
use Rattle.mg_space.specs.declared.fault.SpaceFault.TheVariants.{Full, Pool as OfPool, Damaged as OfPage}
use Rattle.mg_tree_overlay_laws.specs.TreePages.{all_of}
use Rattle.mg_tree_overlay_laws.specs.TreeSteps.{InTree, StaysUsed}
use Rattle.mg_tree_overlay_laws.specs.TreeBatches.{ChangesTree, IsNoInventory, Stay, inventory_of}
use Rattle.mg_btree.specs.declared.halves.PageBytes.{PageBytes}
use Rattle.mg_btree.specs.Changing.{HasNoInventory}
use Rattle.mg_btree.specs.Ordering.{EachOrder}
use Rattle.mg_btree.specs.RowOrders.{SplitsFull, row_orders}
use Rattle.mg_btree.specs.RowTakings.{TakesItsPages}

-- pages are taken, one after another
abbrev pub TakesEach : Geometry → Pages → List ℕ → Pages → Type 0
TakesEach g old [] new = new ≡ old
TakesEach g old (n ∷ ns) new = (next : Pages) × TakesPage g old next n × TakesEach g next ns new

-- A page was taken, and its inventory page is one of a batch.
pub record TakesInto (g : Geometry) (old new : Pages) (batch : Changed) (n : ℕ) : Type 0 where
  pub takes : TakesPage g old new n
  pub put : content_in batch.pages (inventory_of g.size n) ≢ None

-- Pages were taken for a batch: it has so many pages more, at most, and no orders more.
pub record TakesAlone (most : ℕ) (old new : Changed) : Type 0 where
  pub orders : new.orders ≡ old.orders
  pub few : length new.pages ≤ length old.pages + most

-- A page is refused after so many were taken, at most.
pub record RefusesAfter (g : Geometry) (old : Pages) (most : ℕ) (fault : SpaceFault) : Type 0 where
  pub taken : List ℕ
  pub few : length taken ≤ most
  pub mid : Pages
  pub takes : TakesEach g old taken mid
  pub refused : RefusesTake g mid fault

-- In a tree, as one that fills a batch sees it, a page of a level has the bytes that were read.
pub record StandsIn (size : ℕ) (pages : Pages) (owner root : ℕ) (levels : List (List ℕ))
    (page : PageBytes) : Type 0 where
  pub tree : IsTree size pages owner root levels
  pub no_inventory : HasNoInventory size levels
  pub bytes : page.bytes ≡ pages page.page.0
  pub placed : InTree levels page.page.0

-- A tree is changed by a row of steps that leave its entries, so that an entry has room, after which a
-- page of it has these bytes. Its pages below a level stay as they were; it has new pages, which were
-- not used: each was taken by the row. The batch has the orders of the row more, one by one, and a page
-- splits only where the entry that it is to have does not fit.
pub record MakesRoom (g : Geometry) (old new : Pages) (before batch : Changed) (owner root : ℕ)
    (levels : List (List ℕ)) (level : ℕ) (e : Entry) (page : PageBytes) : Type 0 where
  pub ends : List (List ℕ)
  pub row : ChangesTree g.size owner root (content_in batch.pages) (lists batch.orders) Stay old levels
      new ends
  pub adds : batch.orders ≡ before.orders ++ row_orders g.size owner root (content_in batch.pages)
      (lists batch.orders) Stay old new levels ends row
  -- the later page of each is in the batch
  pub held : EachOrder (λ a b. content_in batch.pages b ≢ None) (row_orders g.size owner root
      (content_in batch.pages) (lists batch.orders) Stay old new levels ends row)
  pub full : SplitsFull g.size owner root (content_in batch.pages) (lists batch.orders) Stay old new levels
      ends row e
  pub takes : TakesItsPages g owner root (content_in batch.pages) (lists batch.orders) Stay old new levels
      ends row [] ends
  pub stands : StandsIn g.size new owner root ends page
  pub wider : (n : ℕ) → InTree levels n → InTree ends n
  pub used : StaysUsed g.size old new
  pub fresh : (n : ℕ) → InTree ends n → InTree levels n ⊎ (is_used g.size old n ≡ false)
  -- no page changes but the tree's and those of the page inventory
  pub others : (n : ℕ) → (InTree ends n → ⊥) → IsNoInventory g.size n → new n ≡ old n
  -- the batch has at most four pages more for each level above, and five for the root
  pub few : length batch.pages ≤ length before.pages + (4 * (level_in (old root) - level) + 5)
  -- the tree has at most a page more for each level from this one up to the root's, and two for the root
  pub more_pages : length (all_of ends) ≤ length (all_of levels) + (level_in (old root) - level + 2)
  pub stays : (n : ℕ) → InTree levels n → level_in (old n) < level → new n ≡ old n

-- the damage of a root that is to split and stands on the highest level that there is
abbrev pub too_high : ℕ → Damaged
too_high root =
    record { page = record { 0 = root }; field = Level; found = 65535; wanted = 65534 }

-- in a tree a page is refused only after the pages that it needs above a level were taken, but for the
-- last of them; or the root stands on the highest level that there is
abbrev pub RefusesRoom : Geometry → Pages → ℕ → ℕ → SpaceFault → Type 0
RefusesRoom g old root level (Full limit) = RefusesAfter g old (suc (level_in (old root)) - level) (Full limit)
RefusesRoom g old root level (OfPage damage) = RefusesAfter g old (suc (level_in (old root)) - level) (OfPage damage)
    ⊎ ((level_in (old root) ≡ 65535) × (damage ≡ too_high root))
RefusesRoom g old root level (OfPool fault) = Unit {0}

-- in a tree room is made, or it is refused
abbrev pub MakesRoomIn : Geometry → Pages → Pages → Changed → Changed → ℕ → ℕ → List (List ℕ) → ℕ
    → Entry → Result PageBytes SpaceFault → Type 0
MakesRoomIn g old new before batch owner root levels level e (Ok page) =
    MakesRoom g old new before batch owner root levels level e page
MakesRoomIn g old new before batch owner root levels level e (Err fault) =
    RefusesRoom g old root level fault
