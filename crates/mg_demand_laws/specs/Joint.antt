-- Tables and index trees in one cache: what holds from step to step, and what a change leaves alone of the one kind
-- that is made for the other.
use Rattle.std.specs.Prelude.{◌≡◌, ◌≢◌, ◌⊎◌, ℕ, Bool, true, false, List}
use Rattle.mg_base.specs.Fields.{byte}
use Rattle.mg_careful.specs.declared.links.Demand.{Demand}
use Rattle.mg_careful.specs.Precedence.{Orders}
use Rattle.mg_careful.specs.CarefulWrite.{Cache, DemandSet, Has, IsIn, either, listed}
use Rattle.mg_careful.specs.CarefulSteps.{Contents}
use Rattle.mg_demand_laws.specs.Freeing.{without}
use Rattle.mg_demand_laws.specs.Runs.{Lasting}
use Rattle.mg_image.specs.Form.{Pages}
use Rattle.mg_image.specs.Inventory.{is_used}
use Rattle.mg_slots.specs.declared.page.TheConstants.{DATA_KIND}
use Rattle.mg_space.specs.declared.links.TheConstants.{DATA, NODE, POINTER, VERSION}
use Rattle.mg_tree_overlay_laws.specs.TreeSteps.{StaysUsed}
use Rattle.mg_demand_laws.specs.Wanting.{Pays}
use Rattle.mg_demand_laws.specs.Wants.{AreOrderly}
use Rattle.mg_demand_laws.specs.Chained.{IsChained}
use Rattle.mg_demand_laws.specs.Keeping.{BearsTables, PaysNewly}
use Rattle.mg_demand_laws.specs.Calls.{EachStands, EachStays, TreeAt}

-- A cache bears its demands; of what its pool wants the pointer pages are orderly, and the versions are chained; and
-- in its pool these index trees stand and are wanted.
pub record BearsJointly (size : ℕ) (cache : Cache) (it : Lasting) (trees : List TreeAt) (of_disk of_pool : DemandSet)
    : Type 0 where
  pub tables : BearsTables size cache it of_disk of_pool
  pub stand : EachStands size cache.pool of_pool trees

-- A change leaves trees alone: none of their pages changes, what was used is used, and what it newly wants as an
-- index page of a level was not used.
pub record LeavesTrees (size : ℕ) (old new : Pages) (trees : List TreeAt) (more : DemandSet) : Type 0 where
  pub stay : EachStays old new trees
  pub used : StaysUsed size old new
  pub fresh : (d : Demand) → IsIn more d → d.what ≡ NODE → is_used size old d.target ≡ false

-- a page of a table, by its kind: a pointer page, or a data page
abbrev pub IsTablePage : List ℕ → Type 0
IsTablePage page = (byte page 0 ≡ 4) ⊎ (byte page 0 ≡ DATA_KIND)

-- what is wanted neither of a table's page nor of a version
abbrev pub IsBesideTables : Demand → Type 0
IsBesideTables d = (d.what ≢ POINTER) × (d.what ≢ DATA) × (d.what ≢ VERSION)

-- A change leaves tables alone: none of their pages in use changes, and it newly wants none, and no version.
pub record LeavesTables (size : ℕ) (old new : Pages) (more : DemandSet) : Type 0 where
  pub pages : (n : ℕ) → is_used size old n ≡ true → IsTablePage (old n) → new n ≡ old n
  pub none : (d : Demand) → IsIn more d → IsBesideTables d

-- A part of a batch, of a transaction, pays for this list of what it newly wants, of versions those of the transaction
-- alone; behind it pointer pages are orderly, versions chained, and these trees stand and are wanted.
pub record PaysJointly (size : ℕ) (old new : Pages) (t : ℕ) (ends : List TreeAt) (orders : Orders) (settled : ℕ → Bool)
    (on_disk wanted : DemandSet) (more : List Demand) : Type 0 where
  pub pays : Pays size old new orders settled on_disk wanted (listed more)
  pub orderly : AreOrderly size new (either wanted (listed more))
  pub chained : IsChained size new (either wanted (listed more))
  pub stand : EachStands size new (either wanted (listed more)) ends
  pub own : (d : Demand) → Has more d → d.what ≡ VERSION → d.b ≡ t

-- A whole batch pays as one of tables, and drops at its end; and of what is wanted then these trees stand.
pub record PaysBatch (size : ℕ) (old new : Pages) (batch : Contents) (orders : Orders) (it : Lasting)
    (ends : List TreeAt) (on_disk wanted news : DemandSet) : Type 0 where
  pub newly : PaysNewly size old new batch orders it on_disk wanted news
  pub stand : EachStands size new (without newly.pays.paid.dropped (either wanted newly.pays.paid.more)) ends
