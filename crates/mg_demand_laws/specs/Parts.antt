-- What is known of a table's pages where a transaction writes into it, and what a part of a batch pays then.
use Rattle.std.specs.Prelude.{◌≡◌, ℕ, Bool, true, false, List}
use Rattle.mg_base.specs.Image.{Image}
use Rattle.mg_careful.specs.Precedence.{Orders}
use Rattle.mg_careful.specs.declared.links.Demand.{Demand}
use Rattle.mg_careful.specs.CarefulWrite.{DemandSet, Has, IsIn, either, listed}
use Rattle.mg_heap.specs.Reach.{MayOwn}
use Rattle.mg_image.specs.Inventory.{inventory_page}
use Rattle.mg_pool.specs.Batch.{Changed}
use Rattle.mg_pool.specs.declared.pool.Pool.{Pool}
use Rattle.mg_space.specs.Taking.{IsGeometry, region_of}
use Rattle.mg_space.specs.View.{viewed}
use Rattle.mg_space.specs.declared.links.TheConstants.{BIT, HEADER, NEXT, POINTER, VERSION}
use Rattle.mg_demand_laws.specs.Wanting.{IsWanting, Pays, want_of}
use Rattle.mg_demand_laws.specs.Wants.{AreOrderly, IsDataOf, WantsPointer}
use Rattle.mg_demand_laws.specs.Chained.{IsChained}

-- A table is wanted by its first pointer page, all pointer pages are orderly, and versions chained; the transaction
-- that writes has drawn its number, and is not settled; and the disk has the versions of those that are.
pub record KnowsTable {D L : Type 0} (store : Pool D L) (image : Image) (old : Changed) (owner t : ℕ)
    (settled : ℕ → Bool) (on_disk wanted : DemandSet) : Type 0 where
  pub lawful : IsGeometry store.geometry
  pub wants : IsWanting store.geometry.size (viewed store image old) wanted
  pub orderly : AreOrderly store.geometry.size (viewed store image old) wanted
  pub chained : IsChained store.geometry.size (viewed store image old) wanted
  pub header : IsIn wanted (want_of 0 HEADER 0 0)
  pub number : IsIn wanted (want_of 0 NEXT t 0)
  pub owns : MayOwn owner
  pub root : WantsPointer store.geometry.size wanted owner owner 0
  pub young : settled t ≡ false
  pub lasting : (d : Demand) → IsIn wanted d → d.what ≡ VERSION → settled d.b ≡ true → IsIn on_disk d

-- What a part of a batch pays: it newly wants a list of things, of versions those of the transaction alone; and the
-- pointer pages are orderly behind it, and the versions chained.
pub record PaysPart {D L : Type 0} (store : Pool D L) (image : Image) (old new : Changed) (t : ℕ) (orders : Orders)
    (settled : ℕ → Bool) (on_disk wanted : DemandSet) : Type 0 where
  pub more : List Demand
  pub pays : Pays store.geometry.size (viewed store image old) (viewed store image new) orders settled on_disk wanted
      (listed more)
  pub orderly : AreOrderly store.geometry.size (viewed store image new) (either wanted (listed more))
  pub chained : IsChained store.geometry.size (viewed store image new) (either wanted (listed more))
  pub own : (d : Demand) → Has more d → d.what ≡ VERSION → d.b ≡ t

-- The same where a page of the table is given: it is wanted then as a data page.
pub record PaysRoom {D L : Type 0} (store : Pool D L) (image : Image) (old new : Changed) (t n : ℕ) (orders : Orders)
    (settled : ℕ → Bool) (on_disk wanted : DemandSet) : Type 0 where
  pub part : PaysPart store image old new t orders settled on_disk wanted
  pub given : IsDataOf store.geometry.size (either wanted (listed part.more)) n

-- What a new table's batch pays: its first pointer page is wanted newly, and the bit of that.
pub record PaysTable {D L : Type 0} (store : Pool D L) (image : Image) (old new : Changed) (t page : ℕ) (orders : Orders)
    (settled : ℕ → Bool) (on_disk wanted : DemandSet) : Type 0 where
  pub part : PaysPart store image old new t orders settled on_disk wanted
  pub root : Has part.more (want_of page POINTER page 0)
  pub bit : Has part.more (want_of (inventory_page store.geometry.size (region_of store.geometry.size page)) BIT page 0)
