-- What a batch knows by a list of things that are wanted: of a table all that its parts want to be told.
use Rattle.std.specs.Prelude.{◌≡◌, ◌≢◌, ℕ, true, false, List, []}
use Rattle.std.proofs.Common.{sym, subst}
use Rattle.mg_base.specs.Image.{Image}
use Rattle.mg_base.specs.declared.geometry.Geometry.{Geometry}
use Rattle.mg_careful.specs.declared.links.Demand.{Demand}
use Rattle.mg_careful.specs.CarefulWrite.{DemandSet, Has, IsIn}
use Rattle.mg_demand_laws.specs.Runs.{Lasting}
use Rattle.mg_heap.specs.Reach.{MayOwn}
use Rattle.mg_image.specs.Form.{Pages}
use Rattle.mg_image.specs.Inventory.{inventory_page}
use Rattle.mg_pool.specs.Batch.{Changed, content_in, lists}
use Rattle.mg_pool.specs.Pool.{shown}
use Rattle.mg_pool.specs.declared.pool.Pool.{Pool}
use Rattle.mg_space.specs.Taking.{IsGeometry, region_of}
use Rattle.mg_space.specs.View.{viewed}
use Rattle.mg_space.specs.declared.links.TheConstants.{BIT, HEADER, NEXT, POINTER}
use Rattle.mg_demand_laws.specs.Met.{of_listed}
use Rattle.mg_demand_laws.specs.Wanting.{IsWanting, want_of}
use Rattle.mg_demand_laws.specs.PoolTies.{cache_over}
use Rattle.mg_demand_laws.specs.Wants.{AreOrderly}
use Rattle.mg_demand_laws.specs.Chained.{IsChained}
use Rattle.mg_demand_laws.specs.Keeping.{BearsTables, PaysOrderly}
use Rattle.mg_demand_laws.specs.KeepingTies.{part_keeps}
use Rattle.mg_demand_laws.specs.Parts.{KnowsTable, PaysPart}
use Rattle.mg_demand_laws.specs.TableRuns.{IsKnown, PaysByKnown}

-- A transaction that has drawn its number, and is not settled, writes into a table: the header, the number, and the
-- table's first pointer page with its bit are among what is known.
pub record KnowsWriter (g : Geometry) (owner t : ℕ) (it : Lasting) (known : List Demand) : Type 0 where
  pub lawful : IsGeometry g
  pub owns : MayOwn owner
  pub header : Has known (want_of 0 HEADER 0 0)
  pub number : Has known (want_of 0 NEXT t 0)
  pub root : Has known (want_of owner POINTER owner 0)
  pub bit : Has known (want_of (inventory_page g.size (region_of g.size owner)) BIT owner 0)
  pub young : (d : Demand) → it.lasts d ≡ true → d.b ≢ t
  pub unsettled : it.settled t ≡ false

-- the law: then all is known of the table that its parts want
abbrev pub TableIsKnown : (D L : Type 0) → Type 0
TableIsKnown D L = (store : Pool D L) (image : Image) (start : Changed) (owner t : ℕ) (it : Lasting)
    (roots known : List Demand) (of_disk of_pool on_disk : DemandSet) → viewed store image start ≡ shown store.dirty image
    → BearsTables store.geometry.size (cache_over store image) it of_disk of_pool → IsKnown roots known of_disk of_pool
    → ((d : Demand) → IsIn of_disk d → IsIn of_pool d → IsIn on_disk d) → KnowsWriter store.geometry owner t it known
    → KnowsTable store image start owner t it.settled on_disk of_pool

-- the law: so a batch whose parts pay is a step of a run
abbrev pub PartsAreSteps : (D L : Type 0) → Type 0
PartsAreSteps D L = (store : Pool D L) (image : Image) (start batch : Changed) (owner t : ℕ) (it : Lasting)
    (roots known : List Demand) → viewed store image start ≡ shown store.dirty image
    → KnowsWriter store.geometry owner t it known
    → ((on_disk wanted : DemandSet) → IsKnown [] known on_disk wanted
    → KnowsTable store image start owner t it.settled on_disk wanted
    → PaysPart store image start batch t (lists batch.orders) it.settled on_disk wanted)
    → PaysByKnown store image batch it roots known []

pub table_is_known : (D L : Type 0) → TableIsKnown D L
table_is_known D L store image start owner t it roots known of_disk of_pool on_disk begins its is has knows = record {
  lawful = knows.lawful;
  wants = subst (λ (pages : Pages). IsWanting store.geometry.size pages of_pool) (sym begins) its.bears.wants;
  orderly = subst (λ (pages : Pages). AreOrderly store.geometry.size pages of_pool) (sym begins) its.orderly;
  chained = subst (λ (pages : Pages). IsChained store.geometry.size pages of_pool) (sym begins) its.chained;
  header = is.wanted (want_of 0 HEADER 0 0) knows.header;
  number = is.wanted (want_of 0 NEXT t 0) knows.number;
  owns = knows.owns;
  root = record {
    page = is.wanted (want_of owner POINTER owner 0) knows.root;
    bit = is.wanted (want_of (inventory_page store.geometry.size (region_of store.geometry.size owner)) BIT owner 0) knows.bit;
  };
  young = knows.unsettled;
  lasting = λ d h what done. has d (its.bears.all.lasting d h (its.bears.lasting.of_settled d what done)) h;
}

pub parts_are_steps : (D L : Type 0) → PartsAreSteps D L
parts_are_steps D L store image start batch owner t it roots known begins knows parts of_disk of_pool on_disk its is has = record {
  pays = subst (λ (pages : Pages). PaysOrderly store.geometry.size pages (viewed store image batch) (content_in batch.pages)
      (lists batch.orders) it on_disk of_pool) begins
      (part_keeps D L store image start batch t (content_in batch.pages) (lists batch.orders) it on_disk of_pool
      its.bears.lasting knows.young (parts on_disk of_pool (record {
        rooted = λ d none. absurd none;
        wanted = is.wanted;
      }) (table_is_known D L store image start owner t it roots known of_disk of_pool on_disk begins its is has knows)));
  newly = λ d h. absurd (of_listed [] d h);
}
