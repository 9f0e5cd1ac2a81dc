-- What a caller keeps from batch to batch: the links are borne, pointer pages are orderly, and versions are chained.
use Rattle.std.specs.Prelude.{◌≢◌, ℕ}
use Rattle.mg_careful.specs.declared.links.Demand.{Demand}
use Rattle.mg_careful.specs.Precedence.{Orders}
use Rattle.mg_careful.specs.CarefulWrite.{Cache, DemandSet, IsIn, either}
use Rattle.mg_careful.specs.CarefulSteps.{Contents}
use Rattle.mg_demand_laws.specs.Freeing.{without}
use Rattle.mg_demand_laws.specs.Runs.{BearsLinks, Lasting, PaysThenDrops}
use Rattle.mg_image.specs.Form.{Pages}
use Rattle.mg_space.specs.declared.links.TheConstants.{VERSION}
use Rattle.mg_demand_laws.specs.Wants.{AreOrderly}
use Rattle.mg_demand_laws.specs.Chained.{IsChained}

-- A batch pays, and drops at its end; of what is wanted then the pointer pages are orderly, and the versions are chained.
pub record PaysOrderly (size : ℕ) (old new : Pages) (batch : Contents) (orders : Orders) (it : Lasting)
    (on_disk wanted : DemandSet) : Type 0 where
  pub paid : PaysThenDrops size old new batch orders it on_disk wanted
  pub orderly : AreOrderly size new (without paid.dropped (either wanted paid.more))
  pub chained : IsChained size new (without paid.dropped (either wanted paid.more))

-- The same, and these things are wanted then.
pub record PaysNewly (size : ℕ) (old new : Pages) (batch : Contents) (orders : Orders) (it : Lasting)
    (on_disk wanted news : DemandSet) : Type 0 where
  pub pays : PaysOrderly size old new batch orders it on_disk wanted
  pub newly : (d : Demand) → IsIn news d → IsIn (either wanted pays.paid.more) d

-- A cache bears its demands, and of what its pool wants the pointer pages are orderly, and the versions are chained.
pub record BearsTables (size : ℕ) (cache : Cache) (it : Lasting) (of_disk of_pool : DemandSet) : Type 0 where
  pub bears : BearsLinks size cache it of_disk of_pool
  pub orderly : AreOrderly size cache.pool of_pool
  pub chained : IsChained size cache.pool of_pool

-- It does so still: of what disk and pool had, but for versions, both have each, and of the pool's the pool has each.
pub record KeepsTables (size : ℕ) (cache : Cache) (it : Lasting) (was_disk was_pool : DemandSet) : Type 0 where
  pub of_disk : DemandSet
  pub of_pool : DemandSet
  pub its : BearsTables size cache it of_disk of_pool
  pub rooted : (d : Demand) → d.what ≢ VERSION → IsIn was_disk d → IsIn was_pool d → IsIn of_disk d × IsIn of_pool d
  pub kept : (d : Demand) → d.what ≢ VERSION → IsIn was_pool d → IsIn of_pool d

-- The same, and of these things, but for versions, the pool has each.
pub record KeepsNewly (size : ℕ) (cache : Cache) (it : Lasting) (was_disk was_pool news : DemandSet) : Type 0 where
  pub keeps : KeepsTables size cache it was_disk was_pool
  pub newly : (d : Demand) → d.what ≢ VERSION → IsIn news d → IsIn keeps.of_pool d
