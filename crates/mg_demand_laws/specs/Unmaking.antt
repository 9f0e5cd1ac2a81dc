-- Rows that are taken out in one batch: what the batch pays.
use Rattle.std.specs.Prelude.{◌≢◌}
use Rattle.mg_base.specs.Image.{Image}
use Rattle.mg_careful.specs.Precedence.{Orders}
use Rattle.mg_careful.specs.declared.links.Demand.{Demand}
use Rattle.mg_careful.specs.CarefulWrite.{DemandSet, IsIn}
use Rattle.mg_careful.specs.CarefulSteps.{Contents}
use Rattle.mg_demand_laws.specs.Runs.{Lasting}
use Rattle.mg_pool.specs.Batch.{Changed}
use Rattle.mg_pool.specs.declared.pool.Pool.{Pool}
use Rattle.mg_space.specs.View.{viewed}
use Rattle.mg_space.specs.declared.links.TheConstants.{VERSION}
use Rattle.mg_demand_laws.specs.BatchSteps.{PaysInSteps}
use Rattle.mg_demand_laws.specs.Wants.{AreOrderly}
use Rattle.mg_demand_laws.specs.Chained.{IsChained}

-- A batch that takes rows out pays in steps, and this is what is wanted then: all that was, but for versions, and nothing
-- else; the pointer pages are orderly, and the versions chained.
pub record PaysRows {D L : Type 0} (store : Pool D L) (image : Image) (old new : Changed) (batch : Contents)
    (orders : Orders) (it : Lasting) (wanted : DemandSet) : Type 0 where
  pub last : DemandSet
  pub steps : PaysInSteps store.geometry.size batch orders it (viewed store image old) wanted (viewed store image new) last
  pub kept : (d : Demand) → d.what ≢ VERSION → IsIn wanted d → IsIn last d
  pub fewer : (d : Demand) → IsIn last d → IsIn wanted d
  pub orderly : AreOrderly store.geometry.size (viewed store image new) last
  pub chained : IsChained store.geometry.size (viewed store image new) last
