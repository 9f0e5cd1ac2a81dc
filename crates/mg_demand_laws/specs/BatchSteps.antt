-- The steps of a batch that pays and drops several times, as one that takes several rows out.
use Rattle.std.specs.Prelude.{◌≡◌, ◌≢◌, ℕ, true, [], None, is_some}
use Rattle.mg_careful.specs.declared.links.Demand.{Demand}
use Rattle.mg_careful.specs.Precedence.{Orders}
use Rattle.mg_careful.specs.CarefulWrite.{Cache, DemandSet, IsIn, either, listed}
use Rattle.mg_careful.specs.CarefulSteps.{Contents}
use Rattle.mg_demand_laws.specs.Freeing.{Which, without}
use Rattle.mg_demand_laws.specs.Runs.{BearsLinks, Lasting}
use Rattle.mg_image.specs.Form.{Pages}
use Rattle.mg_space.specs.declared.links.TheConstants.{VERSION}
use Rattle.mg_demand_laws.specs.Wanting.{Drops, Pays, nothing}

-- One step of a batch: what it newly wants, and what it drops at its end.
pub record PaysStep (size : ℕ) (old new : Pages) (batch : Contents) (orders : Orders) (it : Lasting)
    (on_disk wanted more : DemandSet) (dropped : Which) : Type 0 where
  pub mid : Pages
  pub pays : Pays size old mid orders it.settled on_disk wanted more
  pub fresh : (d : Demand) → IsIn more d → it.lasts d ≡ true → IsIn wanted d
  pub drops : Drops size mid new orders it.settled (either wanted more) dropped
  pub own : (d : Demand) → dropped d ≡ true → is_some (batch d.target) ≡ true

-- of what is wanted the disk has what lasts
abbrev pub HasLasting : Lasting → DemandSet → DemandSet → Type 0
HasLasting it on_disk wanted = (d : Demand) → IsIn wanted d → it.lasts d ≡ true → IsIn on_disk d

-- The steps of a batch, from pages that are wanted to others: none of them changes a page that the batch does not
-- put, and each pays, and drops at its end.
pub data PaysInSteps (size : ℕ) (batch : Contents) (orders : Orders) (it : Lasting)
    : Pages → DemandSet → Pages → DemandSet → Type 0 where
  no_more_steps : (pages : Pages) (wanted : DemandSet)
      → PaysInSteps size batch orders it pages wanted pages (without nothing (either wanted (listed [])))
  one_step : (old mid new : Pages) (wanted last more : DemandSet) (dropped : Which)
      → ((p : ℕ) → batch p ≡ None → mid p ≡ old p)
      → ((on_disk : DemandSet) → HasLasting it on_disk wanted
      → PaysStep size old mid batch orders it on_disk wanted more dropped)
      → PaysInSteps size batch orders it mid (without dropped (either wanted more)) new last
      → PaysInSteps size batch orders it old wanted new last

-- A cache bears its demands, and this is what its pool wants; of what disk and pool had, but for versions, both have
-- each still.
pub record BearsWith (size : ℕ) (cache : Cache) (it : Lasting) (was_disk was_pool of_pool : DemandSet) : Type 0 where
  pub of_disk : DemandSet
  pub bears : BearsLinks size cache it of_disk of_pool
  pub rooted : (d : Demand) → d.what ≢ VERSION → IsIn was_disk d → IsIn was_pool d → IsIn of_disk d × IsIn of_pool d
