use Rattle.mg_engine_demand_laws.specs.OpeningLaws.{opening_bears}
use Rattle.mg_engine_demand_laws.proofs.laws.openings_bear.Goals as goal

pub returns : goal.returns
returns c = opening_bears c.sound_images_are_linked.ensures.wanted c.pointer_pages_stay_orderly.ensures.bears
