use Rattle.mg_image.specs.Form.{packed_form}
use Rattle.mg_demand_laws.proofs.StartLemmas.{opened_bears}
use Rattle.mg_demand_laws.proofs.batches.opened_images_bear.Goals as goal

pub returns : goal.returns
returns c = opened_bears packed_form c.all_is_borne.ensures.starts c.sound_images_are_linked.ensures.wanted
