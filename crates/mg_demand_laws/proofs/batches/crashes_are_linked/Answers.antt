use Rattle.mg_image.specs.Form.{packed_form}
use Rattle.mg_demand_laws.proofs.StartLemmas.{crashes_are_linked}
use Rattle.mg_demand_laws.proofs.batches.crashes_are_linked.Goals as goal

pub returns : goal.returns
returns c = crashes_are_linked packed_form c.opened_images_bear.ensures c.sound_images_are_linked.ensures.wanted
    c.runs_bear.ensures.runs
