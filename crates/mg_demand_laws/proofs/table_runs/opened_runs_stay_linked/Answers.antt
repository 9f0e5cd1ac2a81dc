use Rattle.mg_image.specs.Form.{packed_form}
use Rattle.mg_space.specs.declared.links.FireLinks.{FireLinks}
use Rattle.mg_demand_laws.specs.OpenedRuns.{opened_stays_linked}
use Rattle.mg_demand_laws.proofs.table_runs.opened_runs_stay_linked.Goals as goal

pub returns : goal.returns
returns g c = opened_stays_linked g.row.D.Denot FireLinks g.D.Disk.meaning packed_form
    c.sound_images_are_linked.ensures.wanted c.pointer_pages_stay_orderly.ensures.bears c.runs_stay_linked.ensures
