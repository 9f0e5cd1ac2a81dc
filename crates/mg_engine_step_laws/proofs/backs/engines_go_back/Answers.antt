use Rattle.mg_image.specs.Form.{packed_form}
use Rattle.mg_engine_step_laws.specs.backs.EngineBack.{engines_go_back}
use Rattle.mg_engine_step_laws.proofs.backs.engines_go_back.Goals as goal

pub returns : goal.returns
returns g c = engines_go_back packed_form g.row.D.Denot g.row.L.Denot g.D.Disk.meaning
    c.histories_go_on.ensures.begins c.standings_go_on.ensures
