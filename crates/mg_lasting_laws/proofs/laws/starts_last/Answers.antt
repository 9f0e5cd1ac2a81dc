use Rattle.mg_image.specs.Form.{packed_form}
use Rattle.mg_lasting_laws.specs.StartLaws.{start_lasts}
use Rattle.mg_lasting_laws.specs.StartingLaws.{starts_on}
use Rattle.mg_lasting_laws.proofs.laws.starts_last.Goals as goal

pub returns-clause-cache : goal.returns-clause-cache
returns-clause-cache g c = start_lasts packed_form c.histories_go_on.ensures.begins

pub returns-clause-pool : goal.returns-clause-pool
returns-clause-pool g c = starts_on g.row.D.Denot g.row.L.Denot g.D.Disk.meaning packed_form
    c.histories_go_on.ensures.begins
