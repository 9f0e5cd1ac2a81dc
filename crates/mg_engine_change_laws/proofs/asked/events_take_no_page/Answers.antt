use Rattle.mg_engine_change_laws.specs.faults.AskedLaws.{founds_take, looks_take, points_take}
use Rattle.mg_engine_change_laws.proofs.asked.events_take_no_page.Goals as goal

pub returns-clause-looks : goal.returns-clause-looks
returns-clause-looks g c = looks_take g.D.Disk.meaning

pub returns-clause-founds : goal.returns-clause-founds
returns-clause-founds g c = founds_take g.D.Disk.meaning

pub returns-clause-points : goal.returns-clause-points
returns-clause-points g c = points_take g.D.Disk.meaning
