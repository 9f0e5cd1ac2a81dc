use Rattle.mg_image.specs.Form.{packed_form}
use Rattle.mg_lasting_laws.specs.CrashLaws.{durable_leaves, failed_leaves, quiet_leaves}
use Rattle.mg_lasting_laws.proofs.laws.calls_leave.Goals as goal

pub returns-clause-quiet : goal.returns-clause-quiet
returns-clause-quiet g c = quiet_leaves g.row.D.Denot g.D.Disk.meaning packed_form

pub returns-clause-failed : goal.returns-clause-failed
returns-clause-failed g c = failed_leaves g.row.D.Denot g.D.Disk.meaning packed_form

pub returns-clause-durable : goal.returns-clause-durable
returns-clause-durable g c = durable_leaves g.row.D.Denot g.D.Disk.meaning packed_form
