use Rattle.mg_runs.specs.OtherFileLaws.{files_refused, files_unopened}
use Rattle.mg_runs.proofs.laws.other_files_are_refused.Goals as goal

pub returns-clause-refused : goal.returns-clause-refused
returns-clause-refused g c = files_refused g.D.Disk.meaning g.K.Sink.meaning g.met.D.Disk.counts_now

pub returns-clause-unopened : goal.returns-clause-unopened
returns-clause-unopened g c = files_unopened g.D.Disk.meaning
