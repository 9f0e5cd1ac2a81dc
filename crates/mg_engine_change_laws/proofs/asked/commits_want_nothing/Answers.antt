use Rattle.mg_engine_change_laws.specs.faults.AskedLaws.{asking_takes, commits_take, page_writes_take, rollbacks_take, steps_take}
use Rattle.mg_engine_change_laws.proofs.asked.commits_want_nothing.Goals as goal

pub returns-clause-asking : goal.returns-clause-asking
returns-clause-asking g c = asking_takes g.D.Disk.meaning

pub returns-clause-steps : goal.returns-clause-steps
returns-clause-steps g c = steps_take g.D.Disk.meaning

pub returns-clause-ends : goal.returns-clause-ends
returns-clause-ends g c = commits_take g.D.Disk.meaning

pub returns-clause-rollbacks : goal.returns-clause-rollbacks
returns-clause-rollbacks g c = rollbacks_take g.D.Disk.meaning

pub returns-clause-pages : goal.returns-clause-pages
returns-clause-pages g c = page_writes_take g.D.Disk.meaning
