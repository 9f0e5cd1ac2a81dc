use Rattle.mg_script.proofs.answer.put_answer.Goals as goal

pub returns-in-Sql-clause-ok : goal.returns-in-Sql-clause-ok
returns-in-Sql-clause-ok c = rw c.in-Sql.is c.put_said.ensures.ok

pub returns-in-Sql-clause-front : goal.returns-in-Sql-clause-front
returns-in-Sql-clause-front c = c.put_said.ensures.front

pub returns-in-Held-clause-ok : goal.returns-in-Held-clause-ok
returns-in-Held-clause-ok c = rw c.in-Held.is c.put_said-in-Held.ensures.ok

pub returns-in-Held-clause-front : goal.returns-in-Held-clause-front
returns-in-Held-clause-front c = c.put_said-in-Held.ensures.front

pub returns-in-Step-clause-ok : goal.returns-in-Step-clause-ok
returns-in-Step-clause-ok c = rw c.in-Step.is c.put_gone_on.ensures.ok

pub returns-in-Step-clause-front : goal.returns-in-Step-clause-front
returns-in-Step-clause-front c = c.put_gone_on.ensures.front

pub returns-in-Go-clause-ok : goal.returns-in-Go-clause-ok
returns-in-Go-clause-ok c = rw c.in-Go.is c.put_gone_on-in-Go.ensures.ok

pub returns-in-Go-clause-front : goal.returns-in-Go-clause-front
returns-in-Go-clause-front c = c.put_gone_on-in-Go.ensures.front

pub returns-in-Write-clause-ok : goal.returns-in-Write-clause-ok
returns-in-Write-clause-ok c = rw c.in-Write.is c.put_worded.ensures.ok

pub returns-in-Write-clause-front : goal.returns-in-Write-clause-front
returns-in-Write-clause-front c = c.put_worded.ensures.front

pub returns-in-Collect-clause-ok : goal.returns-in-Collect-clause-ok
returns-in-Collect-clause-ok c = rw c.in-Collect.is c.put_worded-in-Collect.ensures.ok

pub returns-in-Collect-clause-front : goal.returns-in-Collect-clause-front
returns-in-Collect-clause-front c = c.put_worded-in-Collect.ensures.front

pub returns-in-Sweep-clause-ok : goal.returns-in-Sweep-clause-ok
returns-in-Sweep-clause-ok c = rw c.in-Sweep.is c.put_worded-in-Sweep.ensures.ok

pub returns-in-Sweep-clause-front : goal.returns-in-Sweep-clause-front
returns-in-Sweep-clause-front c = c.put_worded-in-Sweep.ensures.front

pub returns-in-Prepare-clause-ok : goal.returns-in-Prepare-clause-ok
returns-in-Prepare-clause-ok c = rw c.in-Prepare.is c.put_worded-in-Prepare.ensures.ok

pub returns-in-Prepare-clause-front : goal.returns-in-Prepare-clause-front
returns-in-Prepare-clause-front c = c.put_worded-in-Prepare.ensures.front

pub returns-in-Put-clause-ok : goal.returns-in-Put-clause-ok
returns-in-Put-clause-ok c = rw c.in-Put.is c.put_worded-in-Put.ensures.ok

pub returns-in-Put-clause-front : goal.returns-in-Put-clause-front
returns-in-Put-clause-front c = c.put_worded-in-Put.ensures.front

pub returns-in-Get-clause-ok : goal.returns-in-Get-clause-ok
returns-in-Get-clause-ok c = rw c.in-Get.is c.put_got.ensures.ok

pub returns-in-Get-clause-front : goal.returns-in-Get-clause-front
returns-in-Get-clause-front c = c.put_got.ensures.front

pub returns-in-Bad-clause-ok : goal.returns-in-Bad-clause-ok
returns-in-Bad-clause-ok c = rw c.in-Bad.is c.put_bad.ensures.ok

pub returns-in-Bad-clause-front : goal.returns-in-Bad-clause-front
returns-in-Bad-clause-front c = c.put_bad.ensures.front
