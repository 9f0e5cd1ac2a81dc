use Rattle.mg_runs.specs.GoingOnLaws.{free_stays, left_is_entry}
use Rattle.mg_runs.proofs.laws.what_is_left_is_an_entry.Goals as goal

pub returns-clause-entry : goal.returns-clause-entry
returns-clause-entry g c = left_is_entry g.D.Disk.meaning

pub returns-clause-free : goal.returns-clause-free
returns-clause-free g c = free_stays
