use Rattle.mg_rows.specs.NewRowLaws.{inserted_fits, updated_fits, key_stays, updated_each}
use Rattle.mg_rows.proofs.laws.new_rows_fit.Goals as goal

pub returns-clause-inserted : goal.returns-clause-inserted
returns-clause-inserted c = inserted_fits

pub returns-clause-updated : goal.returns-clause-updated
returns-clause-updated c = updated_fits

pub returns-clause-key : goal.returns-clause-key
returns-clause-key c = key_stays

pub returns-clause-each : goal.returns-clause-each
returns-clause-each c = updated_each
