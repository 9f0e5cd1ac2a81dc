use Rattle.mg_model.specs.RowLaws.{rows_of_ascend, row_in-rows_of, row_at-append}
use Rattle.mg_model.proofs.laws.rows_are_those.Goals as goal

pub returns-clause-ascend : goal.returns-clause-ascend
returns-clause-ascend c = rows_of_ascend

pub returns-clause-same : goal.returns-clause-same
returns-clause-same c = row_in-rows_of

pub returns-clause-upper : goal.returns-clause-upper
returns-clause-upper c = row_at-append
