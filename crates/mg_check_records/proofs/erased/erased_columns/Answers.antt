use Rattle.std.proofs.lemmas.Result.{IfOk-from_err}
use Rattle.mg_check_records.proofs.erased.erased_columns.Goals as goal

pub returns-in_err-push-clause-columns : goal.returns-in_err-push-clause-columns
returns-in_err-push-clause-columns c = IfOk-from_err c.from_residual.result _ c.from_residual.ensures.0

pub returns-in_err-push-clause-len : goal.returns-in_err-push-clause-len
returns-in_err-push-clause-len c = IfOk-from_err c.from_residual.result _ c.from_residual.ensures.0
