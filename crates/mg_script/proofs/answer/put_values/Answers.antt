use Rattle.std.proofs.lemmas.Result.{IfOk-from_err}
use Rattle.mg_script.proofs.FrontLemmas.{front_twice}
use Rattle.mg_script.proofs.answer.put_values.Goals as goal

pub returns-in_err-put_value-clause-ok : goal.returns-in_err-put_value-clause-ok
returns-in_err-put_value-clause-ok c = IfOk-from_err c.from_residual.result _ c.from_residual.ensures.0

pub returns-in_err-put_value-clause-front : goal.returns-in_err-put_value-clause-front
returns-in_err-put_value-clause-front c =
    front_twice _ _ _ c.loop-value.invariant.1 c.in_err-put_value.ensures.front

pub returns-clause-front : goal.returns-clause-front
returns-clause-front c = c.loop-value.invariant.1
