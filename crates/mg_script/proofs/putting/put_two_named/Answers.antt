use Rattle.std.proofs.lemmas.Result.{IfOk-from_err}
use Rattle.mg_script.proofs.FrontLemmas.{front_twice}
use Rattle.mg_script.proofs.putting.put_two_named.Goals as goal

pub returns-in_err-put_named-clause-ok : goal.returns-in_err-put_named-clause-ok
returns-in_err-put_named-clause-ok c = IfOk-from_err c.from_residual.result _ c.from_residual.ensures.0

pub returns-in_err-put_named-clause-front : goal.returns-in_err-put_named-clause-front
returns-in_err-put_named-clause-front c = c.in_err-put_named.ensures.front

pub returns-clause-front : goal.returns-clause-front
returns-clause-front c = front_twice _ _ _ c.in_ok-put_named.ensures.front c.put_named-2.ensures.front
