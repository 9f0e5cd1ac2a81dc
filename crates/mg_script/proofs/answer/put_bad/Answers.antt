use Rattle.std.proofs.Common.{◌++◌, refl}
use Rattle.std.specs.Prelude.{codes, decimal}
use Rattle.std.proofs.lemmas.Result.{IfOk-from_err}
use Rattle.mg_script.proofs.FrontLemmas.{front_twice, last_put}
use Rattle.mg_script.proofs.answer.put_bad.Goals as goal

pub returns-in_err-put_named-clause-ok : goal.returns-in_err-put_named-clause-ok
returns-in_err-put_named-clause-ok c = IfOk-from_err c.from_residual.result _ c.from_residual.ensures.0

pub returns-in_err-put_named-clause-front : goal.returns-in_err-put_named-clause-front
returns-in_err-put_named-clause-front c = c.in_err-put_named.ensures.front

pub returns-clause-front : goal.returns-clause-front
returns-clause-front c = front_twice _ _ _ c.in_ok-put_named.ensures.front c.put_word.ensures.front

pub returns-clause-ok : goal.returns-clause-ok
returns-clause-ok c =
    last_put c.put_word.result c.args.out.now.items c.put_named.new.out.items c.put_word.new.out.items
    (codes "line " ++ decimal c.args.number) (codes ": BAD LINE\n") _ refl c.in_ok-put_named.ensures.ok c.put_word.ensures.ok
