use Rattle.std.proofs.Common.{refl}
use Rattle.std.proofs.lemmas.Result.{IfOk-from_err}
use Rattle.mg_script.proofs.FrontLemmas.{front_twice, last_put}
use Rattle.mg_script.proofs.refusal.put_words.Goals as goal

pub returns-in_err-put_word-clause-ok : goal.returns-in_err-put_word-clause-ok
returns-in_err-put_word-clause-ok c = IfOk-from_err c.from_residual.result _ c.from_residual.ensures.0

pub returns-in_err-put_word-clause-front : goal.returns-in_err-put_word-clause-front
returns-in_err-put_word-clause-front c = c.in_err-put_word.ensures.front

pub returns-clause-front : goal.returns-clause-front
returns-clause-front c = front_twice _ _ _ c.in_ok-put_word.ensures.front c.put_word-2.ensures.front

pub returns-clause-ok : goal.returns-clause-ok
returns-clause-ok c =
    last_put c.put_word-2.result c.args.out.now.items c.put_word.new.out.items c.put_word-2.new.out.items
    c.args.first.now c.args.second.now _ refl c.in_ok-put_word.ensures.ok c.put_word-2.ensures.ok
