use Rattle.std.proofs.lemmas.Result.{IfOk-from_err}
use Rattle.mg_script.proofs.FrontLemmas.{front_twice}
use Rattle.mg_script.proofs.answer.put_row_line.Goals as goal

pub returns-in_err-put_letter-clause-ok : goal.returns-in_err-put_letter-clause-ok
returns-in_err-put_letter-clause-ok c = IfOk-from_err c.from_residual.result _ c.from_residual.ensures.0

pub returns-in_err-put_letter-clause-front : goal.returns-in_err-put_letter-clause-front
returns-in_err-put_letter-clause-front c = c.in_err-put_letter.ensures.front

pub returns-in_err-put_word-clause-ok : goal.returns-in_err-put_word-clause-ok
returns-in_err-put_word-clause-ok c =
    IfOk-from_err c.from_residual-in_err-put_word.result _ c.from_residual-in_err-put_word.ensures.0

pub returns-in_err-put_word-clause-front : goal.returns-in_err-put_word-clause-front
returns-in_err-put_word-clause-front c =
    front_twice _ _ _ c.in_ok-put_letter.ensures.front c.in_err-put_word.ensures.front

pub returns-in_err-put_values-clause-ok : goal.returns-in_err-put_values-clause-ok
returns-in_err-put_values-clause-ok c =
    IfOk-from_err c.from_residual-in_err-put_values.result _ c.from_residual-in_err-put_values.ensures.0

pub returns-in_err-put_values-clause-front : goal.returns-in_err-put_values-clause-front
returns-in_err-put_values-clause-front c =
    front_twice _ _ _ (front_twice _ _ _ c.in_ok-put_letter.ensures.front c.in_ok-put_word.ensures.front)
    c.in_err-put_values.ensures.front

pub returns-clause-front : goal.returns-clause-front
returns-clause-front c =
    front_twice _ _ _ (front_twice _ _ _ (front_twice _ _ _ c.in_ok-put_letter.ensures.front
    c.in_ok-put_word.ensures.front) c.in_ok-put_values.ensures.front) c.put_word-2.ensures.front
