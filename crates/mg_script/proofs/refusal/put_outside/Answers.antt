use Rattle.std.proofs.Common.{◌∷◌, [], ◌++◌, refl}
use Rattle.std.specs.Prelude.{codes}
use Rattle.mg_script.specs.Texts.{refusal_text}
use Rattle.std.proofs.lemmas.Result.{IfOk-from_err}
use Rattle.mg_script.proofs.FrontLemmas.{both_put, front_twice, last_put}
use Rattle.mg_script.proofs.refusal.put_outside.Goals as goal

pub returns-in_err-put_word-clause-ok : goal.returns-in_err-put_word-clause-ok
returns-in_err-put_word-clause-ok c = IfOk-from_err c.from_residual.result _ c.from_residual.ensures.0

pub returns-in_err-put_word-clause-front : goal.returns-in_err-put_word-clause-front
returns-in_err-put_word-clause-front c = c.in_err-put_word.ensures.front

pub returns-in_err-put_refusal-clause-ok : goal.returns-in_err-put_refusal-clause-ok
returns-in_err-put_refusal-clause-ok c =
    IfOk-from_err c.from_residual-in_err-put_refusal.result _ c.from_residual-in_err-put_refusal.ensures.0

pub returns-in_err-put_refusal-clause-front : goal.returns-in_err-put_refusal-clause-front
returns-in_err-put_refusal-clause-front c =
    front_twice _ _ _ c.in_ok-put_word.ensures.front c.in_err-put_refusal.ensures.front

pub returns-clause-front : goal.returns-clause-front
returns-clause-front c =
    front_twice _ _ _ (front_twice _ _ _ c.in_ok-put_word.ensures.front c.in_ok-put_refusal.ensures.front)
    c.put_word-2.ensures.front

pub returns-clause-ok : goal.returns-clause-ok
returns-clause-ok c =
    last_put c.put_word-2.result c.args.out.now.items c.put_refusal.new.out.items c.put_word-2.new.out.items
    (codes "mgdb: " ++ refusal_text c.args.refusal) (10 ∷ []) _ refl
    (both_put _ _ _ _ _ c.in_ok-put_word.ensures.ok c.in_ok-put_refusal.ensures.ok) c.put_word-2.ensures.ok
