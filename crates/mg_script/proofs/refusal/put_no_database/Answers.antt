use Rattle.std.proofs.Common.{◌≡◌, ℕ, List, ◌++◌}
use Rattle.std.specs.Prelude.{codes, decimal}
use Rattle.mg_script.specs.Texts.{field_word, refusal_text}
use Rattle.mg_model.specs.declared.refusal.Refusal.TheVariants.{NotADatabase}
use Rattle.mg_script.proofs.PuttingLemmas.{on_ok, worded_put}
use Rattle.std.proofs.lemmas.Result.{IfOk-from_err}
use Rattle.mg_script.proofs.FrontLemmas.{front_twice}
use Rattle.mg_script.proofs.refusal.put_no_database.Goals as goal

pub returns-clause-ok : goal.returns-clause-ok
returns-clause-ok c =
    on_ok c.put_count.result
    (c.put_count.new.out.items ≡ c.put_words.new.out.items ++ (codes " FOUND " ++ decimal c.args.found))
    (c.put_count.new.out.items ≡ c.args.out.now.items ++ refusal_text (NotADatabase c.args.field c.args.found))
    (worded_put c.args.out.now.items c.put_words.new.out.items c.put_count.new.out.items (codes "NOT A DATABASE ")
    c.field_word.result.now (field_word c.args.field) (codes " FOUND ") (decimal c.args.found) c.field_word.ensures
    c.in_ok-put_words.ensures.ok)
    c.put_count.ensures.ok

pub returns-in_err-put_words-clause-ok : goal.returns-in_err-put_words-clause-ok
returns-in_err-put_words-clause-ok c = IfOk-from_err c.from_residual.result _ c.from_residual.ensures.0

pub returns-in_err-put_words-clause-front : goal.returns-in_err-put_words-clause-front
returns-in_err-put_words-clause-front c = c.in_err-put_words.ensures.front

pub returns-clause-front : goal.returns-clause-front
returns-clause-front c = front_twice _ _ _ c.in_ok-put_words.ensures.front c.put_count.ensures.front
