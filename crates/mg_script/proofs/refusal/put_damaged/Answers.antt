use Rattle.std.proofs.Common.{◌≡◌, ℕ, List, ◌++◌}
use Rattle.std.specs.Prelude.{codes, decimal}
use Rattle.mg_script.specs.Texts.{field_word, refusal_text}
use Rattle.mg_model.specs.declared.refusal.Refusal.TheVariants.{Damaged}
use Rattle.mg_script.proofs.PuttingLemmas.{damaged_put, on_ok}
use Rattle.std.proofs.lemmas.Result.{IfOk-from_err}
use Rattle.mg_script.proofs.FrontLemmas.{front_twice}
use Rattle.mg_script.proofs.refusal.put_damaged.Goals as goal

pub returns-clause-ok : goal.returns-clause-ok
returns-clause-ok c =
    on_ok c.put_count-2.result
    (c.put_count-2.new.out.items ≡ c.put_count.new.out.items ++ (codes " WANTED " ++ decimal c.args.wanted))
    (c.put_count-2.new.out.items
    ≡ c.args.out.now.items ++ refusal_text (Damaged c.args.page c.args.field c.args.found c.args.wanted))
    (damaged_put c.args.out.now.items c.put_named.new.out.items c.put_words.new.out.items c.put_count.new.out.items
    c.put_count-2.new.out.items (codes "DAMAGED PAGE ") (decimal c.args.page.0) (codes " ") c.field_word.result.now
    (field_word c.args.field) (codes " FOUND ") (decimal c.args.found) (codes " WANTED ") (decimal c.args.wanted)
    c.field_word.ensures c.in_ok-put_named.ensures.ok c.in_ok-put_words.ensures.ok c.in_ok-put_count.ensures.ok)
    c.put_count-2.ensures.ok

pub returns-in_err-put_named-clause-ok : goal.returns-in_err-put_named-clause-ok
returns-in_err-put_named-clause-ok c = IfOk-from_err c.from_residual.result _ c.from_residual.ensures.0

pub returns-in_err-put_named-clause-front : goal.returns-in_err-put_named-clause-front
returns-in_err-put_named-clause-front c = c.in_err-put_named.ensures.front

pub returns-in_err-put_words-clause-ok : goal.returns-in_err-put_words-clause-ok
returns-in_err-put_words-clause-ok c =
    IfOk-from_err c.from_residual-in_err-put_words.result _ c.from_residual-in_err-put_words.ensures.0

pub returns-in_err-put_words-clause-front : goal.returns-in_err-put_words-clause-front
returns-in_err-put_words-clause-front c =
    front_twice _ _ _ c.in_ok-put_named.ensures.front c.in_err-put_words.ensures.front

pub returns-in_err-put_count-clause-ok : goal.returns-in_err-put_count-clause-ok
returns-in_err-put_count-clause-ok c =
    IfOk-from_err c.from_residual-in_err-put_count.result _ c.from_residual-in_err-put_count.ensures.0

pub returns-in_err-put_count-clause-front : goal.returns-in_err-put_count-clause-front
returns-in_err-put_count-clause-front c =
    front_twice _ _ _ (front_twice _ _ _ c.in_ok-put_named.ensures.front c.in_ok-put_words.ensures.front)
    c.in_err-put_count.ensures.front

pub returns-clause-front : goal.returns-clause-front
returns-clause-front c =
    front_twice _ _ _ (front_twice _ _ _ (front_twice _ _ _ c.in_ok-put_named.ensures.front
    c.in_ok-put_words.ensures.front) c.in_ok-put_count.ensures.front) c.put_count-2.ensures.front
