use Rattle.std.proofs.lemmas.Result.{err_from_is_err_and}
use Rattle.mg_sql.specs.declared.token.Kind.TheVariants as kinds
use Rattle.mg_sql.proofs.LastWord.{last_word}
use Rattle.mg_sql.proofs.Moves.{derives_on, fails_on, goes_on, expected, word_wrong}
use Rattle.mg_sql.proofs.Steps.{kept_on}
use Rattle.mg_sql.proofs.lists.all_rows.Goals as goal

pub returns-in_err-expect-clause-keeps : goal.returns-in_err-expect-clause-keeps
returns-in_err-expect-clause-keeps c = c.in_err-expect.ensures.keeps

pub returns-in_err-expect-clause-told : goal.returns-in_err-expect-clause-told
returns-in_err-expect-clause-told c then_ =
    let p = err_from_is_err_and c.from_residual.result c.from_residual.ensures.1 in rw (p.1, p.2)
    (word_wrong _ c.args.p.now c.expect.new.self _ c.in_err-expect.ensures.told)

pub returns-in_err-expect-2-clause-keeps : goal.returns-in_err-expect-2-clause-keeps
returns-in_err-expect-2-clause-keeps c = kept_on _ _ _ c.in_ok-expect.ensures.keeps c.in_err-expect-2.ensures.keeps

pub returns-in_err-expect-2-clause-told : goal.returns-in_err-expect-2-clause-told
returns-in_err-expect-2-clause-told c then_ =
    let p = err_from_is_err_and c.from_residual-in_err-expect-2.result c.from_residual-in_err-expect-2.ensures.1 in rw (p.1, p.2)
    (fails_on (expected c.args.p.now c.expect.new.self c.in_ok-expect.ensures.keeps c.in_ok-expect.ensures.told) c.in_err-expect-2.ensures.keeps _ (word_wrong _ c.expect.new.self c.expect-2.new.self _ c.in_err-expect-2.ensures.told))

pub returns-clause-keeps : goal.returns-clause-keeps
returns-clause-keeps c = kept_on _ _ _ (kept_on _ _ _ c.in_ok-expect.ensures.keeps c.in_ok-expect-2.ensures.keeps) c.expect-3.ensures.keeps

pub returns-clause-told : goal.returns-clause-told
returns-clause-told c then_ =
    goes_on (λ nothing. nothing) (λ _. then_) (derives_on (expected c.args.p.now c.expect.new.self c.in_ok-expect.ensures.keeps c.in_ok-expect.ensures.told) (expected c.expect.new.self c.expect-2.new.self c.in_ok-expect-2.ensures.keeps c.in_ok-expect-2.ensures.told)) c.expect-3.ensures.keeps c.expect-3.result
    (last_word kinds.Close then_ c.expect-2.new.self c.expect-3.new.self c.expect-3.result c.expect-3.ensures.keeps c.expect-3.ensures.told)
