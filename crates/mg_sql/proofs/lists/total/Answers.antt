use Rattle.std.proofs.Common.{refl}
use Rattle.std.proofs.lemmas.Result.{err_from_is_err_and}
use Rattle.mg_statements.specs.Plain as plain
use Rattle.mg_sql.proofs.KindNumbers.{apart}
use Rattle.mg_sql.proofs.Moves.{derives_on, fails_on, never_word, expected, word_wrong, took_left, passed}
use Rattle.mg_sql.proofs.Steps.{kept_on}
use Rattle.mg_sql.proofs.lists.total.Goals as goal

pub returns-in_err-all_rows-clause-keeps : goal.returns-in_err-all_rows-clause-keeps
returns-in_err-all_rows-clause-keeps c = kept_on _ _ _ c.if-takes.ensures.keeps c.in_err-all_rows.ensures.keeps

pub returns-in_err-all_rows-clause-told : goal.returns-in_err-all_rows-clause-told
returns-in_err-all_rows-clause-told c then_ closes =
    let p = err_from_is_err_and c.from_residual.result c.from_residual.ensures.1 in rw (p.1, p.2)
    (fails_on (took_left c.args.p.now c.takes.new.self c.requires.ready c.if-takes.ensures.keeps c.if-takes.ensures.told (never_word (apart refl))) c.in_err-all_rows.ensures.keeps _ (c.in_err-all_rows.ensures.told (then_ plain.Count)))

pub returns-then-takes-clause-keeps : goal.returns-then-takes-clause-keeps
returns-then-takes-clause-keeps c = kept_on _ _ _ c.if-takes.ensures.keeps c.in_ok-all_rows.ensures.keeps

pub returns-then-takes-clause-told : goal.returns-then-takes-clause-told
returns-then-takes-clause-told c then_ closes = derives_on (took_left c.args.p.now c.takes.new.self c.requires.ready c.if-takes.ensures.keeps c.if-takes.ensures.told (never_word (apart refl))) (c.in_ok-all_rows.ensures.told (then_ plain.Count))

pub returns-in_err-expect-clause-keeps : goal.returns-in_err-expect-clause-keeps
returns-in_err-expect-clause-keeps c = kept_on _ _ _ c.if-takes.ensures.keeps c.in_err-expect.ensures.keeps

pub returns-in_err-expect-clause-told : goal.returns-in_err-expect-clause-told
returns-in_err-expect-clause-told c then_ closes =
    let p = err_from_is_err_and c.from_residual-in_err-expect.result c.from_residual-in_err-expect.ensures.1 in rw (p.1, p.2)
    (fails_on (passed c.args.p.now c.takes.new.self c.requires.ready c.if-takes.ensures.told) c.in_err-expect.ensures.keeps _ (word_wrong _ c.takes.new.self c.expect.new.self _ c.in_err-expect.ensures.told))

pub returns-in_err-value-clause-keeps : goal.returns-in_err-value-clause-keeps
returns-in_err-value-clause-keeps c = kept_on _ _ _ (kept_on _ _ _ c.if-takes.ensures.keeps c.in_ok-expect.ensures.keeps) c.in_err-value.ensures.keeps

pub returns-in_err-value-clause-told : goal.returns-in_err-value-clause-told
returns-in_err-value-clause-told c then_ closes =
    let p = err_from_is_err_and c.from_residual-in_err-value.result c.from_residual-in_err-value.ensures.1 in rw (p.1, p.2)
    (fails_on (derives_on (passed c.args.p.now c.takes.new.self c.requires.ready c.if-takes.ensures.told) (expected c.takes.new.self c.expect.new.self c.in_ok-expect.ensures.keeps c.in_ok-expect.ensures.told)) c.in_err-value.ensures.keeps _ (c.in_err-value.ensures.told (λ e. then_ (plain.SumOf e))))

pub returns-clause-keeps : goal.returns-clause-keeps
returns-clause-keeps c = kept_on _ _ _ (kept_on _ _ _ c.if-takes.ensures.keeps c.in_ok-expect.ensures.keeps) c.in_ok-value.ensures.keeps

pub returns-clause-told : goal.returns-clause-told
returns-clause-told c then_ closes = derives_on (derives_on (passed c.args.p.now c.takes.new.self c.requires.ready c.if-takes.ensures.told) (expected c.takes.new.self c.expect.new.self c.in_ok-expect.ensures.keeps c.in_ok-expect.ensures.told)) (c.in_ok-value.ensures.told (λ e. then_ (plain.SumOf e)))
