use Rattle.std.proofs.Common.{◌≡◌, ℕ, List, [], ◌∷◌, Ok, Err, refl, sym, ◌∙◌, ap, subst}
use Rattle.mg_sql.specs.declared.token.Kind.TheVariants as kinds
use Rattle.mg_sql.proofs.Parting.{asks_so_far, asks_wrong, asked_on, asked_read}
use Rattle.mg_sql.proofs.Steps.{kept_on}
use Rattle.std.proofs.lemmas.Result.{err_from_is_err_and}
use Rattle.mg_sql.proofs.expr.asks.Goals as goal

pub returns-in_err-expect-clause-keeps : goal.returns-in_err-expect-clause-keeps
returns-in_err-expect-clause-keeps c = kept_on _ _ _ (kept_on _ _ _ c.advance.ensures.keeps c.takes-not.ensures.keeps) c.in_err-expect.ensures.keeps

pub returns-in_err-expect-clause-told : goal.returns-in_err-expect-clause-told
returns-in_err-expect-clause-told c start levels first kept_first read =
    let p = err_from_is_err_and c.from_residual.result c.from_residual.ensures.1 in rw (p.1, p.2)
    (asks_wrong levels first start c.takes-not.new.self c.expect.new.self c.takes-not.result
    (asks_so_far levels first start c.args.p.now c.advance.new.self c.takes-not.new.self kept_first read c.requires.is c.advance.ensures.keeps c.advance.ensures.token c.takes-not.result c.takes-not.ensures.told)
    _ c.in_err-expect.ensures.told)

pub returns-in_err-ends_test-clause-keeps : goal.returns-in_err-ends_test-clause-keeps
returns-in_err-ends_test-clause-keeps c = kept_on _ _ _ (kept_on _ _ _ c.advance.ensures.keeps c.takes-not.ensures.keeps) c.in_ok-expect.ensures.keeps

pub returns-in_err-ends_test-clause-told : goal.returns-in_err-ends_test-clause-told
returns-in_err-ends_test-clause-told c start levels first kept_first read =
    let p = err_from_is_err_and c.from_residual-in_err-ends_test.result c.from_residual-in_err-ends_test.ensures.1 in rw (p.1, p.2)
    (asked_on levels first start c.takes-not.new.self c.expect.new.self c.takes-not.result
    (asks_so_far levels first start c.args.p.now c.advance.new.self c.takes-not.new.self kept_first read c.requires.is c.advance.ensures.keeps c.advance.ensures.token c.takes-not.result c.takes-not.ensures.told)
    (kept_on start c.advance.new.self c.takes-not.new.self (kept_on start c.args.p.now c.advance.new.self kept_first c.advance.ensures.keeps) c.takes-not.ensures.keeps)
    c.in_ok-expect.ensures.told.0 c.in_ok-expect.ensures.told.1 _ c.in_err-ends_test.ensures)

pub returns-clause-keeps : goal.returns-clause-keeps
returns-clause-keeps c = kept_on _ _ _ (kept_on _ _ _ c.advance.ensures.keeps c.takes-not.ensures.keeps) c.in_ok-expect.ensures.keeps

pub returns-clause-told : goal.returns-clause-told
returns-clause-told c start levels first kept_first read = (
  asked_read levels first start c.takes-not.new.self c.expect.new.self c.takes-not.result
      (asks_so_far levels first start c.args.p.now c.advance.new.self c.takes-not.new.self kept_first read c.requires.is c.advance.ensures.keeps c.advance.ensures.token c.takes-not.result c.takes-not.ensures.told)
      (kept_on start c.advance.new.self c.takes-not.new.self (kept_on start c.args.p.now c.advance.new.self kept_first c.advance.ensures.keeps) c.takes-not.ensures.keeps)
      c.in_ok-expect.ensures.told.0 c.in_ok-expect.ensures.told.1,
  c.in_ok-ends_test.ensures,
)
