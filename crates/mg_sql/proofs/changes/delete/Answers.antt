use Rattle.std.proofs.Common.{◌≡◌, ◌≢◌, ℕ, ◌-◌, ◌≤◌, Bool, true, false, List, [], ◌∷◌, ◌++◌, map, length, Option, Some, None, Result, Ok, Err, refl, sym, ◌∙◌, ap, subst, arith}
use Rattle.std.proofs.lemmas.Result.{err_from_is_err_and}
use Rattle.mg_expr.specs.Trees.{Tree, tree_of}
use Rattle.mg_sql.specs.declared.token.Kind.{Kind}
use Rattle.mg_sql.specs.declared.token.Kind.TheVariants as kinds
use Rattle.mg_statements.specs.declared.fault.SqlFault.{SqlFault}
use Rattle.mg_statements.specs.declared.fault.SqlFault.TheVariants as faults
use Rattle.mg_sql.specs.declared.parser.Parser.{Parser}
use Rattle.mg_statements.specs.declared.statement.Def.{Def}
use Rattle.mg_statements.specs.declared.statement.Sorted.{Sorted}
use Rattle.mg_statements.specs.Plain as plain
use Rattle.mg_statements.specs.Plain.{Plain, Total, plain_of, tree_in, trees_in, names_in, assign_of, total_of}
use Rattle.mg_sql.specs.Statements as g
use Rattle.mg_sql.specs.Statements.{Rest, item, behind}
use Rattle.mg_sql.specs.Reading.{IsReady, Keeps, Told, Fails, Takes_, Expects, TellsName, TellsSize}
use Rattle.mg_sql.specs.Going.{Spelled, Derives, Goes, Never, begins_in, behind_item, behind_list}
use Rattle.mg_sql.proofs.KindNumbers.{apart}
use Rattle.mg_sql.proofs.Moves as moves
use Rattle.mg_sql.proofs.Moves.{derives_on, fails_on, goes_on, turned, turn_left, turn_right, turn_on, never_word, never_either, never_name, never_finish, never_by, expected, word_wrong, took_left, taken_word, passed, optional_read, wrong}
use Rattle.mg_sql.proofs.Steps.{kept_on, kept}
use Rattle.mg_sql.proofs.changes.delete.Goals as goal

pub returns-in_err-expect-clause-keeps : goal.returns-in_err-expect-clause-keeps
returns-in_err-expect-clause-keeps c = c.in_err-expect.ensures.keeps

pub returns-in_err-expect-clause-told : goal.returns-in_err-expect-clause-told
returns-in_err-expect-clause-told c =
    let p = err_from_is_err_and c.from_residual.result c.from_residual.ensures.1 in rw (p.1, p.2)
    (word_wrong _ c.args.p.now c.expect.new.self _ c.in_err-expect.ensures.told)

pub returns-in_err-expect-2-clause-keeps : goal.returns-in_err-expect-2-clause-keeps
returns-in_err-expect-2-clause-keeps c = kept_on _ _ _ c.in_ok-expect.ensures.keeps c.in_err-expect-2.ensures.keeps

pub returns-in_err-expect-2-clause-told : goal.returns-in_err-expect-2-clause-told
returns-in_err-expect-2-clause-told c =
    let p = err_from_is_err_and c.from_residual-in_err-expect-2.result c.from_residual-in_err-expect-2.ensures.1 in rw (p.1, p.2)
    (fails_on (expected c.args.p.now c.expect.new.self c.in_ok-expect.ensures.keeps c.in_ok-expect.ensures.told) c.in_err-expect-2.ensures.keeps _ (word_wrong _ c.expect.new.self c.expect-2.new.self _ c.in_err-expect-2.ensures.told))

pub returns-in_err-table-clause-keeps : goal.returns-in_err-table-clause-keeps
returns-in_err-table-clause-keeps c = kept_on _ _ _ (kept_on _ _ _ c.in_ok-expect.ensures.keeps c.in_ok-expect-2.ensures.keeps) c.in_err-table.ensures.keeps

pub returns-in_err-table-clause-told : goal.returns-in_err-table-clause-told
returns-in_err-table-clause-told c =
    let p = err_from_is_err_and c.from_residual-in_err-table.result c.from_residual-in_err-table.ensures.1 in rw (p.1, p.2)
    (fails_on (derives_on (expected c.args.p.now c.expect.new.self c.in_ok-expect.ensures.keeps c.in_ok-expect.ensures.told) (expected c.expect.new.self c.expect-2.new.self c.in_ok-expect-2.ensures.keeps c.in_ok-expect-2.ensures.told)) c.in_err-table.ensures.keeps _ (c.in_err-table.ensures.told _))

pub returns-in_err-filter-clause-keeps : goal.returns-in_err-filter-clause-keeps
returns-in_err-filter-clause-keeps c = kept_on _ _ _ (kept_on _ _ _ (kept_on _ _ _ c.in_ok-expect.ensures.keeps c.in_ok-expect-2.ensures.keeps) c.in_ok-table.ensures.keeps) c.in_err-filter.ensures.keeps

pub returns-in_err-filter-clause-told : goal.returns-in_err-filter-clause-told
returns-in_err-filter-clause-told c =
    let p = err_from_is_err_and c.from_residual-in_err-filter.result c.from_residual-in_err-filter.ensures.1 in rw (p.1, p.2)
    (fails_on (derives_on (derives_on (expected c.args.p.now c.expect.new.self c.in_ok-expect.ensures.keeps c.in_ok-expect.ensures.told) (expected c.expect.new.self c.expect-2.new.self c.in_ok-expect-2.ensures.keeps c.in_ok-expect-2.ensures.told)) (c.in_ok-table.ensures.told _)) c.in_err-filter.ensures.keeps _ (c.in_err-filter.ensures.told (λ e. g.finish (plain.Delete c.in_ok-table.table e)) (λ e. refl) (never_finish (apart refl) (apart refl))))

pub returns-clause-keeps : goal.returns-clause-keeps
returns-clause-keeps c = kept_on _ _ _ (kept_on _ _ _ (kept_on _ _ _ c.in_ok-expect.ensures.keeps c.in_ok-expect-2.ensures.keeps) c.in_ok-table.ensures.keeps) c.in_ok-filter.ensures.keeps

pub returns-clause-told : goal.returns-clause-told
returns-clause-told c =
    derives_on (derives_on (derives_on (expected c.args.p.now c.expect.new.self c.in_ok-expect.ensures.keeps c.in_ok-expect.ensures.told) (expected c.expect.new.self c.expect-2.new.self c.in_ok-expect-2.ensures.keeps c.in_ok-expect-2.ensures.told)) (c.in_ok-table.ensures.told _)) (c.in_ok-filter.ensures.told (λ e. g.finish (plain.Delete c.in_ok-table.table e)) (λ e. refl) (never_finish (apart refl) (apart refl)))
