use Rattle.std.proofs.Common.{◌≡◌, ◌≢◌, ℕ, ◌-◌, ◌≤◌, Bool, true, false, List, [], ◌∷◌, ◌++◌, map, length, Option, Some, None, Result, Ok, Err, refl, sym, ◌∙◌, ap, subst, arith}
use Rattle.std.proofs.lemmas.Result.{err_from_is_err_and}
use Rattle.mg_expr.specs.Trees.{Tree, tree_of}
use Rattle.mg_sql.specs.declared.token.Kind.{Kind}
use Rattle.mg_sql.specs.declared.token.Kind.TheVariants as kinds
use Rattle.mg_statements.specs.declared.fault.SqlFault.{SqlFault}
use Rattle.mg_statements.specs.declared.fault.SqlFault.TheVariants as faults
use Rattle.mg_sql.specs.declared.parser.Parser.{Parser}
use Rattle.mg_statements.specs.declared.statement.Def.{Def}
use Rattle.mg_statements.specs.declared.statement.Sorted.{Sorted}
use Rattle.mg_statements.specs.Plain as plain
use Rattle.mg_statements.specs.Plain.{Plain, Total, plain_of, tree_in, trees_in, names_in, assign_of, total_of}
use Rattle.mg_sql.specs.Statements as g
use Rattle.mg_sql.specs.Statements.{Rest, item, behind}
use Rattle.mg_sql.specs.Reading.{IsReady, Keeps, Told, Fails, Takes_, Expects, TellsName, TellsSize}
use Rattle.mg_sql.specs.Going.{Spelled, Derives, Goes, Never, begins_in, behind_item, behind_list}
use Rattle.mg_sql.proofs.Moves as moves
use Rattle.mg_sql.proofs.Moves.{derives_on, fails_on, goes_on, turned, turn_left, turn_right, turn_on, never_word, never_either, never_name, never_finish, never_by, expected, word_wrong, took_left, taken_word, passed, optional_read, wrong}
use Rattle.mg_sql.proofs.Steps.{kept_on, kept}
use Rattle.mg_sql.proofs.Whole.{answers, reads_on}
use Rattle.mg_sql.proofs.parsing.parse.Goals as goal

pub returns-in_err-parsed : goal.returns-in_err-parsed
returns-in_err-parsed c =
    let p = err_from_is_err_and c.from_residual.result c.from_residual.ensures.1 in rw (p.1, p.2)
    (answers _ c.statement.new.p c.scan-at.ensures.blanks c.in_err-parsed.ensures.keeps (Err c.in_err-parsed.field-0.0) c.in_err-parsed.ensures.told)

pub returns-in-Err : goal.returns-in-Err
returns-in-Err c =
    answers _ c.end.new.p c.scan-at.ensures.blanks (kept_on _ c.statement.new.p c.end.new.p c.in_ok-parsed.ensures.keeps c.in-Err.ensures.keeps) (Err c.in-Err.fault)
    (fails_on c.in_ok-parsed.ensures.told c.in-Err.ensures.keeps _ (c.in-Err.ensures.told (plain_of c.in_ok-parsed.parsed)))

pub returns-in-Ok : goal.returns-in-Ok
returns-in-Ok c =
    answers _ c.end.new.p c.scan-at.ensures.blanks (kept_on _ c.statement.new.p c.end.new.p c.in_ok-parsed.ensures.keeps c.in-Ok.ensures.keeps) (Ok c.in_ok-parsed.parsed)
    (let d = c.in-Ok.ensures.told (plain_of c.in_ok-parsed.parsed) in (reads_on c.end.new.p c.in_ok-parsed.ensures.told d.0, d.1))
