use Rattle.std.proofs.Common.{◌≡◌, ◌≢◌, ℕ, ◌-◌, ◌≤◌, Bool, true, false, List, [], ◌∷◌, ◌++◌, map, length, Option, Some, None, Result, Ok, Err, refl, sym, ◌∙◌, ap, subst, arith}
use Rattle.std.proofs.lemmas.Result.{err_from_is_err_and}
use Rattle.mg_expr.specs.Trees.{Tree, tree_of}
use Rattle.mg_sql.specs.declared.token.Kind.{Kind}
use Rattle.mg_sql.specs.declared.token.Kind.TheVariants as kinds
use Rattle.mg_statements.specs.declared.fault.SqlFault.{SqlFault}
use Rattle.mg_statements.specs.declared.fault.SqlFault.TheVariants as faults
use Rattle.mg_sql.specs.declared.parser.Parser.{Parser}
use Rattle.mg_statements.specs.declared.statement.Def.{Def}
use Rattle.mg_statements.specs.declared.statement.Sorted.{Sorted}
use Rattle.mg_statements.specs.Plain as plain
use Rattle.mg_statements.specs.Plain.{Plain, Total, plain_of, tree_in, trees_in, names_in, assign_of, total_of}
use Rattle.mg_sql.specs.Statements as g
use Rattle.mg_sql.specs.Statements.{Rest, item, behind}
use Rattle.mg_sql.specs.Reading.{IsReady, Keeps, Told, Fails, Takes_, Expects, TellsName, TellsSize}
use Rattle.mg_sql.specs.Going.{Spelled, Derives, Goes, Never, begins_in, behind_item, behind_list}
use Rattle.mg_sql.proofs.Moves as moves
use Rattle.mg_sql.proofs.Moves.{derives_on, fails_on, goes_on, turned, turn_left, turn_right, turn_on, never_word, never_either, never_name, never_finish, never_by, expected, word_wrong, took_left, taken_word, passed, optional_read, wrong}
use Rattle.mg_sql.proofs.Steps.{kept_on, kept}
use Rattle.mg_sql.proofs.Whole.{end_read, end_wrong}
use Rattle.mg_sql.proofs.Steps.{binds_six}
use Rattle.mg_sql.proofs.parsing.end.Goals as goal

pub returns-then-not-is-clause-keeps : goal.returns-then-not-is-clause-keeps
returns-then-not-is-clause-keeps c = c.takes.ensures.keeps

pub returns-then-not-is-clause-told : goal.returns-then-not-is-clause-told
returns-then-not-is-clause-told c s = end_wrong s c.args.p.now c.takes.new.self c.requires.ready c.takes.ensures.keeps c.takes.result c.takes.ensures.told c.if-not-is.ensures _ c.syntax.ensures

pub returns-clause-keeps : goal.returns-clause-keeps
returns-clause-keeps c = c.takes.ensures.keeps

pub returns-clause-told : goal.returns-clause-told
returns-clause-told c s = (end_read s c.args.p.now c.takes.new.self c.requires.ready c.takes.ensures.keeps c.takes.result c.takes.ensures.told c.if-not-is.ensures, binds_six _)
