use Rattle.std.proofs.Common.{◌≡◌, ◌≢◌, ℕ, ◌-◌, ◌≤◌, Bool, true, false, List, [], ◌∷◌, ◌++◌, map, length, Option, Some, None, Result, Ok, Err, refl, sym, ◌∙◌, ap, subst, arith}
use Rattle.std.proofs.lemmas.Result.{err_from_is_err_and}
use Rattle.mg_expr.specs.Trees.{Tree, tree_of}
use Rattle.mg_sql.specs.declared.token.Kind.{Kind}
use Rattle.mg_sql.specs.declared.token.Kind.TheVariants as kinds
use Rattle.mg_statements.specs.declared.fault.SqlFault.{SqlFault}
use Rattle.mg_statements.specs.declared.fault.SqlFault.TheVariants as faults
use Rattle.mg_sql.specs.declared.parser.Parser.{Parser}
use Rattle.mg_statements.specs.declared.statement.Def.{Def}
use Rattle.mg_statements.specs.declared.statement.Sorted.{Sorted}
use Rattle.mg_statements.specs.Plain as plain
use Rattle.mg_statements.specs.Plain.{Plain, Total, plain_of, tree_in, trees_in, names_in, assign_of, total_of}
use Rattle.mg_sql.specs.Statements as g
use Rattle.mg_sql.specs.Statements.{Rest, item, behind}
use Rattle.mg_sql.specs.Reading.{IsReady, Keeps, Told, Fails, Takes_, Expects, TellsName, TellsSize}
use Rattle.mg_sql.specs.Going.{Spelled, Derives, Goes, Never, begins_in, behind_item, behind_list}
use Rattle.mg_sql.proofs.KindNumbers.{apart}
use Rattle.mg_sql.proofs.Moves as moves
use Rattle.mg_sql.proofs.Moves.{derives_on, fails_on, goes_on, turned, turn_left, turn_right, turn_on, never_word, never_either, never_name, never_finish, never_by, expected, word_wrong, took_left, taken_word, passed, optional_read, wrong}
use Rattle.mg_sql.proofs.Steps.{kept_on, kept}
use Rattle.mg_sql.proofs.selecting.direction.Goals as goal

pub returns-then-takes-clause-keeps : goal.returns-then-takes-clause-keeps
returns-then-takes-clause-keeps c = c.if-takes.ensures.keeps

pub returns-then-takes-clause-told : goal.returns-then-takes-clause-told
returns-then-takes-clause-told c then_ no_asc no_desc =
    took_left c.args.p.now c.takes.new.self c.requires.ready c.if-takes.ensures.keeps c.if-takes.ensures.told (never_either (never_word (apart refl)) no_asc)

pub returns-clause-keeps : goal.returns-clause-keeps
returns-clause-keeps c = kept_on _ _ _ c.if-takes.ensures.keeps c.takes-2.ensures.keeps

pub returns-clause-told : goal.returns-clause-told
returns-clause-told c then_ no_asc no_desc =
    derives_on (passed c.args.p.now c.takes.new.self c.requires.ready c.if-takes.ensures.told) (moves.desc_read then_ c.takes.new.self c.takes-2.new.self (moves.passed_ready c.args.p.now c.takes.new.self c.requires.ready c.if-takes.ensures.told) c.takes-2.ensures.keeps no_desc c.takes-2.result c.takes-2.ensures.told)
