use Rattle.std.proofs.Common.{◌≡◌, ◌≢◌, ℕ, ◌-◌, ◌≤◌, Bool, true, false, List, [], ◌∷◌, ◌++◌, map, length, Option, Some, None, Result, Ok, Err, refl, sym, ◌∙◌, ap, subst, arith}
use Rattle.std.proofs.lemmas.Result.{err_from_is_err_and}
use Rattle.mg_expr.specs.Trees.{Tree, tree_of}
use Rattle.mg_sql.specs.declared.token.Kind.{Kind}
use Rattle.mg_sql.specs.declared.token.Kind.TheVariants as kinds
use Rattle.mg_statements.specs.declared.fault.SqlFault.{SqlFault}
use Rattle.mg_statements.specs.declared.fault.SqlFault.TheVariants as faults
use Rattle.mg_sql.specs.declared.parser.Parser.{Parser}
use Rattle.mg_statements.specs.declared.statement.Def.{Def}
use Rattle.mg_statements.specs.declared.statement.Sorted.{Sorted}
use Rattle.mg_statements.specs.Plain as plain
use Rattle.mg_statements.specs.Plain.{Plain, Total, plain_of, tree_in, trees_in, names_in, assign_of, total_of}
use Rattle.mg_sql.specs.Statements as g
use Rattle.mg_sql.specs.Statements.{Rest, item, behind}
use Rattle.mg_sql.specs.Reading.{IsReady, Keeps, Told, Fails, Takes_, Expects, TellsName, TellsSize}
use Rattle.mg_sql.specs.Going.{Spelled, Derives, Goes, Never, begins_in, behind_item, behind_list}
use Rattle.mg_sql.proofs.KindNumbers.{apart}
use Rattle.mg_sql.proofs.Moves as moves
use Rattle.mg_sql.proofs.Moves.{derives_on, fails_on, goes_on, turned, turn_left, turn_right, turn_on, never_word, never_either, never_name, never_finish, never_by, expected, word_wrong, took_left, taken_word, passed, optional_read, wrong}
use Rattle.mg_sql.proofs.Steps.{kept_on, kept}
use Rattle.mg_sql.proofs.Moves.{Turns}
use Rattle.mg_sql.proofs.parsing.statement.Goals as goal

pub returns-in-Set-clause-keeps : goal.returns-in-Set-clause-keeps
returns-in-Set-clause-keeps c = c.set_transaction.ensures.keeps

pub returns-in-Set-clause-told : goal.returns-in-Set-clause-told
returns-in-Set-clause-told c =
    goes_on plain_of g.finish (turned c.requires.ready (subst (λ k. Turns g.statement g.set_transaction k) (sym c.in-Set.is) (turn_left (never_either (never_word (apart refl)) (never_either (never_word (apart refl)) (never_either (never_word (apart refl)) (never_either (never_word (apart refl)) (never_either (never_word (apart refl)) (never_either (never_word (apart refl)) (never_either (never_word (apart refl)) (never_word (apart refl))))))))))))
    c.set_transaction.ensures.keeps c.set_transaction.result c.set_transaction.ensures.told

pub returns-in-Commit-clause-keeps : goal.returns-in-Commit-clause-keeps
returns-in-Commit-clause-keeps c = c.commit.ensures.keeps

pub returns-in-Commit-clause-told : goal.returns-in-Commit-clause-told
returns-in-Commit-clause-told c =
    goes_on plain_of g.finish (turned c.requires.ready (subst (λ k. Turns g.statement g.commit k) (sym c.in-Commit.is) (turn_on (turn_right (never_word (apart refl))) (turn_left (never_either (never_word (apart refl)) (never_either (never_word (apart refl)) (never_either (never_word (apart refl)) (never_either (never_word (apart refl)) (never_either (never_word (apart refl)) (never_either (never_word (apart refl)) (never_word (apart refl))))))))))))
    c.commit.ensures.keeps c.commit.result c.commit.ensures.told

pub returns-in-Rollback-clause-keeps : goal.returns-in-Rollback-clause-keeps
returns-in-Rollback-clause-keeps c = c.rollback.ensures.keeps

pub returns-in-Rollback-clause-told : goal.returns-in-Rollback-clause-told
returns-in-Rollback-clause-told c =
    goes_on plain_of g.finish (turned c.requires.ready (subst (λ k. Turns g.statement g.rollback k) (sym c.in-Rollback.is) (turn_on (turn_right (never_word (apart refl))) (turn_on (turn_right (never_word (apart refl))) (turn_left (never_either (never_word (apart refl)) (never_either (never_word (apart refl)) (never_either (never_word (apart refl)) (never_either (never_word (apart refl)) (never_either (never_word (apart refl)) (never_word (apart refl))))))))))))
    c.rollback.ensures.keeps c.rollback.result c.rollback.ensures.told

pub returns-in-Savepoint-clause-keeps : goal.returns-in-Savepoint-clause-keeps
returns-in-Savepoint-clause-keeps c = c.savepoint.ensures.keeps

pub returns-in-Savepoint-clause-told : goal.returns-in-Savepoint-clause-told
returns-in-Savepoint-clause-told c =
    goes_on plain_of g.finish (turned c.requires.ready (subst (λ k. Turns g.statement g.savepoint k) (sym c.in-Savepoint.is) (turn_on (turn_right (never_word (apart refl))) (turn_on (turn_right (never_word (apart refl))) (turn_on (turn_right (never_word (apart refl))) (turn_left (never_either (never_word (apart refl)) (never_either (never_word (apart refl)) (never_either (never_word (apart refl)) (never_either (never_word (apart refl)) (never_word (apart refl))))))))))))
    c.savepoint.ensures.keeps c.savepoint.result c.savepoint.ensures.told

pub returns-in-Create-clause-keeps : goal.returns-in-Create-clause-keeps
returns-in-Create-clause-keeps c = c.create_table.ensures.keeps

pub returns-in-Create-clause-told : goal.returns-in-Create-clause-told
returns-in-Create-clause-told c =
    goes_on plain_of g.finish (turned c.requires.ready (subst (λ k. Turns g.statement g.create_table k) (sym c.in-Create.is) (turn_on (turn_right (never_word (apart refl))) (turn_on (turn_right (never_word (apart refl))) (turn_on (turn_right (never_word (apart refl))) (turn_on (turn_right (never_word (apart refl))) (turn_left (never_either (never_word (apart refl)) (never_either (never_word (apart refl)) (never_either (never_word (apart refl)) (never_word (apart refl))))))))))))
    c.create_table.ensures.keeps c.create_table.result c.create_table.ensures.told

pub returns-in-Insert-clause-keeps : goal.returns-in-Insert-clause-keeps
returns-in-Insert-clause-keeps c = c.insert.ensures.keeps

pub returns-in-Insert-clause-told : goal.returns-in-Insert-clause-told
returns-in-Insert-clause-told c =
    goes_on plain_of g.finish (turned c.requires.ready (subst (λ k. Turns g.statement g.insert k) (sym c.in-Insert.is) (turn_on (turn_right (never_word (apart refl))) (turn_on (turn_right (never_word (apart refl))) (turn_on (turn_right (never_word (apart refl))) (turn_on (turn_right (never_word (apart refl))) (turn_on (turn_right (never_word (apart refl))) (turn_left (never_either (never_word (apart refl)) (never_either (never_word (apart refl)) (never_word (apart refl))))))))))))
    c.insert.ensures.keeps c.insert.result c.insert.ensures.told

pub returns-in-Update-clause-keeps : goal.returns-in-Update-clause-keeps
returns-in-Update-clause-keeps c = c.update.ensures.keeps

pub returns-in-Update-clause-told : goal.returns-in-Update-clause-told
returns-in-Update-clause-told c =
    goes_on plain_of g.finish (turned c.requires.ready (subst (λ k. Turns g.statement g.update k) (sym c.in-Update.is) (turn_on (turn_right (never_word (apart refl))) (turn_on (turn_right (never_word (apart refl))) (turn_on (turn_right (never_word (apart refl))) (turn_on (turn_right (never_word (apart refl))) (turn_on (turn_right (never_word (apart refl))) (turn_on (turn_right (never_word (apart refl))) (turn_left (never_either (never_word (apart refl)) (never_word (apart refl))))))))))))
    c.update.ensures.keeps c.update.result c.update.ensures.told

pub returns-in-Delete-clause-keeps : goal.returns-in-Delete-clause-keeps
returns-in-Delete-clause-keeps c = c.delete.ensures.keeps

pub returns-in-Delete-clause-told : goal.returns-in-Delete-clause-told
returns-in-Delete-clause-told c =
    goes_on plain_of g.finish (turned c.requires.ready (subst (λ k. Turns g.statement g.delete k) (sym c.in-Delete.is) (turn_on (turn_right (never_word (apart refl))) (turn_on (turn_right (never_word (apart refl))) (turn_on (turn_right (never_word (apart refl))) (turn_on (turn_right (never_word (apart refl))) (turn_on (turn_right (never_word (apart refl))) (turn_on (turn_right (never_word (apart refl))) (turn_on (turn_right (never_word (apart refl))) (turn_left (never_word (apart refl))))))))))))
    c.delete.ensures.keeps c.delete.result c.delete.ensures.told

pub returns-in-Select-clause-keeps : goal.returns-in-Select-clause-keeps
returns-in-Select-clause-keeps c = c.select.ensures.keeps

pub returns-in-Select-clause-told : goal.returns-in-Select-clause-told
returns-in-Select-clause-told c =
    goes_on plain_of g.finish (turned c.requires.ready (subst (λ k. Turns g.statement g.select k) (sym c.in-Select.is) (turn_on (turn_right (never_word (apart refl))) (turn_on (turn_right (never_word (apart refl))) (turn_on (turn_right (never_word (apart refl))) (turn_on (turn_right (never_word (apart refl))) (turn_on (turn_right (never_word (apart refl))) (turn_on (turn_right (never_word (apart refl))) (turn_on (turn_right (never_word (apart refl))) (turn_right (never_word (apart refl))))))))))))
    c.select.ensures.keeps c.select.result c.select.ensures.told

pub returns-in_default : goal.returns-in_default
returns-in_default c = record {
  keeps = kept c.args.p.now c.requires.ready;
  told = wrong c.args.p.now _ (never_either (never_word c.in_default.not-Set) (never_either (never_word c.in_default.not-Commit) (never_either (never_word c.in_default.not-Rollback) (never_either (never_word c.in_default.not-Savepoint) (never_either (never_word c.in_default.not-Create) (never_either (never_word c.in_default.not-Insert) (never_either (never_word c.in_default.not-Update) (never_either (never_word c.in_default.not-Delete) (never_word c.in_default.not-Select))))))))) c.syntax.ensures;
}
