use Rattle.std.proofs.Common.{◌≡◌, ◌≢◌, ℕ, ◌-◌, ◌≤◌, Bool, true, false, List, [], ◌∷◌, ◌++◌, map, length, Option, Some, None, Result, Ok, Err, refl, sym, ◌∙◌, ap, subst, arith}
use Rattle.std.proofs.lemmas.Result.{err_from_is_err_and}
use Rattle.mg_expr.specs.Trees.{Tree, tree_of}
use Rattle.mg_sql.specs.declared.token.Kind.{Kind}
use Rattle.mg_sql.specs.declared.token.Kind.TheVariants as kinds
use Rattle.mg_statements.specs.declared.fault.SqlFault.{SqlFault}
use Rattle.mg_statements.specs.declared.fault.SqlFault.TheVariants as faults
use Rattle.mg_sql.specs.declared.parser.Parser.{Parser}
use Rattle.mg_statements.specs.declared.statement.Def.{Def}
use Rattle.mg_statements.specs.declared.statement.Sorted.{Sorted}
use Rattle.mg_statements.specs.Plain as plain
use Rattle.mg_statements.specs.Plain.{Plain, Total, plain_of, tree_in, trees_in, names_in, assign_of, total_of}
use Rattle.mg_sql.specs.Statements as g
use Rattle.mg_sql.specs.Statements.{Rest, item, behind}
use Rattle.mg_sql.specs.Reading.{IsReady, Keeps, Told, Fails, Takes_, Expects, TellsName, TellsSize}
use Rattle.mg_sql.specs.Going.{Spelled, Derives, Goes, Never, begins_in, behind_item, behind_list}
use Rattle.mg_sql.proofs.Moves as moves
use Rattle.mg_sql.proofs.Moves.{derives_on, fails_on, goes_on, turned, turn_left, turn_right, turn_on, never_word, never_either, never_name, never_finish, never_by, expected, word_wrong, took_left, taken_word, passed, optional_read, wrong}
use Rattle.mg_sql.proofs.Steps.{kept_on, kept}
use Rattle.mg_sql.proofs.columns.size.Goals as goal

pub returns-then-not-is-clause-told : goal.returns-then-not-is-clause-told
returns-then-not-is-clause-told c then_ = wrong c.args.p.now _ (moves.never_size c.if-not-is.ensures) c.syntax.ensures

told_size : (then_ : ℕ → Rest) (old new : Parser) → Keeps old new → old.kind ≡ kinds.Integer → (result : Result ℕ SqlFault) → TellsSize old new result
    → Goes (λ most. most) (g.size then_) then_ old new result
told_size then_ old new keeps same (Ok n) told = moves.size_read old new n keeps same told.0 told.1 told.2
told_size then_ old new keeps same (Err e) told = moves.size_wrong then_ old new e told

pub returns-clause-keeps : goal.returns-clause-keeps
returns-clause-keeps c = c.size.ensures.keeps

pub returns-clause-told : goal.returns-clause-told
returns-clause-told c then_ = told_size then_ c.args.p.now c.size.new.self c.size.ensures.keeps c.if-not-is.ensures c.size.result c.size.ensures.told
