use Rattle.std.proofs.Common.{◌≡◌, ◌≢◌, ℕ, ◌-◌, ◌≤◌, Bool, true, false, List, [], ◌∷◌, ◌++◌, map, length, Option, Some, None, Result, Ok, Err, refl, sym, ◌∙◌, ap, subst, arith}
use Rattle.std.proofs.lemmas.Result.{err_from_is_err_and}
use Rattle.mg_expr.specs.Trees.{Tree, tree_of}
use Rattle.mg_sql.specs.declared.token.Kind.{Kind}
use Rattle.mg_sql.specs.declared.token.Kind.TheVariants as kinds
use Rattle.mg_statements.specs.declared.fault.SqlFault.{SqlFault}
use Rattle.mg_statements.specs.declared.fault.SqlFault.TheVariants as faults
use Rattle.mg_sql.specs.declared.parser.Parser.{Parser}
use Rattle.mg_statements.specs.declared.statement.Def.{Def}
use Rattle.mg_statements.specs.declared.statement.Sorted.{Sorted}
use Rattle.mg_statements.specs.Plain as plain
use Rattle.mg_statements.specs.Plain.{Plain, Total, plain_of, tree_in, trees_in, names_in, assign_of, total_of}
use Rattle.mg_sql.specs.Statements as g
use Rattle.mg_sql.specs.Statements.{Rest, item, behind}
use Rattle.mg_sql.specs.Reading.{IsReady, Keeps, Told, Fails, Takes_, Expects, TellsName, TellsSize}
use Rattle.mg_sql.specs.Going.{Spelled, Derives, Goes, Never, begins_in, behind_item, behind_list}
use Rattle.mg_sql.proofs.Moves as moves
use Rattle.mg_sql.proofs.Moves.{derives_on, fails_on, goes_on, turned, turn_left, turn_right, turn_on, never_word, never_either, never_name, never_finish, never_by, expected, word_wrong, took_left, taken_word, passed, optional_read, wrong}
use Rattle.mg_sql.proofs.Steps.{kept_on, kept}
use Rattle.mg_expr.specs.declared.expr.Expr.{Expr}
use Rattle.mg_sql.specs.Grammar.{Expr as ExprRule}
use Rattle.mg_sql.specs.declared.parts.TheConstants.{LEVELS}
use Rattle.mg_sql.proofs.parts.expression.Goals as goal

told_expression : (within : Bool) (levels : ℕ) (old new : Parser) → g.shift within levels ≡ LEVELS → Keeps old new → (result : Result Expr SqlFault) → Told tree_of ExprRule 1 levels old new result
    → (then_ : Tree → Rest) → ((e : Tree) → begins_in behind_item (then_ e) ≡ true) → Goes tree_of (g.expression within then_) then_ old new result
told_expression within levels old new enough keeps (Ok e) told then_ closes = moves.expression_read then_ levels old new (tree_of e) closes enough keeps told.0 told.1
told_expression within levels old new enough keeps (Err e) told then_ closes = moves.expression_fails within then_ levels old new closes enough e told

pub returns-clause-keeps : goal.returns-clause-keeps
returns-clause-keeps c = c.expr.ensures.keeps

pub returns-clause-told : goal.returns-clause-told
returns-clause-told c then_ closes = told_expression c.args.within c.levels.result c.args.p.now c.expr.new.p c.levels.ensures c.expr.ensures.keeps c.expr.result c.expr.ensures.told then_ closes
