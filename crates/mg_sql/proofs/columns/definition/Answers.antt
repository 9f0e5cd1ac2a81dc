use Rattle.std.proofs.Common.{◌≡◌, ◌≢◌, ℕ, ◌-◌, ◌≤◌, Bool, true, false, List, [], ◌∷◌, ◌++◌, map, length, Option, Some, None, Result, Ok, Err, refl, sym, ◌∙◌, ap, subst, arith}
use Rattle.std.proofs.lemmas.Result.{err_from_is_err_and}
use Rattle.mg_expr.specs.Trees.{Tree, tree_of}
use Rattle.mg_sql.specs.declared.token.Kind.{Kind}
use Rattle.mg_sql.specs.declared.token.Kind.TheVariants as kinds
use Rattle.mg_statements.specs.declared.fault.SqlFault.{SqlFault}
use Rattle.mg_statements.specs.declared.fault.SqlFault.TheVariants as faults
use Rattle.mg_sql.specs.declared.parser.Parser.{Parser}
use Rattle.mg_statements.specs.declared.statement.Def.{Def}
use Rattle.mg_statements.specs.declared.statement.Sorted.{Sorted}
use Rattle.mg_statements.specs.Plain as plain
use Rattle.mg_statements.specs.Plain.{Plain, Total, plain_of, tree_in, trees_in, names_in, assign_of, total_of}
use Rattle.mg_sql.specs.Statements as g
use Rattle.mg_sql.specs.Statements.{Rest, item, behind}
use Rattle.mg_sql.specs.Reading.{IsReady, Keeps, Told, Fails, Takes_, Expects, TellsName, TellsSize}
use Rattle.mg_sql.specs.Going.{Spelled, Derives, Goes, Never, begins_in, behind_item, behind_list}
use Rattle.mg_sql.proofs.KindNumbers.{apart}
use Rattle.mg_sql.proofs.Moves as moves
use Rattle.mg_sql.proofs.Moves.{derives_on, fails_on, goes_on, turned, turn_left, turn_right, turn_on, never_word, never_either, never_name, never_finish, never_by, expected, word_wrong, took_left, taken_word, passed, optional_read, wrong}
use Rattle.mg_sql.proofs.Steps.{kept_on, kept}
use Rattle.mg_sql.proofs.columns.definition.Goals as goal

pub returns-in_err-name-clause-keeps : goal.returns-in_err-name-clause-keeps
returns-in_err-name-clause-keeps c = c.in_err-name.ensures.keeps

pub returns-in_err-name-clause-told : goal.returns-in_err-name-clause-told
returns-in_err-name-clause-told c then_ closes =
    let p = err_from_is_err_and c.from_residual.result c.from_residual.ensures.1 in rw (p.1, p.2)
    (c.in_err-name.ensures.told _)

pub returns-in_err-kind-clause-keeps : goal.returns-in_err-kind-clause-keeps
returns-in_err-kind-clause-keeps c = kept_on _ _ _ c.in_ok-name.ensures.keeps c.in_err-kind.ensures.keeps

pub returns-in_err-kind-clause-told : goal.returns-in_err-kind-clause-told
returns-in_err-kind-clause-told c then_ closes =
    let p = err_from_is_err_and c.from_residual-in_err-kind.result c.from_residual-in_err-kind.ensures.1 in rw (p.1, p.2)
    (fails_on (c.in_ok-name.ensures.told _) c.in_err-kind.ensures.keeps _ (c.in_err-kind.ensures.told (λ kind. g.unnullable (λ not_null. g.keyed (λ key. then_ (g.def c.in_ok-name.name kind not_null key))))))

pub returns-in_err-not_null-clause-keeps : goal.returns-in_err-not_null-clause-keeps
returns-in_err-not_null-clause-keeps c = kept_on _ _ _ (kept_on _ _ _ c.in_ok-name.ensures.keeps c.in_ok-kind.ensures.keeps) c.in_err-not_null.ensures.keeps

pub returns-in_err-not_null-clause-told : goal.returns-in_err-not_null-clause-told
returns-in_err-not_null-clause-told c then_ closes =
    let p = err_from_is_err_and c.from_residual-in_err-not_null.result c.from_residual-in_err-not_null.ensures.1 in rw (p.1, p.2)
    (fails_on (derives_on (c.in_ok-name.ensures.told _) (c.in_ok-kind.ensures.told (λ kind. g.unnullable (λ not_null. g.keyed (λ key. then_ (g.def c.in_ok-name.name kind not_null key)))))) c.in_err-not_null.ensures.keeps _ (c.in_err-not_null.ensures.told (λ not_null. g.keyed (λ key. then_ (g.def c.in_ok-name.name c.in_ok-kind.kind not_null key))) (λ not_null. never_either (never_word (apart refl)) (never_by behind_item _ (closes (g.def c.in_ok-name.name c.in_ok-kind.kind not_null false)) refl))))

pub returns-in_err-key-clause-keeps : goal.returns-in_err-key-clause-keeps
returns-in_err-key-clause-keeps c = kept_on _ _ _ (kept_on _ _ _ (kept_on _ _ _ c.in_ok-name.ensures.keeps c.in_ok-kind.ensures.keeps) c.in_ok-not_null.ensures.keeps) c.in_err-key.ensures.keeps

pub returns-in_err-key-clause-told : goal.returns-in_err-key-clause-told
returns-in_err-key-clause-told c then_ closes =
    let p = err_from_is_err_and c.from_residual-in_err-key.result c.from_residual-in_err-key.ensures.1 in rw (p.1, p.2)
    (fails_on (derives_on (derives_on (c.in_ok-name.ensures.told _) (c.in_ok-kind.ensures.told (λ kind. g.unnullable (λ not_null. g.keyed (λ key. then_ (g.def c.in_ok-name.name kind not_null key)))))) (c.in_ok-not_null.ensures.told (λ not_null. g.keyed (λ key. then_ (g.def c.in_ok-name.name c.in_ok-kind.kind not_null key))) (λ not_null. never_either (never_word (apart refl)) (never_by behind_item _ (closes (g.def c.in_ok-name.name c.in_ok-kind.kind not_null false)) refl)))) c.in_err-key.ensures.keeps _ (c.in_err-key.ensures.told (λ key. then_ (g.def c.in_ok-name.name c.in_ok-kind.kind c.in_ok-not_null.not_null key)) (λ key. never_by behind_item _ (closes (g.def c.in_ok-name.name c.in_ok-kind.kind c.in_ok-not_null.not_null key)) refl)))

pub returns-clause-keeps : goal.returns-clause-keeps
returns-clause-keeps c = kept_on _ _ _ (kept_on _ _ _ (kept_on _ _ _ c.in_ok-name.ensures.keeps c.in_ok-kind.ensures.keeps) c.in_ok-not_null.ensures.keeps) c.in_ok-key.ensures.keeps

pub returns-clause-told : goal.returns-clause-told
returns-clause-told c then_ closes =
    derives_on (derives_on (derives_on (c.in_ok-name.ensures.told _) (c.in_ok-kind.ensures.told (λ kind. g.unnullable (λ not_null. g.keyed (λ key. then_ (g.def c.in_ok-name.name kind not_null key)))))) (c.in_ok-not_null.ensures.told (λ not_null. g.keyed (λ key. then_ (g.def c.in_ok-name.name c.in_ok-kind.kind not_null key))) (λ not_null. never_either (never_word (apart refl)) (never_by behind_item _ (closes (g.def c.in_ok-name.name c.in_ok-kind.kind not_null false)) refl)))) (c.in_ok-key.ensures.told (λ key. then_ (g.def c.in_ok-name.name c.in_ok-kind.kind c.in_ok-not_null.not_null key)) (λ key. never_by behind_item _ (closes (g.def c.in_ok-name.name c.in_ok-kind.kind c.in_ok-not_null.not_null key)) refl))
