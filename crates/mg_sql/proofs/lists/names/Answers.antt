use Rattle.std.proofs.Common.{◌≡◌, ◌≢◌, ℕ, ◌-◌, ◌≤◌, Bool, true, false, List, [], ◌∷◌, ◌++◌, map, length, Option, Some, None, Result, Ok, Err, refl, sym, ◌∙◌, ap, subst, arith}
use Rattle.std.proofs.lemmas.Result.{err_from_is_err_and}
use Rattle.mg_expr.specs.Trees.{Tree, tree_of}
use Rattle.mg_sql.specs.declared.token.Kind.{Kind}
use Rattle.mg_sql.specs.declared.token.Kind.TheVariants as kinds
use Rattle.mg_statements.specs.declared.fault.SqlFault.{SqlFault}
use Rattle.mg_statements.specs.declared.fault.SqlFault.TheVariants as faults
use Rattle.mg_sql.specs.declared.parser.Parser.{Parser}
use Rattle.mg_statements.specs.declared.statement.Def.{Def}
use Rattle.mg_statements.specs.declared.statement.Sorted.{Sorted}
use Rattle.mg_statements.specs.Plain as plain
use Rattle.mg_statements.specs.Plain.{Plain, Total, plain_of, tree_in, trees_in, names_in, assign_of, total_of}
use Rattle.mg_sql.specs.Statements as g
use Rattle.mg_sql.specs.Statements.{Rest, item, behind}
use Rattle.mg_sql.specs.Reading.{IsReady, Keeps, Told, Fails, Takes_, Expects, TellsName, TellsSize}
use Rattle.mg_sql.specs.Going.{Spelled, Derives, Goes, Never, begins_in, behind_item, behind_list}
use Rattle.mg_sql.proofs.Moves as moves
use Rattle.mg_sql.proofs.Moves.{derives_on, fails_on, goes_on, turned, turn_left, turn_right, turn_on, never_word, never_either, never_name, never_finish, never_by, expected, word_wrong, took_left, taken_word, passed, optional_read, wrong}
use Rattle.mg_sql.proofs.MemoryTold.{memory_goes}
use Rattle.mg_sql.proofs.Steps.{kept_on, kept}
use Rattle.mg_sql.proofs.lists.names.Goals as goal

pub returns-in_err-first-clause-keeps : goal.returns-in_err-first-clause-keeps
returns-in_err-first-clause-keeps c = c.in_err-first.ensures.keeps

pub returns-in_err-first-clause-told : goal.returns-in_err-first-clause-told
returns-in_err-first-clause-told c then_ closes =
    let p = err_from_is_err_and c.from_residual.result c.from_residual.ensures.1 in rw (p.1, p.2)
    (moves.first_fails (g.names) then_ c.args.p.now c.name.new.p c.requires.ready c.in_err-first.ensures.keeps _ (c.in_err-first.ensures.told (λ x. behind (g.names) then_ (x ∷ []))))

pub loop-p-init : goal.loop-p-init
loop-p-init c = record {
  keeps = c.in_ok-first.ensures.keeps;
  read = λ then_ closes. subst (λ xs. Derives (g.list (g.names) then_) (behind (g.names) then_ xs) c.args.p.now c.name.new.p)
      (moves.snoc_first c.new-names.result.items c.push.new.self.items c.in_ok-first.first c.in_ok-push.ensures.items c.new-names.ensures.items)
      (moves.list_first (g.names) then_ (c.in_ok-first.first) c.args.p.now c.name.new.p c.requires.ready (c.in_ok-first.ensures.told (λ x. behind (g.names) then_ (x ∷ []))));
}

pub loop-p-preserved : goal.loop-p-preserved
loop-p-preserved c = record {
  keeps = kept_on c.args.p.now c.takes.new.self c.name-in-loop-p.new.p (kept_on c.args.p.now c.loop-p.p c.takes.new.self c.loop-p.invariant.keeps c.loop-p-test.ensures.keeps) c.in_ok-next.ensures.keeps;
  read = λ then_ closes. subst (λ xs. Derives (g.list (g.names) then_) (behind (g.names) then_ xs) c.args.p.now c.name-in-loop-p.new.p)
      (sym c.in_ok-push-2.ensures.items)
      (moves.list_next (g.names) then_ (c.loop-p.names.items) (c.in_ok-next.next) c.args.p.now c.takes.new.self c.name-in-loop-p.new.p
      (moves.list_comma (g.names) then_ (c.loop-p.names.items) c.args.p.now c.loop-p.p c.takes.new.self c.loop-p-test.ensures.keeps c.loop-p-test.ensures.told (closes (c.loop-p.names.items)) (c.loop-p.invariant.read then_ closes))
      (c.in_ok-next.ensures.told (λ x. behind (g.names) (λ ys. then_ (c.loop-p.names.items ++ ys)) (x ∷ []))));
}

pub loop-p-smaller : goal.loop-p-smaller
loop-p-smaller c = moves.behind_comma c.loop-p.p c.takes.new.self c.name-in-loop-p.new.p c.loop-p.invariant.keeps.ready c.loop-p-test.ensures.keeps c.loop-p-test.ensures.told c.in_ok-next.ensures.keeps

pub returns-in_err-next-clause-keeps : goal.returns-in_err-next-clause-keeps
returns-in_err-next-clause-keeps c = kept_on _ _ _ (kept_on _ _ _ c.loop-p.invariant.keeps c.loop-p-test.ensures.keeps) c.in_err-next.ensures.keeps

pub returns-in_err-next-clause-told : goal.returns-in_err-next-clause-told
returns-in_err-next-clause-told c then_ closes =
    let p = err_from_is_err_and c.from_residual-in_err-next.result c.from_residual-in_err-next.ensures.1 in rw (p.1, p.2)
    (fails_on (moves.list_comma (g.names) then_ (c.loop-p.names.items) c.args.p.now c.loop-p.p c.takes.new.self c.loop-p-test.ensures.keeps c.loop-p-test.ensures.told (closes (c.loop-p.names.items)) (c.loop-p.invariant.read then_ closes)) c.in_err-next.ensures.keeps _ (c.in_err-next.ensures.told (λ x. behind (g.names) (λ ys. then_ (c.loop-p.names.items ++ ys)) (x ∷ []))))

pub returns-clause-keeps : goal.returns-clause-keeps
returns-clause-keeps c = kept_on _ _ _ c.loop-p.invariant.keeps c.loop-p-test.ensures.keeps

pub returns-clause-told : goal.returns-clause-told
returns-clause-told c then_ closes =
    moves.list_done (g.names) then_ (c.loop-p.names.items) c.args.p.now c.loop-p.p c.takes.new.self c.loop-p-test.ensures.told (c.loop-p.invariant.read then_ closes)

pub returns-in_err-push-clause-keeps : goal.returns-in_err-push-clause-keeps
returns-in_err-push-clause-keeps c = c.in_ok-first.ensures.keeps

pub returns-in_err-push-clause-told : goal.returns-in_err-push-clause-told
returns-in_err-push-clause-told c then_ closes =
    memory_goes _ (g.list (g.names) then_) then_ c.args.p.now c.name.new.p c.from_residual-in_err-push.result
    c.from_residual-in_err-push.ensures.1

pub returns-in_err-push-2-clause-keeps : goal.returns-in_err-push-2-clause-keeps
returns-in_err-push-2-clause-keeps c =
    kept_on _ _ _ (kept_on _ _ _ c.loop-p.invariant.keeps c.loop-p-test.ensures.keeps) c.in_ok-next.ensures.keeps

pub returns-in_err-push-2-clause-told : goal.returns-in_err-push-2-clause-told
returns-in_err-push-2-clause-told c then_ closes =
    memory_goes _ (g.list (g.names) then_) then_ c.args.p.now c.name-in-loop-p.new.p c.from_residual-in_err-push-2.result
    c.from_residual-in_err-push-2.ensures.1
