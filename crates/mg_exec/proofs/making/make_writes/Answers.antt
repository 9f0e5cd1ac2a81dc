use Rattle.std.proofs.Common.{◌≡◌, ◌==◌, ℕ, true, List, [], map, sym, ap, subst, ◌∙◌}
use Rattle.std.specs.List.{list_any}
use Rattle.std.specs.Result.{MatchResult}
use Rattle.mg_expr.specs.declared.expr.Expr.{Expr}
use Rattle.mg_expr.specs.Trees.{tree_of}
use Rattle.mg_expr.specs.Typing.{sort_of}
use Rattle.mg_plan.specs.Types.{fit_places}
use Rattle.mg_statements.specs.declared.statement.Assign.{Assign}
use Rattle.mg_statements.specs.declared.statement.Statement.{Statement}
use Rattle.mg_statements.specs.Plain.{plain_of, tree_in}
use Rattle.mg_plan.specs.Statements.{is_typed}
use Rattle.mg_rows.specs.NewRows.{updated}
use Rattle.mg_records.specs.Writing.{FitsShape}
use Rattle.mg_exec.specs.Making.{AreMade, MakesNone, changes_of, made_by}
use Rattle.mg_exec.specs.Phases.{LeavesKeys}
use Rattle.mg_exec.proofs.MakingLemmas.{sets_typed}
use Rattle.mg_exec.proofs.making.make_writes.Goals as goal

pub insert_values-requires : goal.insert_values-requires
insert_values-requires c =
    subst (λ (x : List ℕ × List Expr). fit_places c.args.table.now.shape.columns x.0
    (map (λ t. sort_of t []) (map tree_of x.1)) ≡ true)
    (sym (λ k. (c.deref.ensures.value k, c.deref-in-Insert.ensures.value k)))
    (subst (λ (s : Statement). is_typed c.args.table.now.shape.columns c.args.bound.now.places.items (plain_of s) ≡ true)
    c.in-Insert.is c.requires.binds.typed)

pub update_found-requires-clause-typed : goal.update_found-requires-clause-typed
update_found-requires-clause-typed c =
    subst (λ (x : List ℕ × List Assign). fit_places c.args.table.now.shape.columns x.0
    (map (λ t. sort_of t c.args.table.now.shape.columns) (map (λ set. tree_of set.value) x.1)) ≡ true)
    (sym (λ k. (c.deref-in-Update.ensures.value k, c.deref-in-Update-2.ensures.value k)))
    (sets_typed c.args.table.now.shape.columns c.args.bound.now.places.items c.in-Update.sets.items
    (tree_in c.in-Update.filter)
    (subst (λ (s : Statement). is_typed c.args.table.now.shape.columns c.args.bound.now.places.items (plain_of s) ≡ true)
    c.in-Update.is c.requires.binds.typed))

pub update_found-requires-clause-keys : goal.update_found-requires-clause-keys
update_found-requires-clause-keys c =
    ap (list_any (λ place. place == c.args.table.now.shape.key)) c.deref-in-Update.ensures.value
    ∙ subst (λ (s : Statement). LeavesKeys c.args.table.now.shape c.args.bound.now.places.items (plain_of s))
    c.in-Update.is c.requires.binds.keys

pub returns-in-Update : goal.returns-in-Update
returns-in-Update c =
    subst (λ made. MatchResult c.update_found.result
    (λ given. AreMade made (FitsShape c.args.table.now.shape) given.items) (MakesNone made))
    (ap (λ (x : List ℕ × List Assign). changes_of c.args.table.now.shape
    (updated c.args.table.now.shape.columns x.0 (map (λ set. tree_of set.value) x.1) c.args.found.now))
    (λ k. (c.deref-in-Update.ensures.value k, c.deref-in-Update-2.ensures.value k))
    ∙ sym (ap (λ (s : Statement). made_by s c.args.bound.now.places.items c.args.table.now.shape c.args.found.now)
    c.in-Update.is))
    c.update_found.ensures
