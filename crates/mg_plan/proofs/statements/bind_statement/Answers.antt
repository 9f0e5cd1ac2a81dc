use Rattle.std.proofs.Common.{refl}
use Rattle.std.proofs.lemmas.Result.{IfOk-from_err}
use Rattle.mg_plan.proofs.StatementLemmas.{same_bound, table_bound, delete_bound, select_bound, insert_bound}
use Rattle.mg_plan.proofs.StatementLemmas.{update_bound, totals_bound}
use Rattle.mg_plan.proofs.statements.bind_statement.Goals as goal

pub returns-in-SetTransaction : goal.returns-in-SetTransaction
returns-in-SetTransaction c = same_bound c.args.columns.now c.args.s.now _ _ c.in-SetTransaction.is refl

pub returns-in-Commit : goal.returns-in-Commit
returns-in-Commit c = same_bound c.args.columns.now c.args.s.now _ _ c.in-Commit.is refl

pub returns-in-Rollback : goal.returns-in-Rollback
returns-in-Rollback c = same_bound c.args.columns.now c.args.s.now _ _ c.in-Rollback.is refl

pub returns-in-RollbackTo : goal.returns-in-RollbackTo
returns-in-RollbackTo c = same_bound c.args.columns.now c.args.s.now _ _ c.in-RollbackTo.is refl

pub returns-in-Savepoint : goal.returns-in-Savepoint
returns-in-Savepoint c = same_bound c.args.columns.now c.args.s.now _ _ c.in-Savepoint.is refl

pub returns-in_ok-copy_defs-in-Table : goal.returns-in_ok-copy_defs-in-Table
returns-in_ok-copy_defs-in-Table c =
    table_bound c.args.columns.now c.args.s.now _ _ _ _ c.in-Table.is c.deref.ensures.value
    c.in_ok-copy_defs-in-Table.ensures

pub returns-in-Insert : goal.returns-in-Insert
returns-in-Insert c =
    insert_bound c.args.columns.now c.args.s.now _ _ _ _ _ c.in-Insert.is c.deref-in-Insert.ensures.value
    c.bind_insert.ensures

pub returns-in-Update : goal.returns-in-Update
returns-in-Update c =
    update_bound c.args.columns.now c.args.s.now _ _ _ _ _ c.in-Update.is c.deref-in-Update.ensures.value
    c.bind_update.ensures

pub returns-in_ok-bind_filter-in-Delete : goal.returns-in_ok-bind_filter-in-Delete
returns-in_ok-bind_filter-in-Delete c = delete_bound c.args.columns.now c.args.s.now _ _ _ c.in-Delete.is
    c.in_ok-bind_filter-in-Delete.ensures

pub returns-in-Totals : goal.returns-in-Totals
returns-in-Totals c =
    totals_bound c.args.columns.now c.args.s.now _ _ _ _ _ c.in-Totals.is c.deref-in-Totals.ensures.value
    c.bind_select_totals.ensures

pub returns-in_ok-bind_filter-in-Select : goal.returns-in_ok-bind_filter-in-Select
returns-in_ok-bind_filter-in-Select c = select_bound c.args.columns.now c.args.s.now _ _ _ _ _ _ c.in-Select.is
    c.in_ok-values-in-Select.ensures c.in_ok-bind_filter-in-Select.ensures

pub returns-in_err-copy_defs-in-Table : goal.returns-in_err-copy_defs-in-Table
returns-in_err-copy_defs-in-Table c = IfOk-from_err c.from_residual.result _ c.from_residual.ensures.0

pub returns-in_err-bind_filter-in-Delete : goal.returns-in_err-bind_filter-in-Delete
returns-in_err-bind_filter-in-Delete c = IfOk-from_err c.from_residual-in_err-bind_filter-in-Delete.result _
    c.from_residual-in_err-bind_filter-in-Delete.ensures.0

pub returns-in_err-values-in-Select : goal.returns-in_err-values-in-Select
returns-in_err-values-in-Select c =
    IfOk-from_err c.from_residual-in_err-values-in-Select.result _ c.from_residual-in_err-values-in-Select.ensures.0

pub returns-in_err-bind_filter-in-Select : goal.returns-in_err-bind_filter-in-Select
returns-in_err-bind_filter-in-Select c = IfOk-from_err c.from_residual-in_err-bind_filter-in-Select.result _
    c.from_residual-in_err-bind_filter-in-Select.ensures.0
