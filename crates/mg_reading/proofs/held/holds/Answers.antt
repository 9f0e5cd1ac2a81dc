use Rattle.mg_reading.specs.Readable.{IsReadable, IsReadableImage}
use Rattle.mg_reading.proofs.RefusalLemmas.{memory_on, passed_on}
use Rattle.mg_reading.proofs.TableLemmas.{first_refutes, readable_at}
use Rattle.std.proofs.Common.{ap, arith, length, refl}
use Rattle.mg_reading.proofs.HeldLemmas.{held_more}
use Rattle.std.proofs.lemmas.Result.{IfOk-from_err}
use Rattle.mg_reading.specs.declared.point.ReadFault.TheVariants.{Memory}
use Rattle.mg_reading.proofs.held.holds.Goals as goal

pub loop-table-preserved : goal.loop-table-preserved
loop-table-preserved c = held_more c.args.coding c.args.image.now c.args.tables.now
    c.loop-table.table-index c.loop-table.held.items c.push.new.self.items c.table-item.result
    c.in_ok-table_rows.field-0 (omega arith) c.table-item.is c.loop-table.invariant
    c.in_ok-table_rows.ensures.held c.in_ok-push.ensures.items

pub returns-in_err-check_image-clause-broken : goal.returns-in_err-check_image-clause-broken
returns-in_err-check_image-clause-broken c = passed_on
    (IsReadableImage c.args.coding c.args.image.now c.args.tables.now)
    (IsReadableImage c.args.coding c.args.image.now c.args.tables.now) (λ all. all)
    c.from_residual.result c.in_err-check_image.field-0.0 c.from_residual.ensures.1
    (first_refutes c.args.coding c.args.image.now c.args.tables.now c.in_err-check_image.field-0.0
    c.in_err-check_image.ensures.broken)

pub returns-then-as_slice-gt-MOST_COLUMNS-clause-broken :
    goal.returns-then-as_slice-gt-MOST_COLUMNS-clause-broken
returns-then-as_slice-gt-MOST_COLUMNS-clause-broken c = λ all. omega (
  arith,
  c.if-as_slice-gt-MOST_COLUMNS.true,
  ap length c.as_slice.ensures,
  (readable_at c.args.coding c.args.image.now c.args.tables.now c.loop-table.table-index
      c.table-item.result (omega arith) c.table-item.is all.each).0,
)

pub returns-in_err-table_rows-clause-broken : goal.returns-in_err-table_rows-clause-broken
returns-in_err-table_rows-clause-broken c = passed_on
    (IsReadable c.args.coding c.args.image.now c.table-item.result)
    (IsReadableImage c.args.coding c.args.image.now c.args.tables.now)
    (λ all. (readable_at c.args.coding c.args.image.now c.args.tables.now c.loop-table.table-index
    c.table-item.result (omega arith) c.table-item.is all.each).1)
    c.from_residual-in_err-table_rows.result c.in_err-table_rows.field-0.0
    c.from_residual-in_err-table_rows.ensures.1 c.in_err-table_rows.ensures.broken

pub returns-in_err-check_image-clause-header : goal.returns-in_err-check_image-clause-header
returns-in_err-check_image-clause-header c = IfOk-from_err c.from_residual.result _ c.from_residual.ensures.0

pub returns-in_err-check_image-clause-transactions : goal.returns-in_err-check_image-clause-transactions
returns-in_err-check_image-clause-transactions c = IfOk-from_err c.from_residual.result _ c.from_residual.ensures.0

pub returns-in_err-check_image-clause-inventory : goal.returns-in_err-check_image-clause-inventory
returns-in_err-check_image-clause-inventory c = IfOk-from_err c.from_residual.result _ c.from_residual.ensures.0

pub returns-in_err-check_image-clause-limbo : goal.returns-in_err-check_image-clause-limbo
returns-in_err-check_image-clause-limbo c = IfOk-from_err c.from_residual.result _ c.from_residual.ensures.0

pub returns-in_err-check_image-clause-tables : goal.returns-in_err-check_image-clause-tables
returns-in_err-check_image-clause-tables c = IfOk-from_err c.from_residual.result _ c.from_residual.ensures.0

pub returns-in_err-table_rows-clause-header : goal.returns-in_err-table_rows-clause-header
returns-in_err-table_rows-clause-header c = IfOk-from_err c.from_residual-in_err-table_rows.result _ c.from_residual-in_err-table_rows.ensures.0

pub returns-in_err-table_rows-clause-transactions : goal.returns-in_err-table_rows-clause-transactions
returns-in_err-table_rows-clause-transactions c = IfOk-from_err c.from_residual-in_err-table_rows.result _ c.from_residual-in_err-table_rows.ensures.0

pub returns-in_err-table_rows-clause-inventory : goal.returns-in_err-table_rows-clause-inventory
returns-in_err-table_rows-clause-inventory c = IfOk-from_err c.from_residual-in_err-table_rows.result _ c.from_residual-in_err-table_rows.ensures.0

pub returns-in_err-table_rows-clause-limbo : goal.returns-in_err-table_rows-clause-limbo
returns-in_err-table_rows-clause-limbo c = IfOk-from_err c.from_residual-in_err-table_rows.result _ c.from_residual-in_err-table_rows.ensures.0

pub returns-in_err-table_rows-clause-tables : goal.returns-in_err-table_rows-clause-tables
returns-in_err-table_rows-clause-tables c = IfOk-from_err c.from_residual-in_err-table_rows.result _ c.from_residual-in_err-table_rows.ensures.0

pub returns-in_err-push-clause-header : goal.returns-in_err-push-clause-header
returns-in_err-push-clause-header c = IfOk-from_err c.from_residual-in_err-push.result _ c.from_residual-in_err-push.ensures.0

pub returns-in_err-push-clause-transactions : goal.returns-in_err-push-clause-transactions
returns-in_err-push-clause-transactions c = IfOk-from_err c.from_residual-in_err-push.result _ c.from_residual-in_err-push.ensures.0

pub returns-in_err-push-clause-inventory : goal.returns-in_err-push-clause-inventory
returns-in_err-push-clause-inventory c = IfOk-from_err c.from_residual-in_err-push.result _ c.from_residual-in_err-push.ensures.0

pub returns-in_err-push-clause-limbo : goal.returns-in_err-push-clause-limbo
returns-in_err-push-clause-limbo c = IfOk-from_err c.from_residual-in_err-push.result _ c.from_residual-in_err-push.ensures.0

pub returns-in_err-push-clause-tables : goal.returns-in_err-push-clause-tables
returns-in_err-push-clause-tables c = IfOk-from_err c.from_residual-in_err-push.result _ c.from_residual-in_err-push.ensures.0

pub returns-then-as_slice-gt-MOST_COLUMNS-clause-header : goal.returns-then-as_slice-gt-MOST_COLUMNS-clause-header
returns-then-as_slice-gt-MOST_COLUMNS-clause-header c = tt

pub returns-then-as_slice-gt-MOST_COLUMNS-clause-transactions : goal.returns-then-as_slice-gt-MOST_COLUMNS-clause-transactions
returns-then-as_slice-gt-MOST_COLUMNS-clause-transactions c = tt

pub returns-then-as_slice-gt-MOST_COLUMNS-clause-inventory : goal.returns-then-as_slice-gt-MOST_COLUMNS-clause-inventory
returns-then-as_slice-gt-MOST_COLUMNS-clause-inventory c = tt

pub returns-then-as_slice-gt-MOST_COLUMNS-clause-limbo : goal.returns-then-as_slice-gt-MOST_COLUMNS-clause-limbo
returns-then-as_slice-gt-MOST_COLUMNS-clause-limbo c = tt

pub returns-then-as_slice-gt-MOST_COLUMNS-clause-tables : goal.returns-then-as_slice-gt-MOST_COLUMNS-clause-tables
returns-then-as_slice-gt-MOST_COLUMNS-clause-tables c = tt

pub returns-then-not-has_no_old_limbo-clause-header : goal.returns-then-not-has_no_old_limbo-clause-header
returns-then-not-has_no_old_limbo-clause-header c = tt

pub returns-then-not-has_no_old_limbo-clause-transactions : goal.returns-then-not-has_no_old_limbo-clause-transactions
returns-then-not-has_no_old_limbo-clause-transactions c = tt

pub returns-then-not-has_no_old_limbo-clause-inventory : goal.returns-then-not-has_no_old_limbo-clause-inventory
returns-then-not-has_no_old_limbo-clause-inventory c = tt

pub returns-then-not-has_no_old_limbo-clause-limbo : goal.returns-then-not-has_no_old_limbo-clause-limbo
returns-then-not-has_no_old_limbo-clause-limbo c = tt

pub returns-then-not-has_no_old_limbo-clause-tables : goal.returns-then-not-has_no_old_limbo-clause-tables
returns-then-not-has_no_old_limbo-clause-tables c = tt

pub returns-clause-header : goal.returns-clause-header
returns-clause-header c = c.in_ok-check_image.ensures.header

pub returns-clause-transactions : goal.returns-clause-transactions
returns-clause-transactions c = c.in_ok-check_image.ensures.transactions

pub returns-clause-inventory : goal.returns-clause-inventory
returns-clause-inventory c = c.in_ok-check_image.ensures.inventory

pub returns-clause-broken : goal.returns-clause-broken
returns-clause-broken c = tt

pub returns-in_err-push-clause-broken : goal.returns-in_err-push-clause-broken
returns-in_err-push-clause-broken c = memory_on
    (IsReadableImage c.args.coding c.args.image.now c.args.tables.now)
    c.from_residual-in_err-push.result Memory c.from_residual-in_err-push.ensures.1 refl
