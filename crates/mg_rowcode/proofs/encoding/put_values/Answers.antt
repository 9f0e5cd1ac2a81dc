use Rattle.std.proofs.Common.{refl}
use Rattle.std.proofs.lemmas.Result.{IfOk-from_err}
use Rattle.mg_rowcode.proofs.PutLemmas.{fits_here, no_value_lacks, value_put, values_put}
use Rattle.mg_rowcode.proofs.StorableLemmas.{none_left, values_storable}
use Rattle.mg_rowcode.proofs.encoding.put_values.Goals as goal

pub loop-column-init : goal.loop-column-init
loop-column-init c = record { fits = c.requires; storable = λ rest. rest; complete = refl }

pub put_value-requires : goal.put_value-requires
put_value-requires c = (fits_here c.args.columns.now c.loop-column.column-index c.column-item.result
    c.loop-column.rest.now c.in-Some.later.now c.in-Some.value.now c.loop-column-test.true c.column-item.is
    c.loop-column.invariant.fits c.in-Some.ensures.cases.0).0.kind

pub loop-column-preserved : goal.loop-column-preserved
loop-column-preserved c = record {
  fits = (fits_here c.args.columns.now c.loop-column.column-index c.column-item.result
      c.loop-column.rest.now c.in-Some.later.now c.in-Some.value.now c.loop-column-test.true
      c.column-item.is c.loop-column.invariant.fits c.in-Some.ensures.cases.0).1;
  storable = values_storable c.args.values.now c.loop-column.rest.now c.in-Some.later.now c.in-Some.value.now
      c.in-Some.ensures.cases.0 c.loop-column.invariant.storable c.in_ok-put_value.ensures.storable;
  complete = value_put c.args.columns.now c.loop-column.column-index c.column-item.result
      c.loop-column.rest.now c.in-Some.later.now c.in-Some.value.now c.loop-column.out.items
      c.put_value.new.out.items _ c.loop-column-test.true c.column-item.is c.loop-column.invariant.complete
      c.in-Some.ensures.cases.0 c.in_ok-put_value.ensures.bytes;
}

pub returns-in_default-clause-bytes : goal.returns-in_default-clause-bytes
returns-in_default-clause-bytes c = absurd (no_value_lacks c.args.columns.now c.loop-column.column-index
    c.column-item.result c.loop-column.rest.now c.loop-column-test.true c.column-item.is
    c.loop-column.invariant.fits c.in_default.ensures.cases)

pub returns-in_default-clause-storable : goal.returns-in_default-clause-storable
returns-in_default-clause-storable c = absurd (no_value_lacks c.args.columns.now c.loop-column.column-index
    c.column-item.result c.loop-column.rest.now c.loop-column-test.true c.column-item.is
    c.loop-column.invariant.fits c.in_default.ensures.cases)

pub returns-in_err-put_value-clause-bytes : goal.returns-in_err-put_value-clause-bytes
returns-in_err-put_value-clause-bytes c = IfOk-from_err c.from_residual.result _ c.from_residual.ensures.0

pub returns-in_err-put_value-clause-storable : goal.returns-in_err-put_value-clause-storable
returns-in_err-put_value-clause-storable c = IfOk-from_err c.from_residual.result _ c.from_residual.ensures.0

pub returns-clause-bytes : goal.returns-clause-bytes
returns-clause-bytes c = values_put c.args.columns.now c.loop-column.column-index c.loop-column.rest.now
    c.loop-column.out.items _ c.loop-column-test.false c.loop-column.invariant.complete

pub returns-clause-storable : goal.returns-clause-storable
returns-clause-storable c = c.loop-column.invariant.storable (none_left c.args.columns.now c.loop-column.column-index
    c.loop-column.rest.now c.loop-column-test.false c.loop-column.invariant.fits)
