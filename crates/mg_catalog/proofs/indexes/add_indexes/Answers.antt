use Rattle.std.proofs.Common.{refl}
use Rattle.std.proofs.lemmas.Result.{IfOk-from_err}
use Rattle.mg_catalog.specs.ByKey.{by_key}
use Rattle.mg_catalog.proofs.IndexLemmas.{indexes_end, indexes_step}
use Rattle.mg_catalog.proofs.indexes.add_indexes.Goals as goal

pub loop-name-init : goal.loop-name-init
loop-name-init c = refl

pub loop-name-preserved : goal.loop-name-preserved
loop-name-preserved c = indexes_step (by_key c.args.rows.now) c.args.table.now c.in-Some.name.now
    c.as_slice.result.now c.loop-name.rest.now c.in-Some.later.now c.loop-name.indexes.items
    c.add_index.new.indexes.items _ c.as_slice.ensures c.in-Some.ensures.cases.0 c.loop-name.invariant
    c.in_ok-add_index.ensures

pub returns : goal.returns
returns c = indexes_end (by_key c.args.rows.now) c.args.table.now c.loop-name.rest.now
    c.loop-name.indexes.items _ c.in_default.ensures.cases c.loop-name.invariant

pub returns-in_err-add_index : goal.returns-in_err-add_index
returns-in_err-add_index c = IfOk-from_err c.from_residual.result _ c.from_residual.ensures.0
