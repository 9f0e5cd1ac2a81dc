use Rattle.std.proofs.Common.{sym}
use Rattle.std.proofs.lemmas.List.{append-nil}
use Rattle.std.proofs.lemmas.Result.{IfOk-from_err}
use Rattle.mg_value.specs.declared.value.Value.TheVariants.{Null}
use Rattle.mg_rowcode.proofs.PutLemmas.{one_more}
use Rattle.mg_rowcode.proofs.row.push_nulls.Goals as goal

pub loop-init : goal.loop-init
loop-init c = sym (append-nil c.args.values.now.items)

pub loop-preserved : goal.loop-preserved
loop-preserved c = one_more c.args.values.now.items c.loop.values.items c.push.new.self.items c.loop.counter
    Null c.loop.invariant c.in_ok-push.ensures.items

pub returns-in_err-push : goal.returns-in_err-push
returns-in_err-push c = IfOk-from_err c.from_residual.result _ c.from_residual.ensures.0
