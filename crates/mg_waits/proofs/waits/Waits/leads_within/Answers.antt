use Rattle.std.proofs.Common.{rules}
use Rattle.mg_waits.proofs.Ways.{step_on}
use Rattle.mg_waits.proofs.waits.Waits.leads_within.Goals as goal

pub loop-step-preserved : goal.loop-step-preserved
loop-step-preserved c =
    step_on c.args.self.now c.args.most c.loop-step.step c.loop-step.at c.args.to c.in-Some.next _
    c.loop-step-test.true c.if-at-to.false (search rules) c.loop-step.invariant
