use Rattle.std.proofs.Common.{ap, map, ◌∙◌}
use Rattle.std.proofs.lemmas.List.{take_all}
use Rattle.mg_model.specs.Machine.{limbo_step}
use Rattle.mg_plain.proofs.LoopLemmas.{pushed_more}
use Rattle.mg_plain.proofs.beginning.limbo_steps.Goals as goal

pub loop-change-preserved : goal.loop-change-preserved
loop-change-preserved c = pushed_more limbo_step c.args.limbo.now c.loop-change.change-index
    c.change-item.result c.loop-change.steps.items c.push.new.self.items _
    c.loop-change-test.true c.change-item.is c.loop-change.invariant c.in_ok-limbo_step.ensures
    c.in_ok-push.ensures.items

pub returns : goal.returns
returns c = c.loop-change.invariant
    ∙ ap (map limbo_step) (take_all c.loop-change.change-index c.args.limbo.now c.loop-change-test.false)
