use Rattle.mg_space.proofs.TakingLemmas.{check_ready, made_ready}
use Rattle.mg_space.proofs.taking.make_ready.Goals as goal

pub returns-then-is_blank-clause-ready : goal.returns-then-is_blank-clause-ready
returns-then-is_blank-clause-ready c = made_ready c.args.at.0 c.args.region c.args.page.now
    c.new_pip.new.b (c.is_blank.ensures.0 c.if-is_blank.true) c.new_pip.auto.b
    c.new_pip.ensures.unused c.new_pip.ensures.passes

pub returns-else-is_blank-clause-ready : goal.returns-else-is_blank-clause-ready
returns-else-is_blank-clause-ready c = check_ready c.args.at c.args.region c.args.page.now
    c.check_pip.result c.check_pip.ensures
