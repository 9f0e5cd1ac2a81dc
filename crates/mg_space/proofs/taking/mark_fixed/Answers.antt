use Rattle.mg_space.proofs.TakingLemmas.{ready_marked}
use Rattle.mg_space.proofs.taking.mark_fixed.Goals as goal

pub returns-clause-marks : goal.returns-clause-marks
returns-clause-marks c = ready_marked c.args.at.0 c.args.region c.args.page.now
    c.make_ready.new.page c.set_fixed.new.page c.in_ok-make_ready.ensures.ready c.set_fixed.ensures
