use Rattle.mg_limbo_list.proofs.TipsLemmas.{state_absent}
use Rattle.mg_limbo_list.proofs.tips.state_on.Goals as goal

pub returns-in-None : goal.returns-in-None
returns-in-None c = state_absent c.args.size c.args.pages.now c.args.n c.args.place
    c.in-None.ensures.page
