use Rattle.mg_check_states.proofs.StepLemmas.{state_told}
use Rattle.mg_check_states.proofs.states.state_of.Goals as goal

pub returns : goal.returns
returns c = state_told c.args.tips.now c.args.size c.args.pages.now c.args.t c.state.result
    c.requires.tips.sized c.state.ensures
