use Rattle.mg_file_figures.proofs.ShownLemmas.{committed_told}
use Rattle.mg_file_figures.proofs.shown.is_committed.Goals as goal

pub returns : goal.returns
returns c = committed_told c.args.tips.now c.args.size c.args.pages.now c.args.t c.state.result
    c.is_end_committed.result c.requires.tips.sized c.state.ensures c.is_end_committed.ensures
