use Rattle.mg_directory.proofs.ChainLemmas.{steps_at}
use Rattle.mg_directory.proofs.node.node_at.Goals as goal

pub returns : goal.returns
returns c hash = steps_at c.args.nodes.now hash c.args.link _ c.requires.some c.requires.below c.requires.back
