use Rattle.crossbeam_queue.specs.Passes.{view}
use Rattle.mg_notices.proofs.Keeps.{tells}
use Rattle.mg_notices.proofs.queue.settle.Goals as goal

pub learn_as-requires-clause-rule : goal.learn_as-requires-clause-rule
learn_as-requires-clause-rule g c = tells c.args.who.now.id (view c.args.who.now) c.requires.1
