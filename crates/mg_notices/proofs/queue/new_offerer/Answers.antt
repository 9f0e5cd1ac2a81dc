use Rattle.crossbeam_queue.specs.Passes.{view}
use Rattle.mg_notices.proofs.Keeps.{forks}
use Rattle.mg_notices.proofs.queue.new_offerer.Goals as goal

pub another-requires-clause-rule : goal.another-requires-clause-rule
another-requires-clause-rule g c = forks c.args.taker.now.id (view c.args.taker.now) c.requires.1
