use Rattle.crossbeam_queue.specs.Passes.{view}
use Rattle.mg_notices.proofs.Keeps.{takes}
use Rattle.mg_notices.proofs.queue.take.Goals as goal

pub pop_as-requires-clause-rule : goal.pop_as-requires-clause-rule
pop_as-requires-clause-rule g c = (takes c.args.who.now.id (view c.args.who.now) c.requires.1, λ items views h at. tt)
