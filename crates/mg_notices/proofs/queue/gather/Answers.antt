use Rattle.crossbeam_queue.specs.Passes.{view}
use Rattle.mg_notices.proofs.Keeps.{merges}
use Rattle.mg_notices.proofs.queue.gather.Goals as goal

pub absorb-requires-clause-rule : goal.absorb-requires-clause-rule
absorb-requires-clause-rule g c = merges c.args.who.now.id (view c.args.who.now) c.args.other.id (view c.args.other) c.requires.taker.1 c.requires.offerer.1
