use Rattle.crossbeam_queue.specs.Passes.{view, ruled_capacity}
use Rattle.mg_notices.proofs.Keeps.{offers}
use Rattle.mg_notices.proofs.queue.offer.Goals as goal

pub push_as-requires-clause-rule : goal.push_as-requires-clause-rule
push_as-requires-clause-rule g c = (offers (ruled_capacity c.args.queue.now) c.args.who.now.id (view c.args.who.now) c.args.notice c.requires.1, λ items views h at. tt)
