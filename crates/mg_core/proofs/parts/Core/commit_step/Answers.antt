use Rattle.std.proofs.Common.{ap}
use Rattle.mg_pool.specs.Pool.{number_of}
use Rattle.mg_core.proofs.CoreLemmas.{marked_dirty}
use Rattle.mg_core.proofs.parts.Core.commit_step.Goals as goal

pub write_one-requires-clause-dirty : goal.write_one-requires-clause-dirty
write_one-requires-clause-dirty g c = marked_dirty c.args.self.now.store.dirty c.in-Some.goal.0
    c.in_ok-session.session (c.least_marked.ensures.passes c.in-Some.goal.0 (ap number_of c.in-Some.is))
