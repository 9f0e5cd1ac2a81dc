use Rattle.mg_notices.proofs.Keeps.{begins}
use Rattle.mg_notices.proofs.queue.open.Goals as goal

pub ruled-requires-clause-rule : goal.ruled-requires-clause-rule
ruled-requires-clause-rule g c = begins
