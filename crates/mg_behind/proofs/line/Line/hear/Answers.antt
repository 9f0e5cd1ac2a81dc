use Rattle.mg_behind.proofs.Does.{heard}
use Rattle.mg_behind.proofs.line.Line.hear.Goals as goal

pub invariant_of-self-2-clause-failures : goal.invariant_of-self-2-clause-failures
invariant_of-self-2-clause-failures g c = heard c.args.self.now.failed c.args.self.now.receipts.end.past c.pop.new.self.end.past c.in-Ok.receipt c.args.self.now.failures c.in-Ok.ensures.ok.0
