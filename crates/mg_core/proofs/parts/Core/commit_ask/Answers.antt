use Rattle.mg_core.proofs.CoreLemmas.{core_asked}
use Rattle.mg_core.proofs.parts.Core.commit_ask.Goals as goal

pub returns-clause-core : goal.returns-clause-core
returns-clause-core g c = core_asked g.D.Disk.meaning c.args.self.now c.args.t.0 c.mark.new.self c.ask.new.self
    c.requires c.mark.ensures.pool c.mark.ensures.same c.ask.ensures
