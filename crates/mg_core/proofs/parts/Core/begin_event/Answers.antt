use Rattle.std.proofs.Common.{refl}
use Rattle.mg_core.proofs.CoreLemmas.{core_with}
use Rattle.mg_core.proofs.parts.Core.begin_event.Goals as goal

pub returns-clause-core : goal.returns-clause-core
returns-clause-core g c = core_with g.D.Disk.meaning c.args.self.now _ c.args.self.now.works c.args.self.now.live c.requires refl refl c.requires.drawn (λ u. refl)
