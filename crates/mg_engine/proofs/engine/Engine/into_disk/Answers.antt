use Rattle.std.proofs.Common.{subst}
use Rattle.mg_core.specs.Cores.{IsCore}
use Rattle.mg_engine.proofs.engine.Engine.into_disk.Goals as goal

pub returns-clause-lawful : goal.returns-clause-lawful
returns-clause-lawful g c = subst (IsCore g.D.Disk.meaning) c.self.view_is c.self.invariant.lawful
