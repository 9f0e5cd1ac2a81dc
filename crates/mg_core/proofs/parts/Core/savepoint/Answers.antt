use Rattle.std.proofs.Common.{Some}
use Rattle.mg_core.proofs.CoreLemmas.{core_pointed}
use Rattle.mg_core.proofs.parts.Core.savepoint.Goals as goal

pub returns-in-Ok-set_savepoint-clause-core : goal.returns-in-Ok-set_savepoint-clause-core
returns-in-Ok-set_savepoint-clause-core g c = core_pointed g.D.Disk.meaning c.begin_event.new.self c.args.t.0 (Some c.args.name.now)
    c.set_savepoint.new.self c.begin_event.ensures.core c.in-Ok-set_savepoint.ensures.ok
