use Rattle.std.proofs.Common.{None}
use Rattle.mg_core.proofs.CoreLemmas.{core_pointed}
use Rattle.mg_core.proofs.parts.Core.mark.Goals as goal

pub returns-in-Ok-set_mark-clause-core : goal.returns-in-Ok-set_mark-clause-core
returns-in-Ok-set_mark-clause-core g c = core_pointed g.D.Disk.meaning c.begin_event.new.self c.args.t.0 None
    c.set_mark.new.self c.begin_event.ensures.core c.in-Ok-set_mark.ensures.ok
