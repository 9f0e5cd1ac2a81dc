use Rattle.std.proofs.Common.{subst}
use Rattle.mg_core.specs.declared.parts.Core.{Core}
use Rattle.mg_core.specs.Cores.{IsCore}
use Rattle.mg_engine_meaning_laws.specs.Closings.{ClosesEngine}
use Rattle.mg_engine.proofs.engine.Engine.close.Goals as goal

pub close-requires : goal.close-requires
close-requires g c = c.self.invariant.lawful

pub returns-clause-closes : goal.returns-clause-closes
returns-clause-closes g c = subst (λ (core : Core g.row.D.Denot).
    ClosesEngine g.D.Disk.meaning core c.close.result.0 c.close.result.1) c.self.view_is
    (c.closings_leave.ensures c.self.inside.core c.close.result.0 c.close.result.1 c.self.invariant.lawful
    c.close.ensures)

pub returns-clause-lawful : goal.returns-clause-lawful
returns-clause-lawful g c = subst (IsCore g.D.Disk.meaning) c.self.view_is c.self.invariant.lawful
