use Rattle.mg_core.proofs.ScanLemmas.{scan_fails, scan_ok}
use Rattle.mg_core.proofs.TableLemmas.{core_read_store}
use Rattle.mg_core.proofs.parts.Core.scan_step.Goals as goal

pub returns-in-Ok-visit-clause-core : goal.returns-in-Ok-visit-clause-core
returns-in-Ok-visit-clause-core g c = core_read_store g.D.Disk.meaning c.args.self.now c.visit.new.self
    c.requires.core c.in-Ok-visit.ensures.visits.2.keeps c.in-Ok-visit.ensures.visits.3

pub returns-in-Ok-visit-clause-scans : goal.returns-in-Ok-visit-clause-scans
returns-in-Ok-visit-clause-scans g c = scan_ok g.D.Disk.meaning c.args.self.now c.visit.new.self c.args.t
    c.args.table.now c.args.after c.in-Ok-visit.found c.in-Ok.ensures c.in-Ok-visit.ensures.visits

pub returns-in-Err-visit-clause-scans : goal.returns-in-Err-visit-clause-scans
returns-in-Err-visit-clause-scans g c = scan_fails g.D.Disk.meaning c.args.self.now c.visit.new.self
    c.refuse.new.self c.args.t c.args.table.now c.args.after c.in-Err-visit.fault c.refuse.result
    c.in-Ok.ensures c.in-Err-visit.ensures.visits c.refuse.ensures.refusal c.refuse.ensures.counts
    c.refuse.ensures.same
