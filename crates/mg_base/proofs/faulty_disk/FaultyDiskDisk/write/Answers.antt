use Rattle.std.proofs.Common.{◌≤◌, ◌+◌, arith}
use Rattle.mg_base.proofs.FaultyDiskLemmas.{writes_before, writes_inside, failed_write_before, failed_write_inside}
use Rattle.mg_base.proofs.faulty_disk.FaultyDiskDisk.write.Goals as goal

pub returns-in_err-admit_write-clause-writes : goal.returns-in_err-admit_write-clause-writes
returns-in_err-admit_write-clause-writes c =
    let asked : c.admit_write.new.self.asked ≤ c.args.self.now.asked + 1 = let a = c.admit_write.ensures.asked in let s = c.saturating_add-self.ensures in omega arith in
    writes_before c.args.self.now c.admit_write.new.self c.args.page.0 c.args.bytes.now c.from_residual.result _ c.admit_write.ensures.inner asked c.admit_write.ensures.reads c.admit_write.ensures.never_falls c.in_err-admit_write.ensures.rose c.from_residual.ensures.1

pub returns-clause-writes : goal.returns-clause-writes
returns-clause-writes c =
    let asked : c.admit_write.new.self.asked ≤ c.args.self.now.asked + 1 = let a = c.admit_write.ensures.asked in let s = c.saturating_add-self.ensures in omega arith in
    writes_inside c.args.self.now (record c.admit_write.new.self { inner = c.write.new.self }) c.admit_write.new.self.inner c.args.page.0 c.args.bytes.now c.write.result c.admit_write.ensures.inner c.in_ok-admit_write.ensures.steady asked c.admit_write.ensures.reads c.write.ensures.writes

pub returns-in_err-admit_write-clause-failed_writes : goal.returns-in_err-admit_write-clause-failed_writes
returns-in_err-admit_write-clause-failed_writes c = failed_write_before c.args.self.now c.admit_write.new.self c.from_residual.result _ c.admit_write.ensures.inner c.admit_write.ensures.writes_never_fall c.in_err-admit_write.ensures.writes_rose c.from_residual.ensures.1

pub returns-clause-failed_writes : goal.returns-clause-failed_writes
returns-clause-failed_writes c = failed_write_inside c.args.self.now (record c.admit_write.new.self { inner = c.write.new.self }) c.admit_write.new.self.inner c.write.result c.admit_write.ensures.inner c.in_ok-admit_write.ensures.writes_steady c.write.ensures.failed_writes
