use Rattle.mg_base.proofs.FaultyDiskLemmas.{calm_before, calm_inside, unread_before, unread_inside, failed_write_before, failed_write_inside}
use Rattle.mg_base.proofs.faulty_disk.FaultyDiskDisk.settle.Goals as goal

pub returns-in_err-admit_write-clause-calm : goal.returns-in_err-admit_write-clause-calm
returns-in_err-admit_write-clause-calm c = calm_before c.args.self.now c.admit_write.new.self c.from_residual.result _ c.admit_write.ensures.inner c.admit_write.ensures.asked c.admit_write.ensures.never_falls c.in_err-admit_write.ensures.rose c.from_residual.ensures.1

pub returns-in_err-admit_write-clause-unread : goal.returns-in_err-admit_write-clause-unread
returns-in_err-admit_write-clause-unread c = unread_before c.args.self.now c.admit_write.new.self c.admit_write.ensures.inner c.admit_write.ensures.reads

pub returns-clause-calm : goal.returns-clause-calm
returns-clause-calm c = calm_inside c.args.self.now (record c.admit_write.new.self { inner = c.settle.new.self }) c.admit_write.new.self.inner c.settle.result c.admit_write.ensures.inner c.in_ok-admit_write.ensures.steady c.admit_write.ensures.asked c.settle.ensures.calm

pub returns-clause-unread : goal.returns-clause-unread
returns-clause-unread c = unread_inside c.args.self.now (record c.admit_write.new.self { inner = c.settle.new.self }) c.admit_write.new.self.inner c.admit_write.ensures.inner c.admit_write.ensures.reads c.settle.ensures.unread

pub returns-in_err-admit_write-clause-failed_writes : goal.returns-in_err-admit_write-clause-failed_writes
returns-in_err-admit_write-clause-failed_writes c = failed_write_before c.args.self.now c.admit_write.new.self c.from_residual.result _ c.admit_write.ensures.inner c.admit_write.ensures.writes_never_fall c.in_err-admit_write.ensures.writes_rose c.from_residual.ensures.1

pub returns-clause-failed_writes : goal.returns-clause-failed_writes
returns-clause-failed_writes c = failed_write_inside c.args.self.now (record c.admit_write.new.self { inner = c.settle.new.self }) c.admit_write.new.self.inner c.settle.result c.admit_write.ensures.inner c.in_ok-admit_write.ensures.writes_steady c.settle.ensures.failed_writes
