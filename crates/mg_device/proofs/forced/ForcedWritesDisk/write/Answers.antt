use Rattle.mg_device.proofs.ForcedLemmas.{cause_counted, failed_counted, forced_counted, writes_counted}
use Rattle.mg_device.proofs.forced.ForcedWritesDisk.write.Goals as goal

pub returns-clause-writes : goal.returns-clause-writes
returns-clause-writes g c =
    writes_counted g.V.Device.meaning c.args.self.now c.write_out-written.new.self c.count_failed.new.self c.args.page.0 c.args.bytes.now c.write_out-written.result
    c.count_failed.ensures.same c.write_out-written.ensures.writes

pub returns-clause-failed_writes : goal.returns-clause-failed_writes
returns-clause-failed_writes g c =
    failed_counted g.V.Device.meaning c.args.self.now c.write_out-written.new.self c.count_failed.new.self c.write_out-written.result c.write_out-written.ensures.uncounted
    c.count_failed.ensures.never_falls c.count_failed.ensures.rose c.count_failed.ensures.steady

pub returns-clause-forced : goal.returns-clause-forced
returns-clause-forced g c =
    forced_counted g.V.Device.meaning c.write_out-written.new.self.device c.count_failed.new.self.device c.write_out-written.result c.count_failed.ensures.device
    c.write_out-written.ensures.forced

pub returns-clause-cause : goal.returns-clause-cause
returns-clause-cause g c =
    cause_counted g.V.Device.meaning c.args.self.now.device c.write_out-written.new.self.device c.count_failed.new.self.device c.write_out-written.result c.count_failed.ensures.device
    c.write_out-written.ensures.cause
