use Rattle.mg_device.proofs.ForcedLemmas.{calm_counted, cause_counted, durable_counted, failed_counted, settled}
use Rattle.mg_device.proofs.forced.ForcedWritesDisk.settle.Goals as goal

pub returns-clause-durable : goal.returns-clause-durable
returns-clause-durable g c =
    durable_counted g.V.Device.meaning c.args.self.now c.clear-settled.new.self c.count_failed.new.self c.clear-settled.result c.count_failed.ensures.same
    (settled g.V.Device.meaning g.met.V.Device.lawful c.args.self.now.device c.clear-settled.new.self.device c.clear-settled.result c.clear-settled.ensures.pending
    c.clear-settled.ensures.calm.keeps.tells)

pub returns-clause-calm : goal.returns-clause-calm
returns-clause-calm g c =
    calm_counted g.V.Device.meaning c.args.self.now c.clear-settled.new.self c.count_failed.new.self c.clear-settled.result c.count_failed.ensures.same c.clear-settled.ensures.calm

pub returns-clause-failed_writes : goal.returns-clause-failed_writes
returns-clause-failed_writes g c =
    failed_counted g.V.Device.meaning c.args.self.now c.clear-settled.new.self c.count_failed.new.self c.clear-settled.result c.clear-settled.ensures.uncounted
    c.count_failed.ensures.never_falls c.count_failed.ensures.rose c.count_failed.ensures.steady

pub returns-clause-cause : goal.returns-clause-cause
returns-clause-cause g c =
    cause_counted g.V.Device.meaning c.args.self.now.device c.clear-settled.new.self.device c.count_failed.new.self.device c.clear-settled.result c.count_failed.ensures.device
    c.clear-settled.ensures.cause
