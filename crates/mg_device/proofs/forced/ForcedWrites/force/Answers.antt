use Rattle.std.proofs.Common.{refl, ◌∙◌}
use Rattle.mg_device.specs.Device.{PageWrite}
use Rattle.mg_device.specs.Forced.{forced_meaning}
use Rattle.mg_device.proofs.ForcedLemmas.{none_pending, writes_forced, writes_given, writes_of_failed, writes_of_forced}
use Rattle.mg_device.proofs.forced.ForcedWrites.force.Goals as goal

pub returns-in_err-write-clause-writes : goal.returns-in_err-write-clause-writes
returns-in_err-write-clause-writes g c =
    let m = g.V.Device.meaning in
    let w : PageWrite = record { page = c.args.page.0; bytes = c.args.bytes.now } in
    writes_given (forced_meaning m) c.args.self.now _ w.page w.bytes _ c.from_residual.result c.from_residual.ensures.0
    (writes_forced m c.args.self.now _ w.page w.bytes _ refl
    (writes_of_failed m g.met.V.Device.lawful c.args.self.now.device c.write.new.self w _ c.requires.pending c.in_err-write.ensures.pends))

pub returns-clause-writes : goal.returns-clause-writes
returns-clause-writes g c =
    let m = g.V.Device.meaning in
    let w : PageWrite = record { page = c.args.page.0; bytes = c.args.bytes.now } in
    writes_forced m c.args.self.now _ w.page w.bytes c.sync.result refl
    (writes_of_forced m g.met.V.Device.lawful c.args.self.now.device c.write.new.self c.sync.new.self w _ c.sync.result c.requires.pending c.requires.goes_on
    c.in_ok-write.ensures.pends c.sync.ensures.syncs)

pub returns-clause-forced : goal.returns-clause-forced
returns-clause-forced g c =
    none_pending g.V.Device.meaning g.met.V.Device.lawful c.write.new.self c.sync.new.self c.sync.result
    (c.in_ok-write.ensures.pends.goes_on ∙ c.requires.goes_on) c.sync.ensures.syncs
