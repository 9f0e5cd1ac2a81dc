use Rattle.std.proofs.Common.{refl}
use Rattle.mg_device.specs.DeviceLaws.{calm_of_rests, device_counts_now}
use Rattle.mg_device.specs.Forced.{forced_meaning}
use Rattle.mg_device.proofs.ForcedLemmas.{calm_forced, calm_on}
use Rattle.mg_device.proofs.forced.ForcedWritesDisk.read.Goals as goal

pub returns-clause-calm : goal.returns-clause-calm
returns-clause-calm g c =
    let m = g.V.Device.meaning in
    let law = g.met.V.Device.lawful in
    calm_on (forced_meaning m) (λ d t i. device_counts_now m law d.device t i) c.args.self.now c.clear.new.self _ _ c.read.result c.in_ok-clear.ensures.calm
    (calm_forced m c.clear.new.self _ c.read.result refl (calm_of_rests m law c.clear.new.self.device c.read.new.self c.read.result c.read.ensures.rests))
