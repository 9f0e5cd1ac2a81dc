use Rattle.std.proofs.Common.{◌≡◌, false, refl}
use Rattle.mg_device.specs.DeviceLaws.{calm_of_sync}
use Rattle.mg_device.proofs.ForcedLemmas.{calm_forced}
use Rattle.mg_device.proofs.forced.ForcedWrites.clear.Goals as goal

pub returns-clause-calm : goal.returns-clause-calm
returns-clause-calm g c =
    let m = g.V.Device.meaning in
    let whole : m.failed c.args.self.now.device ≡ false = let told = c.has_failed.ensures in let is = c.if-has_failed.false in cc in
    calm_forced m c.args.self.now _ _ refl (calm_of_sync m g.met.V.Device.lawful c.args.self.now.device c.sync.new.self c.sync.result whole c.sync.ensures.syncs)
