use Rattle.std.proofs.Common.{refl}
use Rattle.mg_device.specs.DeviceLaws.{calm_of_rests}
use Rattle.mg_device.proofs.ForcedLemmas.{calm_forced}
use Rattle.mg_device.proofs.forced.ForcedWritesDisk.page_size.Goals as goal

pub returns-clause-calm : goal.returns-clause-calm
returns-clause-calm g c =
    let m = g.V.Device.meaning in
    calm_forced m c.args.self.now _ _ refl (calm_of_rests m g.met.V.Device.lawful c.args.self.now.device c.page_size.new.self _ c.page_size.ensures.rests)
