use Rattle.std.proofs.Common.{refl}
use Rattle.mg_device.specs.DeviceLaws.{device_counts_now}
use Rattle.mg_device.specs.Forced.{forced_meaning}
use Rattle.mg_device.proofs.ForcedLemmas.{writes_on}
use Rattle.mg_device.proofs.forced.ForcedWrites.write_out.Goals as goal

pub returns-clause-writes : goal.returns-clause-writes
returns-clause-writes g c =
    let m = g.V.Device.meaning in
    writes_on (forced_meaning m) (λ d t i. device_counts_now m g.met.V.Device.lawful d.device t i) c.args.self.now c.clear.new.self c.force.new.self
    c.args.page.0 c.args.bytes.now _ c.force.result c.in_ok-clear.ensures.calm (record { reads = refl; was_read = λ n. refl }) c.force.ensures.writes
