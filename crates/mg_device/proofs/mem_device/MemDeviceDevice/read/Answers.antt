-- Where nothing is pending, the disk in memory holds what was synced.
use Rattle.std.specs.Prelude.{Result, Ok, Err, OnOk}
use Rattle.std.proofs.Common.{◌≡◌, List, ℕ, Some, [], length, ap, ◌∙◌}
use Rattle.mg_base.specs.Acts.{image_of}
use Rattle.mg_base.specs.Image.{Image, page_at}
use Rattle.mg_base.specs.MemDisk.{acts_in}
use Rattle.mg_base.specs.declared.mem_disk.MemDisk.{MemDisk}
use Rattle.mg_device.specs.Device.{after_writes}
use Rattle.mg_device.specs.MemDeviceLaws.{through}
use Rattle.mg_device.specs.Unordered.{pending_in, synced_in}
use Rattle.mg_device.proofs.mem_device.MemDeviceDevice.read.Goals as goal

read_synced : {T E : Type 0} (d : MemDisk) (size page : ℕ) (into : List ℕ) (result : Result T E)
    → OnOk result ((image : Image) → Some (image_of d.size (acts_in d)) ≡ Some image → into ≡ page_at size image page)
    → OnOk result (pending_in (acts_in d) ≡ [] → (image : Image) → Some (synced_in (acts_in d)) ≡ Some image → into ≡ page_at size image page)
read_synced d size page into (Ok x) says = λ empty image is.
    says image (ap Some (through d ∙ ap (λ ws. after_writes (synced_in (acts_in d)) ws) empty) ∙ is)
read_synced d size page into (Err e) says = tt

pub returns-clause-page : goal.returns-clause-page
returns-clause-page c = read_synced c.args.self.now.disk (length c.args.into.now) c.args.page.0 c.read.new.into c.read.result c.read.ensures.page
