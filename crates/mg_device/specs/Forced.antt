-- A device on which each page write is forced.
use Rattle.std.specs.Prelude.{◌≡◌, ◌⊎◌, ◌+◌, true, false, None, Result, IsErr}
use Rattle.mg_base.specs.Disk.{Meaning, Rose}
use Rattle.mg_device.specs.Device.{DeviceMeaning, as_disk}
use Rattle.mg_device.specs.declared.forced.ForcedWrites.{ForcedWrites}

-- It tells what the device tells, read as a disk. Its faults are those of the device, and the calls that it refused. A page
-- write or a settling that fails is counted as such, whatever it failed by.
abbrev pub forced_meaning : {V : Type 0} → DeviceMeaning V → Meaning (ForcedWrites V)
forced_meaning m = record {
  size = λ d. m.size d.device;
  count = λ d. m.count d.device;
  held = λ d. (as_disk m).held d.device;
  tells = λ d. m.tells d.device;
  moment = λ d. m.moment d.device;
  left = λ d t c. m.left d.device t c;
  faults = λ d. m.faults d.device + d.refused;
  failed_writes = λ d. d.failed_writes;
  asked = λ d. 0;
  reads = λ d. 0;
  was_read = λ d n. false;
  most_writes = λ d. None;
}

abbrev pub device_of : {V : Type 0} → ForcedWrites V → V
device_of d = d.device

-- a call fails only where a page write or a sync has failed before, or where the device fails in it
abbrev pub HasCause : {V T E : Type 0} → DeviceMeaning V → ForcedWrites V → ForcedWrites V → Result T E → Type 0
HasCause m old new result = IsErr result → (m.failed old.device ≡ true) ⊎ Rose (m.faults old.device) (m.faults new.device)
