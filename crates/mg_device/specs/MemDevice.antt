-- What a device in memory tells.
use Rattle.std.specs.Prelude.{true, Some, length}
use Rattle.mg_base.specs.MemDisk.{acts_in, mem_meaning}
use Rattle.mg_device.specs.Device.{DeviceMeaning}
use Rattle.mg_device.specs.Unordered.{LeftUnordered, pending_in, synced_in}
use Rattle.mg_device.specs.declared.mem_device.MemDevice.{MemDevice}

-- It tells all: what was synced, what is pending, and exactly what a crash may leave.
abbrev pub mem_device_meaning : DeviceMeaning MemDevice
mem_device_meaning = record {
  size = λ d. mem_meaning.size d.disk;
  count = λ d. mem_meaning.count d.disk;
  synced = λ d. Some (synced_in (acts_in d.disk));
  pending = λ d. pending_in (acts_in d.disk);
  failed = λ d. d.failed;
  tells = λ d. true;
  moment = λ d. length (acts_in d.disk);
  left = λ d t c. LeftUnordered (acts_in d.disk) t c;
  faults = λ d. mem_meaning.faults d.disk;
}
