-- The real file tells its page size and its number of pages once they are known, and nothing of its content.
use Rattle.std.specs.Prelude.{ℕ, false, Option, Some, None, []}
use Rattle.mg_device.specs.Device.{DeviceMeaning, IsDevice}
use Rattle.mg_device.specs.declared.file_device.FileDevice.{FileDevice}
use Rattle.mg_device.specs.declared.file_device.Opened.{Opened}

abbrev pub size_of : Option Opened → Option ℕ
size_of None = None
size_of (Some o) = Some o.size

abbrev pub count_of : Option Opened → Option ℕ
count_of None = None
count_of (Some o) = Some o.pages

abbrev pub file_meaning : {R : Type 0} → DeviceMeaning (FileDevice R)
file_meaning = record {
  size = λ d. size_of d.opened;
  count = λ d. count_of d.opened;
  synced = λ d. None;
  pending = λ d. [];
  failed = λ d. d.failed;
  tells = λ d. false;
  moment = λ d. 0;
  left = λ d t c. ⊥;
  faults = λ d. d.faults;
}

pub file_device : {R : Type 0} → IsDevice (file_meaning {R = R})
file_device = record {
  told = λ d told. absurd (let t = told in cc);
  leaves = λ d image c told synced left. absurd left;
  may_leave = λ d t image c told synced le reaches. absurd (let s = told in cc);
  counted = λ d image n synced is. absurd (let s = synced in cc);
  never_shrinks = λ d t image c told synced left. absurd left;
}
