-- A device in memory keeps to what every device keeps to.
use Rattle.std.specs.Prelude.{◌≡◌, ℕ, ◌<◌, ◌≤◌, length, take}
use Rattle.std.proofs.Common.{refl, arith, ap, sym, ◌∙◌, get_or, subst}
use Rattle.std.proofs.lemmas.List.{get_or-take, length-take}
use Rattle.mg_base.specs.Image.{Image}
use Rattle.mg_base.specs.Acts.{image_of}
use Rattle.mg_base.specs.MemDisk.{acts_in, writes_of}
use Rattle.mg_base.specs.declared.mem_disk.MemDisk.{MemDisk}
use Rattle.mg_base.specs.declared.obeyed.Obeyed.{Obeyed}
use Rattle.mg_device.specs.Device.{IsDevice, after_writes, Reaches}
use Rattle.mg_device.specs.MemDevice.{mem_device_meaning}
use Rattle.mg_device.specs.Unordered.{pending_in, synced_in, through_acts, unordered_few, unordered_leaves, unordered_now}

-- what the disk in memory holds is what was synced with what is pending
pub through : (d : MemDisk) → image_of d.size (acts_in d) ≡ after_writes (synced_in (acts_in d)) (pending_in (acts_in d))
through d = through_acts d.size (writes_of d) d.settled whole
  where
    whole : (k : ℕ) (e : Obeyed) → k < length (take d.writes d.obeyed.items) → length (get_or (take d.writes d.obeyed.items) k e).bytes ≡ d.size
    whole k e below =
        let fits = d.kept.entries in
        let within : k < d.writes = omega (arith, length-take d.writes d.obeyed.items, below) in
        let inside : k < length d.obeyed.items = omega (arith, fits, within) in
        rw (get_or-take d.writes d.obeyed.items k e within) (d.kept.whole_entries k e inside)

pub mem_device : IsDevice mem_device_meaning
mem_device = record {
  told = λ d told. (synced_in (acts_in d.disk), refl);
  leaves = λ d image c told synced left.
      let same : synced_in (acts_in d.disk) ≡ image = let s = synced in cc in
      subst (λ (i : Image). Reaches i (pending_in (acts_in d.disk)) c) same (unordered_leaves (acts_in d.disk) c left);
  may_leave = λ d t image c told synced le reaches.
      let same : image ≡ synced_in (acts_in d.disk) = let s = synced in cc in
      unordered_now (acts_in d.disk) t c (subst (λ (i : Image). Reaches i (pending_in (acts_in d.disk)) c) same reaches);
  counted = λ d image n synced is.
      let same : image ≡ synced_in (acts_in d.disk) = let s = synced in cc in
      let used : d.disk.used ≡ n = let i = is in cc in
      ap (λ (i : Image). length (after_writes i (pending_in (acts_in d.disk)))) same ∙ ap (λ (i : Image). length i) (sym (through d.disk)) ∙ d.disk.kept.count ∙ used;
  never_shrinks = λ d t image c told synced left.
      let same : synced_in (acts_in d.disk) ≡ image = let s = synced in cc in
      subst (λ (i : Image). length c ≤ length (after_writes i (pending_in (acts_in d.disk)))) same (unordered_few (acts_in d.disk) t c left);
}
