-- A device in memory on which each page write is forced holds whole pages, and so does each image that a crash might have
-- left of it, in whatever order page writes reach it.
use Rattle.std.proofs.Common.{◌≡◌, ◌≤◌, ◌++◌, inl, inr, ℕ, List, [], ◌∷◌, Option, Some, refl, ap, subst, length}
use Rattle.std.proofs.lemmas.List.{length-replicate}
use Rattle.mg_base.specs.Acts.{Act, Settle, Write}
use Rattle.mg_base.specs.Image.{Image}
use Rattle.mg_base.specs.MemDisk.{acts_in}
use Rattle.mg_base.specs.declared.mem_disk.MemDisk.{MemDisk}
use Rattle.mg_device.specs.Device.{PageWrite, Reaches, after_write, after_writes, first, none}
use Rattle.mg_device.specs.DeviceLaws.{reaches_none}
use Rattle.mg_device.specs.Unordered.{LeftUnordered, pending_in, synced_in}
use Rattle.mg_format.specs.Format.{IsUnmadeImage}
use Rattle.mg_new_database_laws.specs.Soundness.{HasWholePages}
use Rattle.mg_runs.specs.Entry.{of_new}
use Rattle.mg_runs.specs.EntryLaws.{whole_of}
use Rattle.mg_runs.specs.Laws.{ForcedIsEntry}
use Rattle.mg_runs.specs.MemLaws.{AreWhole, acts_are_whole, written_whole}

-- each page write is of a whole page
abbrev WritesWhole : ℕ → List PageWrite → Type 0
WritesWhole size [] = Unit {0}
WritesWhole size (w ∷ ws) = (length w.bytes ≡ size) × WritesWhole size ws

pending_whole : (size : ℕ) (acts : List Act) → AreWhole size acts → WritesWhole size (pending_in acts)
pending_whole size [] whole = tt
pending_whole size (Write n bytes ∷ acts) whole = (whole.0, pending_whole size acts whole.1)
pending_whole size (Settle ∷ acts) whole = tt

one_whole : (size : ℕ) (image : Image) (w : PageWrite) → length w.bytes ≡ size → HasWholePages size image
    → HasWholePages size (after_write image w)
one_whole size image w whole all = subst (λ (n : ℕ). HasWholePages n image → HasWholePages n (after_write image w)) whole
    (λ its. written_whole (length w.bytes) image w.page w.bytes refl its) all

after_whole : (size : ℕ) (image : Image) (ws : List PageWrite) → WritesWhole size ws → HasWholePages size image
    → HasWholePages size (after_writes image ws)
after_whole size image [] whole all = all
after_whole size image (w ∷ ws) whole all = one_whole size (after_writes image ws) w whole.0
    (after_whole size image ws whole.1 all)

synced_whole : (size : ℕ) (acts : List Act) → AreWhole size acts → HasWholePages size (synced_in acts)
synced_whole size [] whole = λ n. length-replicate {A = ℕ} size 0
synced_whole size (Write n bytes ∷ acts) whole = synced_whole size acts whole.1
synced_whole size (Settle ∷ acts) whole = after_whole size (synced_in acts) (pending_in acts)
    (pending_whole size acts whole) (synced_whole size acts whole)

-- one of them, and the others
its_whole : (size : ℕ) (before : List PageWrite) (w : PageWrite) (after : List PageWrite)
    → WritesWhole size (before ++ w ∷ after) → (length w.bytes ≡ size) × WritesWhole size (before ++ after)
its_whole size [] w after whole = whole
its_whole size (b ∷ before) w after whole =
    let rest = its_whole size before w after whole.1 in (rest.0, (whole.0, rest.1))

reaches_whole : (size : ℕ) (image : Image) (ws : List PageWrite) (c : Image) → WritesWhole size ws
    → HasWholePages size image → Reaches image ws c → HasWholePages size c
reaches_whole size image ws c whole all none = all
reaches_whole size image ws c whole all (first i before w after d reaches) =
    let parts = its_whole size before w after whole in
    reaches_whole size (after_write i w) (before ++ after) d parts.1 (one_whole size i w parts.0 all) reaches

now_whole : (size : ℕ) (acts : List Act) (c : Image) → AreWhole size acts
    → Reaches (synced_in acts) (pending_in acts) c → HasWholePages size c
now_whole size acts c whole reaches = reaches_whole size (synced_in acts) (pending_in acts) c
    (pending_whole size acts whole) (synced_whole size acts whole) reaches

behind : (size : ℕ) (act : Act) (acts : List Act) → AreWhole size (act ∷ acts) → AreWhole size acts
behind size (Write n bytes) acts whole = whole.1
behind size Settle acts whole = whole

left_whole : (size : ℕ) (acts : List Act) (t : ℕ) (c : Image) → AreWhole size acts → LeftUnordered acts t c
    → HasWholePages size c
left_whole size [] t c whole left = now_whole size [] c whole left
left_whole size (act ∷ acts) t c whole (inl now) = now_whole size (act ∷ acts) c whole now
left_whole size (act ∷ acts) t c whole (inr (early, before)) = left_whole size acts t c (behind size act acts whole) before

held_whole : (disk : MemDisk) (image : Image)
    → Some (after_writes (synced_in (acts_in disk)) (pending_in (acts_in disk))) ≡ Some image
    → HasWholePages disk.size image
held_whole disk image held =
    let same : after_writes (synced_in (acts_in disk)) (pending_in (acts_in disk)) ≡ image = cc in
    subst (HasWholePages disk.size) same (after_whole disk.size (synced_in (acts_in disk)) (pending_in (acts_in disk))
    (pending_whole disk.size (acts_in disk) (acts_are_whole disk))
    (synced_whole disk.size (acts_in disk) (acts_are_whole disk)))

-- where nothing was asked of it, a crash leaves an image without pages
none_left : (acts : List Act) (c : Image) → acts ≡ [] → LeftUnordered acts (length acts) c → c ≡ []
none_left [] c is left = reaches_none [] [] c refl left
none_left (act ∷ acts) c is left = absurd cc

abbrev some_image : Image → Option Image
some_image image = Some image

pub forced_is_entry : ForcedIsEntry
forced_is_entry disk limit free none_asked room = record {
  sized = refl;
  lawful = disk.device.disk.kept.lawful;
  whole = record {
    held = λ other image sized tells. whole_of disk.device.disk.size other.device.disk.size image sized
        (held_whole other.device.disk image tells.held);
    left = λ other t c sized left. whole_of disk.device.disk.size other.device.disk.size c sized
        (left_whole other.device.disk.size (acts_in other.device.disk) t c (acts_are_whole other.device.disk) left);
  };
  settled = record {
    tells = record {
      told = refl;
      held = ap (λ (acts : List Act). some_image (after_writes (synced_in acts) (pending_in acts))) none_asked;
    };
    only = λ c may. none_left (acts_in disk.device.disk) c none_asked may;
  };
  opening = of_new free (record { header = refl; others = λ n some below. inl refl }) room;
}
