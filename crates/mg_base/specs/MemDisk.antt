-- What a disk in memory tells.
use Rattle.std.specs.Prelude.{◌≡◌, ◌⊎◌, ◌≤◌, ◌+◌, ℕ, true, false, Some, None, length, take, max, List, ◌∷◌}
use Rattle.std.proofs.Common.{refl, get_or}
use Rattle.mg_base.specs.Image.{Image}
use Rattle.mg_base.specs.Acts.{Act, Write, acts_of, image_of, Left, leaves_held, leaves_left, left_leaves}
use Rattle.mg_base.specs.Disk.{Meaning, MayLeave}
use Rattle.mg_base.specs.declared.mem_disk.MemDisk.{MemDisk}
use Rattle.mg_base.specs.declared.obeyed.Obeyed.{Obeyed}

-- the page writes that it obeyed, the oldest first
abbrev pub writes_of : MemDisk → List Obeyed
writes_of d = take d.writes d.obeyed.items

-- the acts that it obeyed, the newest first
abbrev pub acts_in : MemDisk → List Act
acts_in d = acts_of (writes_of d) d.settled

-- how many pages it has room for
abbrev pub room_of : MemDisk → ℕ
room_of d = length d.pages.items

-- how many page writes its record has room for
abbrev pub record_of : MemDisk → ℕ
record_of d = length d.obeyed.items

-- a page lies past the room, or the record is full
abbrev pub IsOut : MemDisk → ℕ → Type 0
IsOut d page = (room_of d ≤ page) ⊎ (record_of d ≤ length (writes_of d))

-- It tells all: what it holds, exactly what a crash may leave, and exactly what it was asked for. Only page writes fail.
abbrev pub mem_meaning : Meaning MemDisk
mem_meaning = record {
  size = λ d. Some d.size;
  count = λ d. Some d.used;
  held = λ d. Some (image_of d.size (acts_in d));
  tells = λ d. true;
  moment = λ d. length (acts_in d);
  left = λ d t c. Left d.size (acts_in d) t c;
  faults = λ d. d.faults;
  failed_writes = λ d. d.faults;
  asked = λ d. d.asked;
  reads = λ d. d.reads;
  was_read = λ d n. get_or d.were_read.items n false;
  most_writes = λ d. None;
}

-- the same was asked of it
pub record SameCounts (old new : MemDisk) : Type 0 where
  pub asked : new.asked ≡ old.asked
  pub reads : new.reads ≡ old.reads
  pub were_read : new.were_read ≡ old.were_read

-- one page write more was obeyed
pub record Obeys (old new : MemDisk) (page : ℕ) (bytes : List ℕ) : Type 0 where
  pub acts : acts_in new ≡ Write page bytes ∷ acts_in old
  pub writes : length (writes_of new) ≡ length (writes_of old) + 1
  pub used : new.used ≡ max old.used (page + 1)
  pub size : new.size ≡ old.size
  pub room : room_of new ≡ room_of old
  pub entries : record_of new ≡ record_of old
  pub faults : new.faults ≡ old.faults

-- The laws of a disk, for a disk in memory.

pub mem_holds : (d : MemDisk) → true ≡ true → (image : Image) × (Some (image_of d.size (acts_in d)) ≡ Some image) × MayLeave mem_meaning d image
mem_holds d told = (image_of d.size (acts_in d), refl, left_leaves d.size (acts_in d) (length (acts_in d)) (image_of d.size (acts_in d)) (leaves_held d.size (acts_in d)))

pub mem_counts_now : (d : MemDisk) (t : ℕ) (c : Image) → true ≡ true → t ≤ length (acts_in d) → MayLeave mem_meaning d c → Left d.size (acts_in d) t c
mem_counts_now d t c told le now = left_leaves d.size (acts_in d) t c (leaves_left d.size (acts_in d) c now)

pub mem_counted : (d : MemDisk) (image : Image) (n : ℕ) → Some (image_of d.size (acts_in d)) ≡ Some image → Some d.used ≡ Some n → length image ≡ n
mem_counted d image n is told = let h = d.kept.count in cc
