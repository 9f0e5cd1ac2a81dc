-- What a crash might have left has no more pages than a disk may come to have: laws of every disk.
use Rattle.std.proofs.Common.{◌≡◌, ◌≤◌, ℕ, true, length, Some, arith}
use Rattle.mg_base.specs.Disk.{MayLeave, Meaning}
use Rattle.mg_base.specs.Image.{Image}
use Rattle.mg_device.specs.Growing.{NeverShrinks}
use Rattle.mg_engine_meaning_laws.specs.RefusalLaws.{AreCounted}
use Rattle.mg_pool.specs.Pool.{HasAtMost}

-- a disk that tells what a crash may leave tells what it holds
abbrev pub TellsHeld : {D : Type 0} → Meaning D → Type 0
TellsHeld {D} m = (disk : D) → m.tells disk ≡ true → (image : Image) × (m.held disk ≡ Some image) × MayLeave m disk image

-- where what a disk holds has no more pages than these, no image has that a crash might have left
abbrev pub LeavesHeld : {D : Type 0} → Meaning D → Type 0
LeavesHeld {D} m = (disk : D) (most : ℕ) → m.tells disk ≡ true
    → ((image : Image) → m.held disk ≡ Some image → length image ≤ most)
    → (t : ℕ) (c : Image) → m.left disk t c → length c ≤ most

pub leaves_held : {D : Type 0} (m : Meaning D) → NeverShrinks m → TellsHeld m → LeavesHeld m
leaves_held m shrinks held disk most told few t c left =
    let its = held disk told in
    let less = shrinks disk t c its.0 told left its.1 in
    let within = few its.0 its.1 in omega (arith, less, within)

-- nor has one where the disk has told that it has no more
abbrev pub LeavesWithin : {D : Type 0} → Meaning D → Type 0
LeavesWithin {D} m = (disk : D) (most : ℕ) → m.tells disk ≡ true → HasAtMost m disk most
    → (t : ℕ) (c : Image) → m.left disk t c → length c ≤ most

pub leaves_within : {D : Type 0} (m : Meaning D) → NeverShrinks m → TellsHeld m → AreCounted m → LeavesWithin m
leaves_within m shrinks held counted disk most told has = leaves_held m shrinks held disk most told
    (λ image is. let same = counted disk image has.0 is has.1 in let less = has.2 in omega (arith, same, less))
