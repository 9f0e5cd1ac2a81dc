-- What a disk in memory was asked to do, the newest act first, and what that means.
use Rattle.std.specs.Prelude.{◌≡◌, ◌⊎◌, ℕ, ◌≤◌, Bool, true, false, List, [], ◌∷◌, ◌++◌, length, fold, Some, if◌then◌else◌}
use Rattle.std.proofs.Common.{refl, inl, inr, arith, ap, sym}
use Rattle.std.proofs.lemmas.List.Sums.{fold_push}
use Rattle.mg_base.specs.Image.{Image, written}
use Rattle.mg_base.specs.declared.obeyed.Obeyed.{Obeyed}

pub data Act : Type 0 where
  Write : ℕ → List ℕ → Act
  Settle : Act

-- what the disk holds after these acts
abbrev pub image_of : ℕ → List Act → Image
image_of size [] = []
image_of size (Write n bytes ∷ acts) = written size (image_of size acts) n bytes
image_of size (Settle ∷ acts) = image_of size acts

-- what a crash may leave: a write is whole or absent, writes reach the disk in their order, and what was settled stays
abbrev pub Leaves : ℕ → List Act → Image → Type 0
Leaves size [] c = c ≡ []
Leaves size (Write n bytes ∷ acts) c = Leaves size acts c ⊎ (c ≡ written size (image_of size acts) n bytes)
Leaves size (Settle ∷ acts) c = c ≡ image_of size acts

-- what a crash at a moment or later might have left; the moment is the number of acts
abbrev pub Left : ℕ → List Act → ℕ → Image → Type 0
Left size [] t c = Leaves size [] c
Left size (act ∷ acts) t c = Leaves size (act ∷ acts) c ⊎ ((t ≤ length acts) × Left size acts t c)

-- the acts after one more page write of the record
abbrev pub after_obeyed : List Act → Obeyed → List Act
after_obeyed acts e = Write e.page e.bytes ∷ (if e.settled then Settle ∷ acts else acts)

-- the acts of a record, the oldest write first, and of a settle after the last of them
abbrev pub acts_of : List Obeyed → Bool → List Act
acts_of es true = Settle ∷ fold after_obeyed [] es
acts_of es false = fold after_obeyed [] es

-- Laws of the acts.

pub leaves_held : (size : ℕ) (acts : List Act) → Leaves size acts (image_of size acts)
leaves_held size [] = refl
leaves_held size (Write n bytes ∷ acts) = inr refl
leaves_held size (Settle ∷ acts) = refl

pub leaves_left : (size : ℕ) (acts : List Act) (c : Image) → Left size acts (length acts) c → Leaves size acts c
leaves_left size [] c left = left
leaves_left size (act ∷ acts) c (inl now) = now
leaves_left size (act ∷ acts) c (inr (le, _)) = absurd (omega arith)

pub left_leaves : (size : ℕ) (acts : List Act) (t : ℕ) (c : Image) → Leaves size acts c → Left size acts t c
left_leaves size [] t c now = now
left_leaves size (act ∷ acts) t c now = inl now

-- time as it goes on over a list of acts
pub record Times (size : ℕ) (old new : List Act) : Type 0 where
  pub later : length old ≤ length new
  pub nothing_else : (t : ℕ) (c : Image) → t ≤ length old → Left size new t c → Left size old t c ⊎ Left size new (length new) c
  pub keeps : (t : ℕ) (c : Image) → t ≤ length old → Left size old t c → Left size new t c

pub times_one : (size : ℕ) (old : List Act) (act : Act) → Times size old (act ∷ old)
times_one size old act = record { later = omega arith; nothing_else = λ t c le left. other t c le left; keeps = λ t c le left. inr (le, left) }
  where
    other : (t : ℕ) (c : Image) → t ≤ length old → Left size (act ∷ old) t c → Left size old t c ⊎ Left size (act ∷ old) (length (act ∷ old)) c
    other t c le (inl now) = inr (inl now)
    other t c le (inr past) = inl past.1

pub times_none : (size : ℕ) (old : List Act) → Times size old old
times_none size old = record { later = omega arith; nothing_else = λ t c le left. inl left; keeps = λ t c le left. left }

-- a settle, also after a settle
pub times_settle : (size : ℕ) (es : List Obeyed) (settled : Bool) → Times size (acts_of es settled) (acts_of es true)
times_settle size es true = times_none size (acts_of es true)
times_settle size es false = times_one size (acts_of es false) Settle

pub crash_settle : (size : ℕ) (es : List Obeyed) (settled : Bool) (c : Image) → Left size (acts_of es true) (length (acts_of es true)) c → Left size (acts_of es settled) (length (acts_of es settled)) c
crash_settle size es true c left = left
crash_settle size es false c left =
    let old : List Act = fold after_obeyed [] es in
    let is : c ≡ image_of size old = leaves_left size (Settle ∷ old) c left in
    rw is (left_leaves size old (length old) (image_of size old) (leaves_held size old))

pub held_settle : (size : ℕ) (es : List Obeyed) (settled : Bool) → image_of size (acts_of es true) ≡ image_of size (acts_of es settled)
held_settle size es true = refl
held_settle size es false = refl

-- one page write more in the record
pub acts_more : (es : List Obeyed) (settled : Bool) (n : ℕ) (bytes : List ℕ) → acts_of (es ++ record { page = n; settled = settled; bytes = bytes } ∷ []) false ≡ Write n bytes ∷ acts_of es settled
acts_more es true n bytes = fold_push after_obeyed [] es _
acts_more es false n bytes = fold_push after_obeyed [] es _

pub times_write : (size : ℕ) (old new : List Act) (n : ℕ) (bytes : List ℕ) → new ≡ Write n bytes ∷ old → Times size old new
times_write size old new n bytes is = rw is (times_one size old (Write n bytes))

pub crash_write : (size : ℕ) (old new : List Act) (n : ℕ) (bytes : List ℕ) → new ≡ Write n bytes ∷ old → (c : Image) → Left size new (length new) c → Left size old (length old) c ⊎ (Some (image_of size new) ≡ Some c)
crash_write size old new n bytes is = rw is at
  where
    split : (c : Image) → Leaves size (Write n bytes ∷ old) c → Left size old (length old) c ⊎ (Some (image_of size (Write n bytes ∷ old)) ≡ Some c)
    split c (inl before) = inl (left_leaves size old (length old) c before)
    split c (inr now) = inr (ap Some (sym now))

    at : (c : Image) → Left size (Write n bytes ∷ old) (length (Write n bytes ∷ old)) c → Left size old (length old) c ⊎ (Some (image_of size (Write n bytes ∷ old)) ≡ Some c)
    at c left = split c (leaves_left size (Write n bytes ∷ old) c left)
