-- A disk in memory holds whole pages, and so does each image that a crash might have left of it.
use Rattle.std.proofs.Common.{◌≡◌, ◌≢◌, ◌⊎◌, inl, inr, ◌<◌, ℕ, zero, suc, Bool, true, false, List, [], ◌∷◌, get_or, sym, ap, ◌∙◌, subst, arith, length}
use Rattle.std.specs.Prelude.{fold, take, if◌then◌else◌}
use Rattle.std.proofs.lemmas.Bool.{cases_eq}
use Rattle.std.proofs.lemmas.List.{length-replicate}
use Rattle.mg_base.specs.Acts.{Act, Leaves, Left, Settle, Write, acts_of, after_obeyed, image_of}
use Rattle.mg_base.specs.Image.{Image, page_at, page_at-written_other, page_at-written_same, written}
use Rattle.mg_base.specs.MemDisk.{acts_in, writes_of}
use Rattle.mg_base.specs.declared.mem_disk.MemDisk.{MemDisk}
use Rattle.mg_base.specs.declared.obeyed.Obeyed.{Obeyed}
use Rattle.mg_new_database_laws.specs.Soundness.{HasWholePages}

-- ---- acts

-- each page write is of a whole page
abbrev pub AreWhole : ℕ → List Act → Type 0
AreWhole size [] = Unit {0}
AreWhole size (Write n bytes ∷ acts) = (length bytes ≡ size) × AreWhole size acts
AreWhole size (Settle ∷ acts) = AreWhole size acts

pub written_whole : (size : ℕ) (image : Image) (n : ℕ) (bytes : List ℕ) → length bytes ≡ size → HasWholePages size image
    → HasWholePages size (written size image n bytes)
written_whole size image n bytes whole all k = at (cases_eq k n)
  where
    at : (k ≡ n) ⊎ (k ≢ n) → length (page_at size (written size image n bytes) k) ≡ size
    at (inl same) = ap (λ (j : ℕ). length (page_at size (written size image n bytes) j)) same
        ∙ (ap length (page_at-written_same size image n bytes) ∙ whole)
    at (inr other) = ap length (page_at-written_other size image n bytes k other) ∙ all k

image_whole : (size : ℕ) (acts : List Act) → AreWhole size acts → HasWholePages size (image_of size acts)
image_whole size [] whole = λ n. length-replicate {A = ℕ} size 0
image_whole size (Write n bytes ∷ acts) whole = written_whole size (image_of size acts) n bytes whole.0
    (image_whole size acts whole.1)
image_whole size (Settle ∷ acts) whole = image_whole size acts whole

leaves_whole : (size : ℕ) (acts : List Act) (c : Image) → AreWhole size acts → Leaves size acts c
    → HasWholePages size c
leaves_whole size [] c whole is = subst (HasWholePages size) (sym is) (image_whole size [] tt)
leaves_whole size (Write n bytes ∷ acts) c whole (inl before) = leaves_whole size acts c whole.1 before
leaves_whole size (Write n bytes ∷ acts) c whole (inr is) = subst (HasWholePages size) (sym is)
    (image_whole size (Write n bytes ∷ acts) whole)
leaves_whole size (Settle ∷ acts) c whole is = subst (HasWholePages size) (sym is) (image_whole size acts whole)

behind : (size : ℕ) (act : Act) (acts : List Act) → AreWhole size (act ∷ acts) → AreWhole size acts
behind size (Write n bytes) acts whole = whole.1
behind size Settle acts whole = whole

left_whole : (size : ℕ) (acts : List Act) (t : ℕ) (c : Image) → AreWhole size acts → Left size acts t c
    → HasWholePages size c
left_whole size [] t c whole now = leaves_whole size [] c whole now
left_whole size (act ∷ acts) t c whole (inl now) = leaves_whole size (act ∷ acts) c whole now
left_whole size (act ∷ acts) t c whole (inr (early, before)) = left_whole size acts t c (behind size act acts whole)
    before

-- ---- the record of a disk

abbrev EachWhole : ℕ → List Obeyed → Type 0
EachWhole size [] = Unit {0}
EachWhole size (e ∷ es) = (length e.bytes ≡ size) × EachWhole size es

each_taken : (size : ℕ) (es : List Obeyed) (n : ℕ)
    → ((k : ℕ) (d : Obeyed) → k < length es → length (get_or es k d).bytes ≡ size) → EachWhole size (take n es)
each_taken size [] zero whole = tt
each_taken size [] (suc n) whole = tt
each_taken size (e ∷ es) zero whole = tt
each_taken size (e ∷ es) (suc n) whole = (
  whole 0 e (omega arith),
  each_taken size es n (λ k d below. whole (suc k) d (omega (arith, below))),
)

obeyed_whole : (size : ℕ) (acts : List Act) (e : Obeyed) → length e.bytes ≡ size → AreWhole size acts
    → AreWhole size (after_obeyed acts e)
obeyed_whole size acts e whole all = (whole, at e.settled)
  where
    at : (b : Bool) → AreWhole size (if b then Settle ∷ acts else acts)
    at true = all
    at false = all

folded : (size : ℕ) (es : List Obeyed) (acts : List Act) → EachWhole size es → AreWhole size acts
    → AreWhole size (fold after_obeyed acts es)
folded size [] acts each all = all
folded size (e ∷ es) acts each all = folded size es (after_obeyed acts e) each.1
    (obeyed_whole size acts e each.0 all)

acts_whole : (size : ℕ) (es : List Obeyed) (settled : Bool) → EachWhole size es → AreWhole size (acts_of es settled)
acts_whole size es true each = folded size es [] each tt
acts_whole size es false each = folded size es [] each tt

-- ---- the disk

pub acts_are_whole : (disk : MemDisk) → AreWhole disk.size (acts_in disk)
acts_are_whole disk = acts_whole disk.size (writes_of disk) disk.settled
    (each_taken disk.size disk.obeyed.items disk.writes disk.kept.whole_entries)

pub crashes_whole : (disk : MemDisk) (t : ℕ) (c : Image) → Left disk.size (acts_in disk) t c
    → HasWholePages disk.size c
crashes_whole disk t c left = left_whole disk.size (acts_in disk) t c (acts_are_whole disk) left
