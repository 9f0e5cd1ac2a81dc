-- What acts on a device in memory mean, the newest act first, where page writes reach it in any order until a sync.
use Rattle.std.specs.Prelude.{◌≡◌, ◌⊎◌, ℕ, ◌+◌, ◌≤◌, ◌<◌, ◌++◌, max, zero, suc, Bool, true, false, List, [], ◌∷◌, length, fold, if◌then◌else◌}
use Rattle.std.proofs.Common.{refl, inl, inr, arith, get_or}
use Rattle.mg_base.specs.Image.{Image, length-written}
use Rattle.mg_base.specs.Acts.{Act, Write, Settle, acts_of, after_obeyed, image_of}
use Rattle.mg_base.specs.declared.obeyed.Obeyed.{Obeyed}
use Rattle.mg_device.specs.Device.{PageWrite, Reaches, after_write, after_writes, first, none}

-- the page writes since the last sync, the newest first
abbrev pub pending_in : List Act → List PageWrite
pending_in [] = []
pending_in (Write n bytes ∷ acts) = record { page = n; bytes = bytes } ∷ pending_in acts
pending_in (Settle ∷ acts) = []

-- what was held at the last sync
abbrev pub synced_in : List Act → Image
synced_in [] = []
synced_in (Write n bytes ∷ acts) = synced_in acts
synced_in (Settle ∷ acts) = after_writes (synced_in acts) (pending_in acts)

-- what a crash at a moment or later might have left; the moment is the number of acts
abbrev pub LeftUnordered : List Act → ℕ → Image → Type 0
LeftUnordered [] t c = Reaches [] [] c
LeftUnordered (act ∷ acts) t c = Reaches (synced_in (act ∷ acts)) (pending_in (act ∷ acts)) c ⊎ ((t ≤ length acts) × LeftUnordered acts t c)

-- Laws of the acts.

pub unordered_now : (acts : List Act) (t : ℕ) (c : Image) → Reaches (synced_in acts) (pending_in acts) c → LeftUnordered acts t c
unordered_now [] t c now = now
unordered_now (act ∷ acts) t c now = inl now

pub unordered_leaves : (acts : List Act) (c : Image) → LeftUnordered acts (length acts) c → Reaches (synced_in acts) (pending_in acts) c
unordered_leaves [] c left = left
unordered_leaves (act ∷ acts) c (inl now) = now
unordered_leaves (act ∷ acts) c (inr (le, _)) = absurd (omega arith)

-- No page goes: what some of the page writes leave, and what a crash at an earlier moment might have left, has no more pages
-- than all of them leave.

-- up to which page the page writes go
abbrev top : List PageWrite → ℕ
top [] = 0
top (w ∷ ws) = max (top ws) (w.page + 1)

top_append : (before after : List PageWrite) → top (before ++ after) ≡ max (top before) (top after)
top_append [] after = omega arith
top_append (w ∷ before) after = omega (arith, top_append before after)

length_after : (image : Image) (ws : List PageWrite) → length (after_writes image ws) ≡ max (length image) (top ws)
length_after image [] = omega arith
length_after image (w ∷ ws) =
    omega (arith, length_after image ws, length-written (length w.bytes) (after_writes image ws) w.page w.bytes)

reaches_top : (image : Image) (ws : List PageWrite) (c : Image) → Reaches image ws c → length c ≤ max (length image) (top ws)
reaches_top image ws c none = omega arith
reaches_top image ws c (first i before w after d reaches) =
    omega (
      arith,
      reaches_top (after_write i w) (before ++ after) d reaches,
      length-written (length w.bytes) i w.page w.bytes,
      top_append before after,
      top_append before (w ∷ after),
    )

pub reaches_few : (image : Image) (ws : List PageWrite) (c : Image) → Reaches image ws c → length c ≤ length (after_writes image ws)
reaches_few image ws c reaches = omega (arith, reaches_top image ws c reaches, length_after image ws)

pub unordered_few : (acts : List Act) (t : ℕ) (c : Image) → LeftUnordered acts t c
    → length c ≤ length (after_writes (synced_in acts) (pending_in acts))
unordered_few [] t c left = reaches_few [] [] c left
unordered_few (act ∷ acts) t c (inl now) = reaches_few (synced_in (act ∷ acts)) (pending_in (act ∷ acts)) c now
unordered_few (Write n bytes ∷ acts) t c (inr (le, past)) =
    omega (arith, unordered_few acts t c past, length-written (length bytes) (after_writes (synced_in acts) (pending_in acts)) n bytes)
unordered_few (Settle ∷ acts) t c (inr (le, past)) = unordered_few acts t c past

-- time as it goes on over a list of acts
pub record TimesUnordered (old new : List Act) : Type 0 where
  pub later : length old ≤ length new
  pub nothing_else : (t : ℕ) (c : Image) → t ≤ length old → LeftUnordered new t c → LeftUnordered old t c ⊎ LeftUnordered new (length new) c
  pub keeps : (t : ℕ) (c : Image) → t ≤ length old → LeftUnordered old t c → LeftUnordered new t c

pub unordered_one : (old : List Act) (act : Act) → TimesUnordered old (act ∷ old)
unordered_one old act = record { later = omega arith; nothing_else = λ t c le left. other t c left; keeps = λ t c le left. inr (le, left) }
  where
    other : (t : ℕ) (c : Image) → LeftUnordered (act ∷ old) t c → LeftUnordered old t c ⊎ LeftUnordered (act ∷ old) (length (act ∷ old)) c
    other t c (inl now) = inr (inl now)
    other t c (inr past) = inl past.1

pub unordered_none : (old : List Act) → TimesUnordered old old
unordered_none old = record { later = omega arith; nothing_else = λ t c le left. inl left; keeps = λ t c le left. left }

-- a sync, also after a sync
pub unordered_sync : (es : List Obeyed) (settled : Bool) → TimesUnordered (acts_of es settled) (acts_of es true)
unordered_sync es true = unordered_none (acts_of es true)
unordered_sync es false = unordered_one (acts_of es false) Settle

pub synced_sync : (es : List Obeyed) (settled : Bool) → synced_in (acts_of es true) ≡ after_writes (synced_in (acts_of es settled)) (pending_in (acts_of es settled))
synced_sync es true = refl
synced_sync es false = refl

-- Where each page write is one page long, what a disk in memory holds is what was synced with what is pending.

abbrev IsThrough : ℕ → List Act → Type 0
IsThrough size acts = image_of size acts ≡ after_writes (synced_in acts) (pending_in acts)

through_one : (size : ℕ) (acts : List Act) (e : Obeyed) → length e.bytes ≡ size → IsThrough size acts → IsThrough size (after_obeyed acts e)
through_one size acts e whole through = at e.settled
  where
    at : (flag : Bool) → IsThrough size (Write e.page e.bytes ∷ (if flag then Settle ∷ acts else acts))
    at true = rw (whole, through) refl
    at false = rw (whole, through) refl

through_fold : (size : ℕ) (acts : List Act) (es : List Obeyed) → ((k : ℕ) (d : Obeyed) → k < length es → length (get_or es k d).bytes ≡ size)
    → IsThrough size acts → IsThrough size (fold after_obeyed acts es)
through_fold size acts [] whole through = through
through_fold size acts (e ∷ es) whole through =
    through_fold size (after_obeyed acts e) es (λ k d below. whole (suc k) d (omega (arith, below))) (through_one size acts e (whole zero e (omega arith)) through)

pub through_acts : (size : ℕ) (es : List Obeyed) (settled : Bool) → ((k : ℕ) (d : Obeyed) → k < length es → length (get_or es k d).bytes ≡ size)
    → image_of size (acts_of es settled) ≡ after_writes (synced_in (acts_of es settled)) (pending_in (acts_of es settled))
through_acts size es true whole = through_fold size [] es whole refl
through_acts size es false whole = through_fold size [] es whole refl
