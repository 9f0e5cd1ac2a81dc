-- What the cache of an engine is to be, so that every crash leaves the history.
use Rattle.std.specs.Prelude.{◌≡◌, ℕ, Bool, true, false, ◌∷◌, Option, None, Some}
use Rattle.mg_base.specs.Disk.{MayLeave, Meaning}
use Rattle.mg_base.specs.Image.{Image}
use Rattle.mg_careful.specs.CarefulWrite.{Cache, Pages, PageSet}
use Rattle.mg_model.specs.declared.opening.Opening.{Opening}
use Rattle.mg_model.specs.History.{Entries, Entry}
use Rattle.mg_model.specs.Machine.{next_number, state_of}
use Rattle.mg_image.specs.Form.{Form}
use Rattle.mg_image.specs.Inventory.{next_of}
use Rattle.mg_overlay_laws.specs.Overlays.{EveryOverlay, IsCleanAsDisk, NeedsAllDirty}
use Rattle.mg_image_overlay_laws.specs.kept.HoldLaws.{AreBits}
use Rattle.mg_image_overlay_laws.specs.kept.KeptImages.{keeping}
use Rattle.mg_image_overlay_laws.specs.transactions.Midway.{AreBitsMidway, EveryMidway}
use Rattle.mg_pool.specs.Pool.{cache_of}
use Rattle.mg_pool.specs.declared.pool.Pool.{Pool}
use Rattle.mg_pool_overlay_laws.specs.Needs.{Asked, Sessions, needs_by}
use Rattle.mg_lasting_laws.specs.Crashes.{HoldsAcknowledged, asked}

-- A cache lasts with a history: the overlay of every closed set is as it has to be, whichever active
-- transactions count as in limbo whose pages it has, and its bits say what becomes of each where nobody
-- is chosen. `needs` are the pages that a transaction needs for its commit: all dirty ones, where it has
-- not asked for it.
pub record Lasts (form : Form) (size : ℕ) (o : Opening) (h : Entries) (cache : Cache)
    (has_asked : ℕ → Bool) (needs : ℕ → PageSet) : Type 0 where
  pub every : EveryOverlay (keeping form size o h) (state_of o h) cache needs
  pub bits : AreBits size (state_of o h) cache
  pub next : next_of cache.pool ≡ next_number o h
  pub clean : IsCleanAsDisk cache
  pub dirty : (t p : ℕ) → needs t p ≡ true → cache.dirty p ≡ true
  pub all : (t : ℕ) → has_asked t ≡ false → NeedsAllDirty cache needs t

-- The same in mid-commit: the bits of an entry's transaction are changed on a page, which is not written
-- yet; `before` are the pages from before.
pub record LastsMidway (form : Form) (size : ℕ) (o : Opening) (h : Entries) (e : Entry) (page : ℕ)
    (before : Pages) (cache : Cache) (has_asked : ℕ → Bool) (needs : ℕ → PageSet) : Type 0 where
  pub every : EveryMidway (keeping form size o h) (keeping form size o (e ∷ h)) page before
      (state_of o h) (state_of o (e ∷ h)) cache needs
  pub bits : AreBitsMidway size page (state_of o h) (state_of o (e ∷ h)) cache
  pub next : next_of cache.pool ≡ next_number o (e ∷ h)
  pub clean : IsCleanAsDisk cache
  pub dirty : (t p : ℕ) → needs t p ≡ true → cache.dirty p ≡ true
  pub all : (t : ℕ) → has_asked t ≡ false → NeedsAllDirty cache needs t

-- The cache over a disk that tells its images lasts with a history, of which no durable event is under
-- way, and each image that a crash now may leave holds it.
pub record LastsOn {D L : Type 0} (m : Meaning D) (form : Form) (o : Opening) (h : Entries)
    (pool : Pool D L) (has_asked : Asked) (session : Sessions) : Type 0 where
  pub image : Image
  pub held : m.held pool.disk ≡ Some image
  pub lasts : Lasts form pool.dirty.size o h (cache_of pool.dirty pool.graph image) has_asked
      (needs_by has_asked session pool.dirty)
  pub settled : asked h ≡ h
  pub left : (c : Image) → MayLeave m pool.disk c
      → HoldsAcknowledged form pool.dirty.size o h c

-- once a page write has failed, this alone is said of it
abbrev pub LeftOn : {D L : Type 0} → Meaning D → Form → Opening → Entries → Pool D L → Type 0
LeftOn m form o h pool = (c : Image) → MayLeave m pool.disk c
    → HoldsAcknowledged form pool.dirty.size o h c

abbrev pub LastsWhile : {D L : Type 0} → Meaning D → Form → Opening → Entries → Pool D L → Asked
    → Sessions → Option ℕ → Type 0
LastsWhile m form o h pool has_asked session None = LastsOn m form o h pool has_asked session
LastsWhile m form o h pool has_asked session (Some faults) = LeftOn m form o h pool

-- an engine's cache lasts with a history, where its disk tells the images
abbrev pub LastsIfTold : {D L : Type 0} → Meaning D → Form → Opening → Entries → Pool D L → Asked
    → Sessions → Type 0
LastsIfTold m form o h pool has_asked session = m.tells pool.disk ≡ true
    → LastsWhile m form o h pool has_asked session pool.offline
