-- A batch that calls have filled is changed over the cache of an engine: its cache lasts with the history.
use Rattle.std.specs.Prelude.{◌≡◌, ℕ, true, false, ◌∷◌, Some}
use Rattle.mg_base.specs.Disk.{Meaning}
use Rattle.mg_base.specs.Image.{Image}
use Rattle.mg_careful.specs.CarefulWrite.{Cache, PageSet}
use Rattle.mg_model.specs.declared.opening.Opening.{Opening}
use Rattle.mg_model.specs.History.{Entries, Entry}
use Rattle.mg_model.specs.Legal.{IsLegal, MayBegin, is_durable}
use Rattle.mg_model.specs.Machine.{next_number, state_of}
use Rattle.mg_image.specs.Form.{Form}
use Rattle.mg_image.specs.Inventory.{next_of}
use Rattle.mg_pool.specs.Batch.{Changed, content_in}
use Rattle.mg_pool.specs.Change.{ChangesOverlays}
use Rattle.mg_pool.specs.Pool.{IsPool, LeavesOverlays, shown}
use Rattle.mg_pool.specs.declared.pool.Pool.{Pool}
use Rattle.mg_pool_overlay_laws.specs.Needs.{Asked, Sessions}
use Rattle.mg_space.specs.View.{KeepsStore, Tells}
use Rattle.mg_tie_laws.specs.Changed.{ChangesFresh, KeptIn}
use Rattle.mg_image_overlay_laws.specs.pages.DataKept.{KeepsBits}
use Rattle.mg_lasting_laws.specs.Bits.{IsSettled}
use Rattle.mg_lasting_laws.specs.Crashes.{HoldsAcknowledged, LeavesSince, asked, may_last}
use Rattle.mg_lasting_laws.specs.Lasting.{Lasts, LastsOn}
use Rattle.mg_lasting_laws.specs.Laws.{ArePoolBits}

-- ---- bits

-- the bits of the pool's own image say what becomes of each transaction where nobody is chosen, as those of
-- every overlay do
abbrev pub PoolBitsAre : Form → Type 0
PoolBitsAre form = (size : ℕ) (o : Opening) (h : Entries) (cache : Cache) (has_asked : Asked)
    (needs : ℕ → PageSet) → Lasts form size o h cache has_asked needs
    → ArePoolBits size cache.pool (state_of o h)

-- ---- calls that only read

-- a cache that was only read lasts as it did, and crashes leave what they left
abbrev pub ReadsLast : (D L : Type 0) → Meaning D → Form → Type 0
ReadsLast D L m form = (o : Opening) (h : Entries) (old new : Pool D L) (has_asked : Asked)
    (session : Sessions) → MayBegin o → IsLegal o h → m.tells old.disk ≡ true → KeepsStore m old new
    → LastsOn m form o h old has_asked session
    → LastsOn m form o h new has_asked session
    × LeavesSince m old.disk new.disk (HoldsAcknowledged form old.dirty.size o h)

-- ---- a batch

-- Pages were read, and then a batch was changed over the cache, after which every overlay is as it has to be
-- for a later history, and nobody has come to be settled.
pub record ChangesTo {D L : Type 0} (m : Meaning D) (form : Form) (o : Opening) (h later : Entries)
    (before after : Pool D L) (i j : Image) (batch : Changed) (now_asked : Asked)
    (now_session : Sessions) : Type 0 where
  pub ready : Pool D L
  pub keeps : KeepsStore m before ready
  pub frame : ChangesOverlays m (content_in batch.pages) batch.orders ready after
  pub crash : LeavesOverlays m ready after
  pub told : Tells m before.disk i
  pub tells : m.tells after.disk ≡ true
  pub held : m.held after.disk ≡ Some j
  pub kept : KeptIn form before.dirty.size o later (state_of o later) now_asked now_session after j
  pub settled : (t : ℕ) → IsSettled (state_of o later t) → state_of o later t ≡ state_of o h t
  pub bits : ArePoolBits before.dirty.size (shown after.dirty j) (state_of o later)
  pub next : next_of (shown after.dirty j) ≡ next_number o later
  pub none_asked : asked later ≡ later
  pub holds : (c : Image) → HoldsAcknowledged form before.dirty.size o h c
      → HoldsAcknowledged form before.dirty.size o later c

-- the cache lasts with the later history, and each image that a crash since then might have left holds the
-- one before
abbrev pub BatchesLast : (D L : Type 0) → Meaning D → Form → Type 0
BatchesLast D L m form = (o : Opening) (h later : Entries) (before after : Pool D L) (i j : Image)
    (batch : Changed) (has_asked now_asked : Asked) (session now_session : Sessions) → MayBegin o
    → IsLegal o h → LastsOn m form o h before has_asked session
    → ChangesTo m form o h later before after i j batch now_asked now_session
    → LastsOn m form o later after now_asked now_session
    × LeavesSince m before.disk after.disk (HoldsAcknowledged form before.dirty.size o h)

-- ---- a row

-- A row of a call was changed in a batch of its own, which leaves the bits of all transactions: what is known
-- of the cache, and that every overlay is kept, for a history with the entry that the call adds, if it adds
-- one.
pub record ChangesRow {D L : Type 0} (m : Meaning D) (form : Form) (o : Opening) (h later : Entries)
    (before after : Pool D L) (i j : Image) (batch : Changed) (has_asked : Asked)
    (session : Sessions) : Type 0 where
  pub pool : IsPool m before
  pub changes : ChangesFresh m before after i j batch
  pub crash : LeavesOverlays m changes.ready after
  pub tells : m.tells after.disk ≡ true
  pub bits : KeepsBits before.geometry.size (shown before.dirty i) (shown after.dirty j)
  pub kept : KeptIn form before.geometry.size o later (state_of o h) has_asked session after j

-- an entry leaves all states and the next number, and is of no durable event
pub record LeavesStates (o : Opening) (h : Entries) (e : Entry) : Type 0 where
  pub states : (t : ℕ) → state_of o (e ∷ h) t ≡ state_of o h t
  pub next : next_number o (e ∷ h) ≡ next_number o h
  pub quiet : is_durable e ≡ false
  pub no_failure : may_last e ≡ false

-- a call that adds an entry
abbrev pub RowsLast : (D L : Type 0) → Meaning D → Form → Type 0
RowsLast D L m form = (o : Opening) (h : Entries) (e : Entry) (before after : Pool D L)
    (i j : Image) (batch : Changed) (has_asked : Asked) (session : Sessions) → MayBegin o
    → IsLegal o h → LeavesStates o h e → LastsOn m form o h before has_asked session
    → ChangesRow m form o h (e ∷ h) before after i j batch has_asked session
    → LastsOn m form o (e ∷ h) after has_asked session
    × LeavesSince m before.disk after.disk (HoldsAcknowledged form before.dirty.size o h)

-- and one that adds none
abbrev pub RowsLastStill : (D L : Type 0) → Meaning D → Form → Type 0
RowsLastStill D L m form = (o : Opening) (h : Entries) (before after : Pool D L) (i j : Image)
    (batch : Changed) (has_asked : Asked) (session : Sessions) → MayBegin o → IsLegal o h
    → LastsOn m form o h before has_asked session
    → ChangesRow m form o h h before after i j batch has_asked session
    → LastsOn m form o h after has_asked session
    × LeavesSince m before.disk after.disk (HoldsAcknowledged form before.dirty.size o h)
