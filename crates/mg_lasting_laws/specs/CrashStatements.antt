-- What crashes leave of a cache that lasts with a history. The files `CrashLaws` and `PoolLaws` prove it.
use Rattle.std.proofs.Common.{◌≡◌, ℕ, Bool, true, false, ◌∷◌}
use Rattle.mg_base.specs.Disk.{MayLeave, Meaning}
use Rattle.mg_base.specs.Image.{Image, page_at}
use Rattle.mg_base.specs.Moments.{LeavesOnly}
use Rattle.mg_careful.specs.CarefulWrite.{Cache, IsClosed, PageSet, Pages, overlay}
use Rattle.mg_model.specs.declared.opening.Opening.{Opening}
use Rattle.mg_model.specs.History.{Entries, Entry}
use Rattle.mg_model.specs.Legal.{IsLegal, MayBegin, durable_count, is_durable, with_asked}
use Rattle.mg_image.specs.Form.{Form}
use Rattle.mg_pool.specs.Pool.{LeavesOverlays}
use Rattle.mg_pool.specs.Run.{HasWritten}
use Rattle.mg_pool.specs.declared.pool.Pool.{Pool}
use Rattle.mg_pool_overlay_laws.specs.Needs.{Asked, Sessions}
use Rattle.mg_lasting_laws.specs.Crashes.{HoldsAcknowledged, HoldsFrom, LeavesHistory, LeavesSince, asked, may_last}
use Rattle.mg_lasting_laws.specs.Lasting.{Lasts, LastsMidway, LastsOn}

-- an image has the pages of the overlay of a set
abbrev pub IsOverlaid : ℕ → Cache → PageSet → Image → Type 0
IsOverlaid size cache set_ image = (p : ℕ) → page_at size image p ≡ overlay cache set_ p

-- ---- images

-- the overlay of every closed set holds what outlasts a crash after the history's last durable event
abbrev pub OverlaysHold : Form → Type 0
OverlaysHold form = (size : ℕ) (o : Opening) (h : Entries) (cache : Cache) (has_asked : ℕ → Bool)
    (needs : ℕ → PageSet) (set_ : PageSet) (image : Image) → MayBegin o → IsLegal o h
    → Lasts form size o h cache has_asked needs → IsClosed cache set_
    → IsOverlaid size cache set_ image → HoldsFrom form size o h (durable_count h) image

-- in mid-commit it does so of the longer history, with the commit or without it
abbrev pub MidwayHolds : Form → Type 0
MidwayHolds form = (size : ℕ) (o : Opening) (h : Entries) (e : Entry) (page : ℕ) (before : Pages)
    (cache : Cache) (has_asked : ℕ → Bool) (needs : ℕ → PageSet) (set_ : PageSet) (image : Image)
    → MayBegin o → IsLegal o (e ∷ h)
    → LastsMidway form size o h e page before cache has_asked needs → IsClosed cache set_
    → IsOverlaid size cache set_ image → HoldsFrom form size o (e ∷ h) (durable_count h) image

-- ---- calls

-- an entry that is not durable, and does not end a durable event's call by a failed page write: what
-- crashes left before is what the call leaves
abbrev pub QuietLeaves : (D : Type 0) → Meaning D → Form → Type 0
QuietLeaves D m form = (size : ℕ) (o : Opening) (h : Entries) (e : Entry) (old new : D)
    → is_durable e ≡ false → may_last e ≡ false
    → LeavesSince m old new (HoldsAcknowledged form size o h)
    → LeavesHistory m old new form size o h (e ∷ h)

-- a durable event's call that ended in a failed page write: its bits may have reached the disk, or not
abbrev pub FailedLeaves : (D : Type 0) → Meaning D → Form → Type 0
FailedLeaves D m form = (size : ℕ) (o : Opening) (h : Entries) (e : Entry) (old new : D)
    → may_last e ≡ true
    → LeavesSince m old new (HoldsFrom form size o (with_asked h e.event) (durable_count h))
    → LeavesHistory m old new form size o h (e ∷ h)

-- a durable event that took effect, where no other is under way: its bits have reached the disk at the
-- end
abbrev pub DurableLeaves : (D : Type 0) → Meaning D → Form → Type 0
DurableLeaves D m form = (size : ℕ) (o : Opening) (h : Entries) (e : Entry) (old new : D)
    → may_last e ≡ false → asked h ≡ h
    → LeavesOnly m old new (HoldsFrom form size o (e ∷ h) (durable_count h))
    → ((c : Image) → MayLeave m new c → HoldsFrom form size o (e ∷ h) (durable_count (e ∷ h)) c)
    → LeavesHistory m old new form size o h (e ∷ h)

-- a call of the cache leaves what holds the history
abbrev pub PoolLeaves : (D L : Type 0) → Meaning D → Form → Type 0
PoolLeaves D L m form = (o : Opening) (h : Entries) (old new : Pool D L) (has_asked : Asked)
    (session : Sessions) → MayBegin o → IsLegal o h → m.tells old.disk ≡ true
    → m.tells new.disk ≡ true → LastsOn m form o h old has_asked session → LeavesOverlays m old new
    → LeavesSince m old.disk new.disk (HoldsAcknowledged form old.dirty.size o h)

-- page writes of the cache keep it lasting, and leave what holds the history
abbrev pub RunsLast : (D L : Type 0) → Meaning D → Form → Type 0
RunsLast D L m form = (o : Opening) (h : Entries) (old new : Pool D L) (has_asked : Asked)
    (session : Sessions) → MayBegin o → IsLegal o h → m.tells old.disk ≡ true → HasWritten m old new
    → LastsOn m form o h old has_asked session
    → LastsOn m form o h new has_asked session
    × LeavesSince m old.disk new.disk (HoldsAcknowledged form old.dirty.size o h)
