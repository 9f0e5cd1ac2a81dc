-- A batch is changed over the cache.
use Rattle.std.proofs.Common.{◌≡◌, ℕ, true, false, List, ◌∷◌, Option, Some}
use Rattle.mg_base.specs.Disk.{Meaning}
use Rattle.mg_base.specs.Image.{Image}
use Rattle.mg_careful.specs.CarefulWrite.{PageSet}
use Rattle.mg_careful.specs.declared.graph.Order.{Order}
use Rattle.mg_model.specs.declared.opening.Opening.{Opening}
use Rattle.mg_model.specs.History.{Entries, Entry}
use Rattle.mg_model.specs.Legal.{IsLegal, MayBegin, is_durable}
use Rattle.mg_model.specs.Machine.{next_number, state_of}
use Rattle.mg_image.specs.Form.{Form}
use Rattle.mg_image.specs.Inventory.{next_of}
use Rattle.mg_image_overlay_laws.specs.kept.KeptImages.{keeping}
use Rattle.mg_overlay_laws.specs.Overlays.{EveryOverlay}
use Rattle.mg_pool.specs.Change.{ChangesOverlays, ChangesPages}
use Rattle.mg_pool.specs.Pool.{LeavesOverlays, cache_of, shown}
use Rattle.mg_pool.specs.declared.pool.Pool.{Pool}
use Rattle.mg_pool_overlay_laws.specs.Needs.{Asked, Sessions, needs_by}
use Rattle.mg_lasting_laws.specs.Bits.{IsSettled}
use Rattle.mg_lasting_laws.specs.Crashes.{HoldsAcknowledged, LeavesSince, asked, may_last}
use Rattle.mg_lasting_laws.specs.Lasting.{LastsOn}
use Rattle.mg_lasting_laws.specs.Laws.{ArePoolBits}

-- What a crash left of a history it left of a longer one, too, where no durable event is among what is
-- added.
abbrev pub QuietHolds : Form → Type 0
QuietHolds form = (size : ℕ) (o : Opening) (h : Entries) (e : Entry) (image : Image)
    → is_durable e ≡ false → may_last e ≡ false → HoldsAcknowledged form size o h image
    → HoldsAcknowledged form size o (e ∷ h) image

-- A batch was changed over the cache, after which every overlay is as it has to be for a history that goes
-- on from the first, the bits of the pool's own image are right, and nobody has come to be settled.
pub record ChangesFor {D L : Type 0} (m : Meaning D) (form : Form) (o : Opening) (h later : Entries)
    (old new : Pool D L) (has_asked : Asked) (session : Sessions) : Type 0 where
  pub batch : ℕ → Option (List ℕ)
  pub orders : List Order
  pub frame : ChangesOverlays m batch orders old new
  pub leaves : LeavesOverlays m old new
  pub tells : m.tells new.disk ≡ true
  pub every : (i j : Image) (gone : PageSet) → m.held old.disk ≡ Some i → m.held new.disk ≡ Some j
      → ChangesPages old.dirty new.dirty old.graph new.graph i j gone batch orders
      → EveryOverlay (keeping form old.dirty.size o later) (state_of o later)
      (cache_of new.dirty new.graph j) (needs_by has_asked session new.dirty)
  pub settled : (t : ℕ) → IsSettled (state_of o later t) → state_of o later t ≡ state_of o h t
  pub bits : (j : Image) → m.held new.disk ≡ Some j
      → ArePoolBits old.dirty.size (shown new.dirty j) (state_of o later)
  pub next : (j : Image) → m.held new.disk ≡ Some j
      → next_of (shown new.dirty j) ≡ next_number o later
  pub none_asked : asked later ≡ later
  pub holds : (c : Image) → HoldsAcknowledged form old.dirty.size o h c
      → HoldsAcknowledged form old.dirty.size o later c

-- the cache lasts with it
abbrev pub ChangesLast : (D L : Type 0) → Meaning D → Form → Type 0
ChangesLast D L m form = (o : Opening) (h later : Entries) (old new : Pool D L)
    (has_asked now_asked : Asked) (session now_session : Sessions) → MayBegin o → IsLegal o h
    → m.tells old.disk ≡ true → LastsOn m form o h old has_asked session
    → ChangesFor m form o h later old new now_asked now_session
    → LastsOn m form o later new now_asked now_session
    × LeavesSince m old.disk new.disk (HoldsAcknowledged form old.dirty.size o h)
