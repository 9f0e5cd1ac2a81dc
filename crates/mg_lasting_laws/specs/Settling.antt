-- The end of a commit over the cache: its bits are changed, written and settled.
use Rattle.std.proofs.Common.{◌≡◌, ℕ, true, false, ◌∷◌, Some}
use Rattle.mg_base.specs.Disk.{MayLeave, Meaning}
use Rattle.mg_base.specs.Image.{Image}
use Rattle.mg_careful.specs.CarefulWrite.{Pages}
use Rattle.mg_model.specs.declared.opening.Opening.{Opening}
use Rattle.mg_model.specs.History.{Entries, Entry}
use Rattle.mg_model.specs.Legal.{IsLegal, MayBegin, is_durable}
use Rattle.mg_image.specs.Form.{Form}
use Rattle.mg_pool.specs.Dirty.{is_dirty}
use Rattle.mg_pool.specs.Pool.{KeepsContent, LeavesOverlays, cache_of}
use Rattle.mg_pool.specs.Run.{HasWritten}
use Rattle.mg_pool.specs.declared.pool.Pool.{Pool}
use Rattle.mg_pool_overlay_laws.specs.Needs.{Asked, Sessions, needs_by}
use Rattle.mg_lasting_laws.specs.Crashes.{LeavesHistory, may_last}
use Rattle.mg_lasting_laws.specs.Lasting.{LastsMidway, LastsOn}

-- The bits of an entry's transaction were changed on a page, which lasts midway; then pages were written,
-- that one among them; and the disk was settled.
pub record SettlesBits {D L : Type 0} (m : Meaning D) (form : Form) (o : Opening) (h : Entries)
    (e : Entry) (old after : Pool D L) (has_asked : Asked) (session : Sessions) : Type 0 where
  pub changed : Pool D L
  pub written : Pool D L
  pub page : ℕ
  pub before : Pages
  -- the change
  pub change_leaves : LeavesOverlays m old changed
  pub tells : m.tells changed.disk ≡ true
  pub size : changed.dirty.size ≡ old.dirty.size
  pub midway : (image : Image) → m.held changed.disk ≡ Some image
      → LastsMidway form changed.dirty.size o h e page before
      (cache_of changed.dirty changed.graph image) has_asked
      (needs_by has_asked session changed.dirty)
  -- the page writes
  pub run : HasWritten m changed written
  pub was_dirty : is_dirty changed.dirty page ≡ true
  pub out : is_dirty written.dirty page ≡ false
  -- the settling
  pub settles : KeepsContent m written.disk after.disk
  pub dirty_same : after.dirty ≡ written.dirty
  pub graph_same : after.graph ≡ written.graph
  pub durable : (image : Image) → MayLeave m after.disk image → m.held after.disk ≡ Some image

-- then the cache lasts with the history that has the commit, and each crash left it or the one before
abbrev pub SettlingLasts : (D L : Type 0) → Meaning D → Form → Type 0
SettlingLasts D L m form = (o : Opening) (h : Entries) (e : Entry) (old after : Pool D L)
    (has_asked : Asked) (session : Sessions) → MayBegin o → IsLegal o (e ∷ h)
    → is_durable e ≡ true → may_last e ≡ false → m.tells old.disk ≡ true
    → LastsOn m form o h old has_asked session
    → SettlesBits m form o h e old after has_asked session
    → LastsOn m form o (e ∷ h) after has_asked session
    × LeavesHistory m old.disk after.disk form old.dirty.size o h (e ∷ h)
