-- Orphan pages are released: an image stays sound, and opening it gives what it gave.
use Rattle.std.specs.Prelude.{◌≡◌, ◌<◌, ℕ, Bool, true}
use Rattle.mg_base.specs.Image.{Image, page_at}
use Rattle.mg_base.specs.declared.geometry.TheConstants.{GREATEST_LIMIT}
use Rattle.mg_image.specs.Form.{Form, Pages}
use Rattle.mg_image.specs.Inventory.{is_used}
use Rattle.mg_image.specs.Opening.{IsOpened, Opened}
use Rattle.mg_image.specs.Reached.{IsReached}
use Rattle.mg_image.specs.Records.{Reading}
use Rattle.mg_image.specs.Sound.{IsSound}
use Rattle.mg_image.specs.Tables.{Layout}
use Rattle.mg_release.specs.Releasing.{Releases}

-- These pages are marked as used, and nothing reaches them: all such pages, or some of them.
abbrev pub MayGo : ℕ → Pages → Layout → (ℕ → Bool) → Type 0
MayGo size pages layout gone = (n : ℕ) → gone n ≡ true
    → (n < GREATEST_LIMIT) × (is_used size pages n ≡ true) × (IsReached size pages layout n → ⊥)

-- a sound image from which such pages are released is sound, by the same layout and the same records
abbrev pub SoundStays : Form → Type 0
SoundStays form = (size : ℕ) (old new : Image) (gone : ℕ → Bool) (layout : Layout) (r : Reading)
    → IsSound form size (page_at size old) layout r → MayGo size (page_at size old) layout gone
    → Releases size old new gone → IsSound form size (page_at size new) layout r

-- and opening it gives what it gave
abbrev pub OpenedStays : Form → Type 0
OpenedStays form = (size : ℕ) (old new : Image) (gone : ℕ → Bool) (opened : Opened)
    → (is : IsOpened form size (page_at size old) opened)
    → MayGo size (page_at size old) is.layout gone → Releases size old new gone
    → IsOpened form size (page_at size new) opened
