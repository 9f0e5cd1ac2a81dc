-- What becomes of a cache while a transaction's bits are changed and written. The file `CommitLaws` proves
-- it.
use Rattle.std.proofs.Common.{◌≡◌, ◌≢◌, ℕ, Bool, true, false, List, ◌∷◌, Option}
use Rattle.mg_base.specs.declared.transaction.TxState.TheVariants.{Active, Committed}
use Rattle.mg_careful.specs.CarefulWrite.{Cache, PageSet, Pages}
use Rattle.mg_careful.specs.Precedence.{Orders}
use Rattle.mg_model.specs.declared.opening.Opening.{Opening}
use Rattle.mg_model.specs.History.{Ends, Entries, Entry, effect_of}
use Rattle.mg_model.specs.Machine.{state_of}
use Rattle.mg_image.specs.Form.{Form}
use Rattle.mg_image_overlay_laws.specs.transactions.Bits.{ChangesTip}
use Rattle.mg_overlay_laws.specs.Overlays.{ChangesCache, KeepsNeeds, NeedsOrGone, WritesPages}
use Rattle.mg_image_overlay_laws.specs.pages.OnePage.{IsOnePage}
use Rattle.mg_image_overlay_laws.specs.transactions.Midway.{IsDrawnPlace}
use Rattle.mg_lasting_laws.specs.Lasting.{Lasts, LastsMidway}
use Rattle.mg_lasting_laws.specs.Laws.{AreNeeds, ArePoolBits}

-- The bits of a transaction that needs no page any more are changed to those of a committed one: its
-- inventory page is the batch, and the header goes before it.
abbrev pub CommitGoesMidway : Form → Type 0
CommitGoesMidway form = (size : ℕ) (o : Opening) (h : Entries) (e : Entry) (t : ℕ) (old new : Cache)
    (gone : PageSet) (batch : ℕ → Option (List ℕ)) (orders : Orders) (has_asked : ℕ → Bool)
    (needs later : ℕ → PageSet) (page place : ℕ) → ChangesCache old new gone batch orders
    → effect_of e ≡ Ends t Committed → state_of o h t ≡ Active → ((p : ℕ) → needs t p ≡ false)
    → KeepsNeeds old gone needs later
    -- the page, and its order
    → IsOnePage batch new.pool page → ChangesTip old.pool new.pool page place
    → IsDrawnPlace size old.pool page place → orders 0 page ≡ true → page ≢ 0
    → ArePoolBits size new.pool (state_of o (e ∷ h)) → AreNeeds new has_asked later
    → Lasts form size o h old has_asked needs
    → LastsMidway form size o h e page old.pool new has_asked later

-- page writes but for that page keep it so
abbrev pub MidwayWritesLast : Form → Type 0
MidwayWritesLast form = (size : ℕ) (o : Opening) (h : Entries) (e : Entry) (page : ℕ) (before : Pages)
    (old new : Cache) (gone : PageSet) (has_asked : ℕ → Bool) (needs later : ℕ → PageSet)
    → WritesPages old new gone → gone page ≡ false → NeedsOrGone gone needs later
    → AreNeeds new has_asked later
    → LastsMidway form size o h e page before old has_asked needs
    → LastsMidway form size o h e page before new has_asked later

-- and once that page is written the cache lasts with the history that has the commit
abbrev pub MidwayIsWritten : Form → Type 0
MidwayIsWritten form = (size : ℕ) (o : Opening) (h : Entries) (e : Entry) (page : ℕ) (before : Pages)
    (old new : Cache) (gone : PageSet) (has_asked : ℕ → Bool) (needs later : ℕ → PageSet)
    → WritesPages old new gone → gone page ≡ true → NeedsOrGone gone needs later
    → AreNeeds new has_asked later
    → LastsMidway form size o h e page before old has_asked needs
    → Lasts form size o (e ∷ h) new has_asked later
