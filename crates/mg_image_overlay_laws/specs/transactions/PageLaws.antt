-- The laws of bits in overlays, for a form. The file `MidwayLaws` proves them.
use Rattle.std.proofs.Common.{◌≡◌, ◌⊎◌, ℕ, true, false, List, ◌∷◌, Option}
use Rattle.mg_base.specs.declared.transaction.TxState.{TxState}
use Rattle.mg_base.specs.declared.transaction.TxState.TheVariants.{Active, Committed}
use Rattle.mg_careful.specs.CarefulWrite.{Cache, IsClosed, PageSet, Pages, overlay}
use Rattle.mg_careful.specs.Precedence.{Orders}
use Rattle.mg_model.specs.declared.opening.Opening.{Opening}
use Rattle.mg_model.specs.History.{Entries, Entry}
use Rattle.mg_model.specs.Legal.{IsLegal, MayBegin}
use Rattle.mg_model.specs.Machine.{state_of}
use Rattle.mg_image.specs.Form.{Form}
use Rattle.mg_image_overlay_laws.specs.transactions.Bits.{ChangesTip}
use Rattle.mg_image_overlay_laws.specs.transactions.CommitLaws.{BringsChanges}
use Rattle.mg_image_overlay_laws.specs.kept.HoldLaws.{HoldsAll}
use Rattle.mg_image_overlay_laws.specs.kept.KeptImages.{keeping}
use Rattle.mg_overlay_laws.specs.Overlays.{ChangesCache, EveryOverlay, KeepsNeeds, NeedsOrGone, OthersStay, WritesPages}
use Rattle.mg_image_overlay_laws.specs.pages.OnePage.{IsOnePage}
use Rattle.mg_image_overlay_laws.specs.transactions.Midway.{AreBitsMidway, EveryMidway, IsDrawnPlace}

-- The bits of a transaction are changed to those of a committed one, which needs no page any more: its
-- inventory page is the batch, and the header goes before it.
abbrev pub CommitChanges : Form → Type 0
CommitChanges form = (size : ℕ) (o : Opening) (h : Entries) (e : Entry) (state now : ℕ → TxState)
    (t : ℕ) (old new : Cache) (gone : PageSet) (batch : ℕ → Option (List ℕ)) (orders : Orders)
    (needs later : ℕ → PageSet) (page place : ℕ)
    → ChangesCache old new gone batch orders → state t ≡ Active → now t ≡ Committed
    → OthersStay state now t → ((p : ℕ) → needs t p ≡ false) → KeepsNeeds old gone needs later
    → BringsChanges o h e t
    -- the page, and its order
    → IsOnePage batch new.pool page → ChangesTip old.pool new.pool page place
    → IsDrawnPlace size old.pool page place → orders 0 page ≡ true
    → EveryOverlay (keeping form size o h) state old needs
    → EveryMidway (keeping form size o h) (keeping form size o (e ∷ h)) page old.pool state now new later

-- page writes but for that page keep it
abbrev pub MidwayWritesAll : Form → Type 0
MidwayWritesAll form = (size : ℕ) (o : Opening) (h : Entries) (e : Entry) (state now : ℕ → TxState)
    (page : ℕ) (before : Pages) (old new : Cache) (gone : PageSet) (needs later : ℕ → PageSet)
    → WritesPages old new gone → NeedsOrGone gone needs later → gone page ≡ false
    → EveryMidway (keeping form size o h) (keeping form size o (e ∷ h)) page before state now old needs
    → EveryMidway (keeping form size o h) (keeping form size o (e ∷ h)) page before state now new later

-- and once it is written every overlay is as it has to be afterwards
abbrev pub MidwayWrittenAll : Form → Type 0
MidwayWrittenAll form = (size : ℕ) (o : Opening) (h : Entries) (e : Entry) (state now : ℕ → TxState)
    (page : ℕ) (before : Pages) (old new : Cache) (gone : PageSet) (needs later : ℕ → PageSet)
    → WritesPages old new gone → NeedsOrGone gone needs later → gone page ≡ true
    → EveryMidway (keeping form size o h) (keeping form size o (e ∷ h)) page before state now old needs
    → EveryOverlay (keeping form size o (e ∷ h)) now new later

-- a crash in between leaves what the one history says or what the other one does
abbrev pub MidwayLeaves : Form → Type 0
MidwayLeaves form = (size : ℕ) (o : Opening) (h : Entries) (e : Entry) (page : ℕ) (before : Pages)
    (cache : Cache) (needs : ℕ → PageSet) → MayBegin o → IsLegal o h → IsLegal o (e ∷ h)
    → AreBitsMidway size page (state_of o h) (state_of o (e ∷ h)) cache
    → EveryMidway (keeping form size o h) (keeping form size o (e ∷ h)) page before (state_of o h)
    (state_of o (e ∷ h)) cache needs
    → (set_ : PageSet) → IsClosed cache set_
    → HoldsAll form size (overlay cache set_) o h ⊎ HoldsAll form size (overlay cache set_) o (e ∷ h)
