-- The laws of what every overlay has to be, for a form.
use Rattle.std.proofs.Common.{◌≡◌, ◌≢◌, ◌≤◌, ◌==◌, ℕ, Bool, false, List, [], ◌∷◌}
use Rattle.mg_base.specs.declared.transaction.TxState.{TxState}
use Rattle.mg_base.specs.declared.transaction.TxState.TheVariants.{Active, Committed, Dead, Limbo}
use Rattle.mg_careful.specs.CarefulWrite.{Cache, IsClosed, PageSet, overlay}
use Rattle.mg_value.specs.declared.value.Value.{Value}
use Rattle.mg_model.specs.declared.opening.Opening.{Opening}
use Rattle.mg_model.specs.Changes.{row_at}
use Rattle.mg_model.specs.History.{Entries, Entry}
use Rattle.mg_model.specs.Legal.{IsLegal, MayBegin}
use Rattle.mg_model.specs.Machine.{database, own, state_of}
use Rattle.mg_image.specs.Form.{Form}
use Rattle.mg_image.specs.Held.{AreChanges, Changes, Database, IsHeld}
use Rattle.mg_image.specs.Histories.{newest_at}
use Rattle.mg_image.specs.Inventory.{next_of}
use Rattle.mg_image.specs.RecordRules.{committed_in}
use Rattle.mg_image.specs.Records.{Reading}
use Rattle.mg_image.specs.Sound.{IsSoundBy, facts_by}
use Rattle.mg_image.specs.Tables.{Layout}
use Rattle.mg_overlay_laws.specs.Laws.{WritesKeep}
use Rattle.mg_overlay_laws.specs.Overlays.{EveryOverlay, IsCleanAsDisk, NeedsAllDirty, OthersStay, left_state}
use Rattle.mg_image_overlay_laws.specs.transactions.CommitLaws.{BringsChanges, LeavesOthers}
use Rattle.mg_image_overlay_laws.specs.kept.HoldLaws.{AreBits, HoldsAll}
use Rattle.mg_image_overlay_laws.specs.kept.KeptImages.{IsKept, keeping}

-- page writes keep it
abbrev pub WritesKeepAll : Form → Type 0
WritesKeepAll form = (size : ℕ) (o : Opening) (h : Entries) → WritesKeep (keeping form size o h)

-- a sound image that holds the history is as it has to be, and it is the only overlay where nothing is
-- dirty and nobody is active
abbrev pub StartKeepsAll : Form → Type 0
StartKeepsAll form = (size : ℕ) (o : Opening) (h : Entries) (state : ℕ → TxState) (cache : Cache)
    (needs : ℕ → PageSet) (layout : Layout) (r : Reading) (rows : Database) (changes : Changes)
    → ((p : ℕ) → cache.dirty p ≡ false) → IsCleanAsDisk cache → ((t : ℕ) → state t ≢ Active)
    → IsSoundBy form size state cache.pool layout r
    → IsHeld (facts_by state cache.pool layout) (committed_in (facts_by state cache.pool layout)) r rows
    → ((name : List ℕ) (key : Value) → rows name key ≡ row_at (database o h) name key)
    → AreChanges (facts_by state cache.pool layout) r changes
    → ((t : ℕ) (name : List ℕ) (key : Value) → state t ≡ Limbo
    → changes t name key ≡ newest_at (own o h t) name key)
    → EveryOverlay (keeping form size o h) state cache needs

-- a transaction begins, whose number is not below the pool's Next: its entry brings nothing
abbrev pub BeginKeepsAll : Form → Type 0
BeginKeepsAll form = (size : ℕ) (o : Opening) (h : Entries) (e : Entry) (state now : ℕ → TxState)
    (t : ℕ) (cache : Cache) (needs : ℕ → PageSet) → state t ≡ Dead → now t ≡ Active
    → OthersStay state now t → LeavesOthers o h e t → own o (e ∷ h) t ≡ [] → next_of cache.pool ≤ t
    → NeedsAllDirty cache needs t → IsCleanAsDisk cache
    → EveryOverlay (keeping form size o h) state cache needs
    → EveryOverlay (keeping form size o (e ∷ h)) now cache needs

-- a transaction is rolled back
abbrev pub RollbackKeepsAll : Form → Type 0
RollbackKeepsAll form = (size : ℕ) (o : Opening) (h : Entries) (e : Entry) (state now : ℕ → TxState)
    (t : ℕ) (cache : Cache) (needs : ℕ → PageSet) → state t ≡ Active → now t ≡ Dead
    → OthersStay state now t → LeavesOthers o h e t
    → EveryOverlay (keeping form size o h) state cache needs
    → EveryOverlay (keeping form size o (e ∷ h)) now cache needs

-- a transaction is committed that needs no page any more: its own changes come to the database
abbrev pub CommitKeepsAll : Form → Type 0
CommitKeepsAll form = (size : ℕ) (o : Opening) (h : Entries) (e : Entry) (state now : ℕ → TxState)
    (t : ℕ) (cache : Cache) (needs : ℕ → PageSet) → state t ≡ Active → now t ≡ Committed
    → OthersStay state now t → ((p : ℕ) → needs t p ≡ false) → BringsChanges o h e t
    → EveryOverlay (keeping form size o h) state cache needs
    → EveryOverlay (keeping form size o (e ∷ h)) now cache needs

-- every crash leaves an image that is sound and holds the history
abbrev pub CrashesLeaveAll : Form → Type 0
CrashesLeaveAll form = (size : ℕ) (o : Opening) (h : Entries) (cache : Cache) (needs : ℕ → PageSet)
    → MayBegin o → IsLegal o h → AreBits size (state_of o h) cache
    → EveryOverlay (keeping form size o h) (state_of o h) cache needs
    → (set_ : PageSet) → IsClosed cache set_ → HoldsAll form size (overlay cache set_) o h

-- one transaction is chosen
abbrev pub only : ℕ → ℕ → Bool
only t u = u == t

-- and where one needs no page any more, an image that is as it has to be with that one in limbo: so it
-- has the changes of it, and they are committed by its bits alone
abbrev pub ChosenIsReady : Form → Type 0
ChosenIsReady form = (size : ℕ) (o : Opening) (h : Entries) (state : ℕ → TxState) (t : ℕ)
    (cache : Cache) (needs : ℕ → PageSet) → ((p : ℕ) → needs t p ≡ false)
    → EveryOverlay (keeping form size o h) state cache needs
    → (set_ : PageSet) → IsClosed cache set_
    → IsKept form size o h (left_state (only t) state) cache.pool (overlay cache set_)
