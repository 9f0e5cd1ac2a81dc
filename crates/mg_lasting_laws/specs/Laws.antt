-- What keeps a cache lasting with a history. The files `StepLaws`, `CommitLaws` and `CrashLaws` prove it.
use Rattle.std.proofs.Common.{◌≡◌, ℕ, Bool, true, false, List, ◌∷◌, Option}
use Rattle.mg_base.specs.declared.transaction.TxState.{TxState}
use Rattle.mg_base.specs.declared.transaction.TxState.TheVariants.{Active, Dead}
use Rattle.mg_careful.specs.CarefulWrite.{Cache, PageSet, Pages}
use Rattle.mg_careful.specs.Precedence.{Orders}
use Rattle.mg_model.specs.declared.event.Mode.{Mode}
use Rattle.mg_model.specs.declared.opening.Opening.{Opening}
use Rattle.mg_model.specs.History.{Begins, Ends, Entries, Entry, effect_of}
use Rattle.mg_model.specs.Legal.{IsLegal, MayBegin}
use Rattle.mg_model.specs.Machine.{next_number, state_of}
use Rattle.mg_image.specs.Form.{Form}
use Rattle.mg_image.specs.Inventory.{next_of, state_at}
use Rattle.mg_overlay_laws.specs.Overlays.{ChangesCache, EveryOverlay, IsCleanAsDisk, NeedsAllDirty, NeedsOrGone, WritesPages, left_state, nobody}
use Rattle.mg_image_overlay_laws.specs.kept.KeptImages.{keeping}
use Rattle.mg_lasting_laws.specs.Bits.{IsSettled}
use Rattle.mg_lasting_laws.specs.Entries.{is_idle}
use Rattle.mg_lasting_laws.specs.Lasting.{Lasts}

-- What is known of needs: they are dirty pages, and all of them where a transaction has not asked for its
-- commit; clean pages are as on the disk.
pub record AreNeeds (cache : Cache) (has_asked : ℕ → Bool) (needs : ℕ → PageSet) : Type 0 where
  pub clean : IsCleanAsDisk cache
  pub dirty : (t p : ℕ) → needs t p ≡ true → cache.dirty p ≡ true
  pub all : (t : ℕ) → has_asked t ≡ false → NeedsAllDirty cache needs t

-- the bits of the pool's own image say of each transaction what becomes of it where nobody is chosen
abbrev pub ArePoolBits : ℕ → Pages → (ℕ → TxState) → Type 0
ArePoolBits size pool state = (t : ℕ) → state_at size pool t ≡ left_state nobody state t

-- ---- entries without pages

-- an entry that is idle: a statement begins, a mark or a savepoint is set, or nothing comes of it, as of
-- each refused event
abbrev pub IdleLasts : Form → Type 0
IdleLasts form = (size : ℕ) (o : Opening) (h : Entries) (e : Entry) (cache : Cache)
    (has_asked : ℕ → Bool) (needs : ℕ → PageSet) → is_idle (effect_of e) ≡ true
    → Lasts form size o h cache has_asked needs → Lasts form size o (e ∷ h) cache has_asked needs

-- a transaction is rolled back
abbrev pub RollbackLasts : Form → Type 0
RollbackLasts form = (size : ℕ) (o : Opening) (h : Entries) (e : Entry) (t : ℕ) (cache : Cache)
    (has_asked : ℕ → Bool) (needs : ℕ → PageSet) → effect_of e ≡ Ends t Dead
    → state_of o h t ≡ Active
    → Lasts form size o h cache has_asked needs → Lasts form size o (e ∷ h) cache has_asked needs

-- a transaction asks for its commit: it needs what it needed, as all dirty pages are marked for it
abbrev pub AskingLasts : Form → Type 0
AskingLasts form = (size : ℕ) (o : Opening) (h : Entries) (cache : Cache)
    (has_asked now_asked : ℕ → Bool) (needs now : ℕ → PageSet) → AreNeeds cache now_asked now
    → ((t p : ℕ) → state_of o h t ≡ Active → needs t p ≡ true → now t p ≡ true)
    → Lasts form size o h cache has_asked needs → Lasts form size o h cache now_asked now

-- a transaction begins: every overlay is as it has to be for the longer history, before its number is
-- drawn on any page
abbrev pub BeginsFirst : Form → Type 0
BeginsFirst form = (size : ℕ) (o : Opening) (h : Entries) (e : Entry) (t : ℕ) (mode : Mode)
    (cache : Cache) (has_asked : ℕ → Bool) (needs : ℕ → PageSet) → MayBegin o → IsLegal o (e ∷ h)
    → effect_of e ≡ Begins t mode → has_asked t ≡ false
    → Lasts form size o h cache has_asked needs
    → EveryOverlay (keeping form size o (e ∷ h)) (state_of o (e ∷ h)) cache needs

-- ---- pages

-- pages are written, each after those that precede it
abbrev pub WritesLast : Form → Type 0
WritesLast form = (size : ℕ) (o : Opening) (h : Entries) (old new : Cache) (gone : PageSet)
    (has_asked : ℕ → Bool) (needs now : ℕ → PageSet) → WritesPages old new gone
    → NeedsOrGone gone needs now → AreNeeds new has_asked now
    → Lasts form size o h old has_asked needs → Lasts form size o h new has_asked now

-- A batch is changed, after which every overlay is as it has to be for a history that goes on from the
-- first: the cache lasts with that, where the bits of the pool's own image are right, and nobody has come
-- to be committed or in limbo.
abbrev pub BatchLasts : Form → Type 0
BatchLasts form = (size : ℕ) (o : Opening) (h later : Entries) (old new : Cache) (gone : PageSet)
    (batch : ℕ → Option (List ℕ)) (orders : Orders) (has_asked now_asked : ℕ → Bool)
    (needs now : ℕ → PageSet) → ChangesCache old new gone batch orders
    → Lasts form size o h old has_asked needs
    → EveryOverlay (keeping form size o later) (state_of o later) new now
    → ((t : ℕ) → IsSettled (state_of o later t) → state_of o later t ≡ state_of o h t)
    → ArePoolBits size new.pool (state_of o later) → next_of new.pool ≡ next_number o later
    → AreNeeds new now_asked now
    → Lasts form size o later new now_asked now
