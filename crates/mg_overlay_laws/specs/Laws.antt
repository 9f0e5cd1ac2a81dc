-- The laws of overlays, for every statement on images. The files `..Laws` prove them.
use Rattle.std.proofs.Common.{◌≡◌, ◌≢◌, ℕ, Bool, true, false, List, Option}
use Rattle.mg_base.specs.declared.transaction.TxState.{TxState}
use Rattle.mg_base.specs.declared.transaction.TxState.TheVariants.{Active, Dead}
use Rattle.mg_careful.specs.Precedence.{Orders}
use Rattle.mg_careful.specs.CarefulWrite.{Pages, PageSet, Cache}
use Rattle.mg_overlay_laws.specs.Overlays.{ChangesCache, EveryOverlay, IsCleanAsDisk, KeepsLaid, KeepsLaidAlways, KeepsNeeds, KeepsRaised, Keeping, NeedsAllDirty, NeedsOrGone, OthersStay, WritesPages, left_state}

-- page writes keep what every overlay is
abbrev pub WritesKeep : Keeping → Type 0
WritesKeep good = (state : ℕ → TxState) (old new : Cache) (gone : PageSet)
    (needs now : ℕ → PageSet) → WritesPages old new gone → NeedsOrGone gone needs now
    → EveryOverlay good state old needs → EveryOverlay good state new now

-- so does a batch of an active transaction that needs all dirty pages
abbrev pub BatchKeeps : Keeping → Keeping → Type 0
BatchKeeps good better = (state : ℕ → TxState) (by : ℕ) (old new : Cache)
    (gone : PageSet) (batch : ℕ → Option (List ℕ)) (orders : Orders) (needs now : ℕ → PageSet)
    → ChangesCache old new gone batch orders → state by ≡ Active → KeepsNeeds old gone needs now
    → NeedsAllDirty new now by → KeepsLaid good better state by old.pool new.pool batch orders
    → EveryOverlay good state old needs → EveryOverlay better state new now

-- and one that is of no transaction's work
abbrev pub NobodysBatchKeeps : Keeping → Keeping → Type 0
NobodysBatchKeeps good better = (state : ℕ → TxState) (old new : Cache)
    (gone : PageSet) (batch : ℕ → Option (List ℕ)) (orders : Orders) (needs now : ℕ → PageSet)
    → ChangesCache old new gone batch orders → KeepsNeeds old gone needs now
    → KeepsLaidAlways good better state old.pool new.pool batch orders
    → EveryOverlay good state old needs → EveryOverlay better state new now

-- it is enough that the writer may come to count as in limbo on the pool's own image
abbrev pub RaisedBatchKeeps : Keeping → Keeping → Type 0
RaisedBatchKeeps good better = (state : ℕ → TxState) (by : ℕ) (old new : Cache)
    (gone : PageSet) (batch : ℕ → Option (List ℕ)) (orders : Orders) (needs now : ℕ → PageSet)
    → ChangesCache old new gone batch orders → state by ≡ Active → KeepsNeeds old gone needs now
    → NeedsAllDirty new now by → KeepsRaised good better state by old.pool new.pool batch orders
    → EveryOverlay good state old needs → EveryOverlay better state new now

-- a transaction ends that needs no page: where it counted as in limbo it is what it comes to be
abbrev pub EndKeeps : Keeping → Keeping → Type 0
EndKeeps good better = (state now : ℕ → TxState) (t : ℕ) (cache : Cache)
    (needs : ℕ → PageSet) → state t ≡ Active → ((p : ℕ) → needs t p ≡ false)
    → OthersStay state now t → now t ≢ Active
    → ((chosen : ℕ → Bool) (image : Pages) → chosen t ≡ true
    → good (left_state chosen state) cache.pool image
    → better (left_state chosen now) cache.pool image)
    → EveryOverlay good state cache needs → EveryOverlay better now cache needs

-- a transaction is rolled back: it counts as dead, as it did where it was not chosen
abbrev pub RollbackKeeps : Keeping → Keeping → Type 0
RollbackKeeps good better = (state now : ℕ → TxState) (t : ℕ) (cache : Cache)
    (needs : ℕ → PageSet) → state t ≡ Active → now t ≡ Dead → OthersStay state now t
    → ((chosen : ℕ → Bool) (image : Pages) → chosen t ≡ false
    → good (left_state chosen state) cache.pool image
    → better (left_state chosen state) cache.pool image)
    → EveryOverlay good state cache needs → EveryOverlay better now cache needs

-- a transaction begins: no image is another one, and in the pool's own it may count as in limbo
abbrev pub BeginKeeps : Keeping → Keeping → Type 0
BeginKeeps good better = (state now : ℕ → TxState) (t : ℕ) (cache : Cache)
    (needs : ℕ → PageSet) → state t ≡ Dead → now t ≡ Active → OthersStay state now t
    → ((chosen : ℕ → Bool) → good (left_state chosen state) cache.pool cache.pool
    → better (left_state chosen now) cache.pool cache.pool)
    → ((chosen : ℕ → Bool) (image : Pages) → chosen t ≡ false
    → good (left_state chosen state) cache.pool image
    → better (left_state chosen state) cache.pool image)
    → NeedsAllDirty cache needs t → IsCleanAsDisk cache
    → EveryOverlay good state cache needs → EveryOverlay better now cache needs

-- where nothing is dirty and nobody is active there is one overlay, the pool's image
abbrev pub StartIsEvery : Keeping → Type 0
StartIsEvery good = (state : ℕ → TxState) (cache : Cache) (needs : ℕ → PageSet)
    → ((p : ℕ) → cache.dirty p ≡ false) → IsCleanAsDisk cache → ((t : ℕ) → state t ≢ Active)
    → good state cache.pool cache.pool → EveryOverlay good state cache needs
