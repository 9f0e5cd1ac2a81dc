-- The overlays of closed sets of dirty pages, and what every one of them is kept to be.
use Rattle.std.proofs.Common.{◌≡◌, ◌≢◌, ◌==◌, ◌⊎◌, ℕ, Bool, true, false, not, ◌&&◌, ◌||◌, List, Option, None}
use Rattle.std.specs.Prelude.{unwrap_or, if◌then◌else◌}
use Rattle.mg_base.specs.declared.transaction.TxState.{TxState}
use Rattle.mg_base.specs.declared.transaction.TxState.TheVariants.{Active, Limbo, Dead, Committed}
use Rattle.mg_careful.specs.Precedence.{Orders}
use Rattle.mg_careful.specs.CarefulWrite.{Pages, PageSet, Cache, IsClosed, overlay}

-- ---- who counts as what

-- what has become of a transaction in an image that is left behind: one that is active is dead, or
-- in limbo where it is chosen
abbrev pub left_by : Bool → TxState → TxState
left_by true Active = Limbo
left_by false Active = Dead
left_by chosen Limbo = Limbo
left_by chosen Dead = Dead
left_by chosen Committed = Committed

abbrev pub left_state : (ℕ → Bool) → (ℕ → TxState) → ℕ → TxState
left_state chosen state t = left_by (chosen t) (state t)

-- nobody is chosen
abbrev pub nobody : ℕ → Bool
nobody t = false

-- a choice without one transaction
abbrev pub without : ℕ → (ℕ → Bool) → ℕ → Bool
without t chosen u = not (u == t) && chosen u

-- only one transaction's state is another one
abbrev pub OthersStay : (ℕ → TxState) → (ℕ → TxState) → ℕ → Type 0
OthersStay state now t = (u : ℕ) → u ≢ t → now u ≡ state u

-- ---- every overlay

-- what an image has to be, by what has become of the transactions, and by the pool's image
abbrev pub Keeping : Type 1
Keeping = (ℕ → TxState) → Pages → Pages → Type 0

-- a set has the pages that the chosen active transactions need
abbrev pub HasNeeds : (ℕ → TxState) → (ℕ → Bool) → (ℕ → PageSet) → PageSet → Type 0
HasNeeds state chosen needs set_ = (t p : ℕ) → chosen t ≡ true → state t ≡ Active
    → needs t p ≡ true → set_ p ≡ true

-- so is the overlay of every closed set, whichever active transactions count as in limbo whose
-- pages it has
abbrev pub EveryOverlay : Keeping → (ℕ → TxState) → Cache → (ℕ → PageSet) → Type 0
EveryOverlay good state cache needs = (chosen : ℕ → Bool) (set_ : PageSet) → IsClosed cache set_
    → HasNeeds state chosen needs set_
    → good (left_state chosen state) cache.pool (overlay cache set_)

-- a transaction needs each dirty page
abbrev pub NeedsAllDirty : Cache → (ℕ → PageSet) → ℕ → Type 0
NeedsAllDirty cache needs t = (p : ℕ) → cache.dirty p ≡ true → needs t p ≡ true

-- pages that are not dirty are as on the disk
abbrev pub IsCleanAsDisk : Cache → Type 0
IsCleanAsDisk cache = (p : ℕ) → cache.dirty p ≡ false → cache.pool p ≡ cache.disk p

-- ---- pages are written

-- Pages were written out, each after those that precede it.
pub record WritesPages (old new : Cache) (gone : PageSet) : Type 0 where
  pub pool : (p : ℕ) → new.pool p ≡ old.pool p
  pub closed : (set_ : PageSet) → IsClosed new set_ → IsClosed old (λ p. gone p || set_ p)
  pub overlays : (set_ : PageSet) → IsClosed new set_ → (p : ℕ)
      → overlay new set_ p ≡ overlay old (λ q. gone q || set_ q) p

-- what a transaction needed was written out, or it needs it still
abbrev pub NeedsOrGone : PageSet → (ℕ → PageSet) → (ℕ → PageSet) → Type 0
NeedsOrGone gone needs now = (t p : ℕ) → needs t p ≡ true → (gone p ≡ true) ⊎ (now t p ≡ true)

-- ---- a batch is changed

-- the pages that were written out before, and those of a set that were dirty
abbrev pub before : Cache → PageSet → PageSet → PageSet
before old gone set_ p = gone p || (set_ p && old.dirty p)

-- A batch was changed, after some pages had been written out.
pub record ChangesCache (old new : Cache) (gone : PageSet) (batch : ℕ → Option (List ℕ))
    (orders : Orders) : Type 0 where
  pub pool : (p : ℕ) → new.pool p ≡ unwrap_or (batch p) (old.pool p)
  pub closed : (set_ : PageSet) → IsClosed new set_ → IsClosed old (before old gone set_)
  pub overlays : (set_ : PageSet) → IsClosed new set_ → (p : ℕ) → overlay new set_ p
      ≡ unwrap_or (if set_ p then batch p else None) (overlay old (before old gone set_) p)
  pub together : (set_ : PageSet) → IsClosed new set_ → (a b : ℕ) → orders a b ≡ true
      → new.dirty a ≡ true → set_ b ≡ true → set_ a ≡ true
  -- the batch's pages are dirty then
  pub is_laid : (p : ℕ) → batch p ≢ None → new.dirty p ≡ true
  pub was_clean : IsCleanAsDisk old
  pub is_clean : IsCleanAsDisk new

-- an image with those pages of a batch that a set has
abbrev pub laid : (ℕ → Option (List ℕ)) → PageSet → Pages → Pages
laid batch set_ image p = unwrap_or (if set_ p then batch p else None) (image p)

-- what was needed was dirty, and was written out, or is needed still
abbrev pub KeepsNeeds : Cache → PageSet → (ℕ → PageSet) → (ℕ → PageSet) → Type 0
KeepsNeeds old gone needs now = (t p : ℕ) → needs t p ≡ true
    → (old.dirty p ≡ true) × ((gone p ≡ true) ⊎ (now t p ≡ true))

-- What is known of an image on which a batch is laid in part: the pages of the set are as in the
-- pool, before and afterwards, and so is each page that has to be written before one of them.
pub record LaysBatch (pool changed : Pages) (batch : ℕ → Option (List ℕ)) (orders : Orders)
    (set_ : PageSet) (image : Pages) : Type 0 where
  pub was : (p : ℕ) → set_ p ≡ true → image p ≡ pool p
  pub is : (p : ℕ) → set_ p ≡ true → laid batch set_ image p ≡ changed p
  pub first : (a b : ℕ) → orders a b ≡ true → set_ b ≡ true → laid batch set_ image a ≡ changed a
  -- with a page comes each page of the batch that precedes it
  pub together : (a b : ℕ) → orders a b ≡ true → batch a ≢ None → set_ b ≡ true → set_ a ≡ true

-- ---- what a batch owes

-- in part, on an image in which its transaction counts as dead
abbrev pub KeepsPart : Keeping → Keeping → (ℕ → TxState) → ℕ → Pages → Pages
    → (ℕ → Option (List ℕ)) → Orders → Type 0
KeepsPart good better state by pool changed batch orders =
    (chosen : ℕ → Bool) (set_ : PageSet) (image : Pages) → chosen by ≡ false
    → LaysBatch pool changed batch orders set_ image
    → good (left_state chosen state) pool pool → good (left_state chosen state) pool image
    → better (left_state chosen state) changed (laid batch set_ image)

-- What a batch of a transaction owes: in part on an image in which it counts as dead, whole on the
-- pool's own image.
pub record KeepsLaid (good better : Keeping) (state : ℕ → TxState) (by : ℕ) (pool changed : Pages)
    (batch : ℕ → Option (List ℕ)) (orders : Orders) : Type 0 where
  pub part : KeepsPart good better state by pool changed batch orders
  pub whole : (chosen : ℕ → Bool) → chosen by ≡ true → good (left_state chosen state) pool pool
      → better (left_state chosen state) changed changed

-- The same with less: in part as ever, and then its transaction may come to count as in limbo on the
-- pool's own image, where no page is changed.
pub record KeepsRaised (good better : Keeping) (state : ℕ → TxState) (by : ℕ) (pool changed : Pages)
    (batch : ℕ → Option (List ℕ)) (orders : Orders) : Type 0 where
  pub part : KeepsPart good better state by pool changed batch orders
  pub raise : (chosen : ℕ → Bool) → chosen by ≡ true → good (left_state chosen state) pool pool
      → better (left_state (without by chosen) state) changed changed
      → better (left_state chosen state) changed changed

-- What a batch owes that is of no transaction's work: the same whoever is chosen.
abbrev pub KeepsLaidAlways : Keeping → Keeping → (ℕ → TxState) → Pages → Pages
    → (ℕ → Option (List ℕ)) → Orders → Type 0
KeepsLaidAlways good better state pool changed batch orders =
    (chosen : ℕ → Bool) (set_ : PageSet) (image : Pages)
    → LaysBatch pool changed batch orders set_ image
    → good (left_state chosen state) pool pool → good (left_state chosen state) pool image
    → better (left_state chosen state) changed (laid batch set_ image)
