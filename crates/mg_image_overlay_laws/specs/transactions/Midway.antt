-- The overlays while the bits of a transaction are changed and not yet written.
use Rattle.std.proofs.Common.{◌≡◌, ◌≢◌, ◌≤◌, ◌/◌, ◌%◌, ℕ, Bool, true, false}
use Rattle.mg_base.specs.declared.transaction.TxState.{TxState}
use Rattle.mg_careful.specs.CarefulWrite.{Cache, IsClosed, PageSet, Pages, overlay}
use Rattle.mg_image.specs.Inventory.{last_sequence, next_of, state_at, tip_page}
use Rattle.mg_overlay_laws.specs.Overlays.{HasNeeds, Keeping, left_state, nobody}
use Rattle.mg_tip.specs.TipPage.{places}

-- The overlay of a closed set without the page of the bits is as it had to be, beside the pool's image
-- from before; that of one with it is as it has to be with these bits.
pub record EveryMidway (good better : Keeping) (page : ℕ) (before : Pages) (state now : ℕ → TxState)
    (cache : Cache) (needs : ℕ → PageSet) : Type 0 where
  pub without : (chosen : ℕ → Bool) (set_ : PageSet) → IsClosed cache set_
      → HasNeeds state chosen needs set_ → set_ page ≡ false
      → good (left_state chosen state) before (overlay cache set_)
  pub within : (chosen : ℕ → Bool) (set_ : PageSet) → IsClosed cache set_
      → HasNeeds now chosen needs set_ → set_ page ≡ true
      → better (left_state chosen now) cache.pool (overlay cache set_)

-- the bits of overlays in mid-commit: those of before without the page, and those of afterwards with it
abbrev pub AreBitsMidway : ℕ → ℕ → (ℕ → TxState) → (ℕ → TxState) → Cache → Type 0
AreBitsMidway size page state now cache = (set_ : PageSet) → IsClosed cache set_ → (t : ℕ)
    → ((set_ page ≡ false → state_at size (overlay cache set_) t ≡ left_state nobody state t)
    × (set_ page ≡ true → state_at size (overlay cache set_) t ≡ left_state nobody now t))

-- a place of a transaction inventory page is not that of a number that was not drawn
abbrev pub IsDrawnPlace : ℕ → Pages → ℕ → ℕ → Type 0
IsDrawnPlace size pages page place = (t : ℕ) → next_of pages ≤ t
    → t / places size ≡ last_sequence size pages → tip_page size pages (last_sequence size pages) ≡ page
    → t % places size ≢ place
