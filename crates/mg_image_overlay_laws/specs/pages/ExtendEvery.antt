-- A table, or the catalog, gets a page more, of pointers or of data, from the pool's change to every
-- overlay.
use Rattle.std.proofs.Common.{◌≡◌, ◌≢◌, sym, subst, ◌∙◌, refl, ℕ, Bool, true, false, List, Option, None}
use Rattle.mg_base.specs.declared.transaction.TxState.{TxState}
use Rattle.mg_careful.specs.CarefulWrite.{Cache, PageSet, Pages}
use Rattle.mg_careful.specs.Precedence.{Orders}
use Rattle.mg_model.specs.declared.opening.Opening.{Opening}
use Rattle.mg_model.specs.History.{Entries}
use Rattle.mg_image.specs.Form.{Form}
use Rattle.mg_image.specs.Records.{Reading}
use Rattle.mg_image.specs.Sound.{IsSoundBy}
use Rattle.mg_image.specs.Tables.{Layout}
use Rattle.mg_image_overlay_laws.specs.pages.Kinds.{HasNoSequences}
use Rattle.mg_image_overlay_laws.specs.kept.Rest.{TreesStay}
use Rattle.mg_image_overlay_laws.specs.pages.Trees.{trees_stay}
use Rattle.mg_image_overlay_laws.specs.kept.KeptImages.{IsKept, keeping}
use Rattle.mg_overlay_laws.specs.BatchLaws.{change_keeps_always}
use Rattle.mg_overlay_laws.specs.Overlays.{ChangesCache, EveryOverlay, KeepsLaidAlways, KeepsNeeds, left_state}
use Rattle.mg_overlay_laws.specs.Views.{first_view, last_view, ordered_same, partly, step_in, step_out}
use Rattle.mg_image_overlay_laws.specs.pages.EntryPage.{EntersPage, entry_makes}
use Rattle.mg_image_overlay_laws.specs.pages.ExtendStep.{HasLast, MakesMore, step_with, step_without}
use Rattle.mg_image_overlay_laws.specs.pages.LinkPage.{LinksPage, link_makes}
use Rattle.mg_image_overlay_laws.specs.pages.PointerPage.{ChangesPointer}
use Rattle.mg_image_overlay_laws.specs.pages.TakePart.{IsTaken, OccupiesPage, bits_alike, take_views}

-- The orders of its batch: the new page, and the inventory page with its bit, before the pointer page.
pub record OrdersPage (orders : Orders) (batch : ℕ → Option (List ℕ)) (i q n : ℕ) : Type 0 where
  pub bits : orders i q ≡ true
  pub page : orders n q ≡ true
  pub bits_in : batch i ≢ None

-- as two steps of the views of a batch
pub extend_views : (form : Form) (size : ℕ) (o : Opening) (h : Entries) (state : ℕ → TxState)
    (view mid next : Pages) (orders : Orders) (set_ : PageSet) (image : Pages)
    (owner place pointers i q n : ℕ) → HasNoSequences form → TreesStay form size
    → OccupiesPage size view mid i n → ChangesPointer mid next q → n ≢ q
    → MakesMore form.in_primary size mid next owner place pointers q n
    → (set_ q ≡ true → set_ i ≡ true) → (set_ q ≡ true → partly set_ mid image n ≡ mid n)
    → ((layout : Layout) (r : Reading) → IsSoundBy form size state mid layout r
    → HasLast layout owner place pointers q)
    → IsKept form size o h state view (partly set_ view image)
    → IsKept form size o h state next (partly set_ next image)
extend_views form size o h state view mid next orders set_ image owner place pointers i q n none trees takes
    change apart makes with_bits with_page finds start = by (set_ q) refl
  where
    taken : IsTaken form size o h state mid n (partly set_ mid image)
    taken = take_views form size o h state view mid set_ image i n none trees takes start

    last : HasLast taken.kept.of_pool owner place pointers q
    last = finds taken.kept.of_pool taken.kept.in_pool taken.kept.pool_sound

    by : (c : Bool) → set_ q ≡ c → IsKept form size o h state next (partly set_ next image)
    by true in_set = step_with form none size trees o h state mid next owner place pointers q n change apart
        makes takes.bit (partly set_ mid image) taken last (partly set_ next image) (record {
          lays = step_in set_ mid next image q change.others in_set;
          page = with_page in_set;
          used = bits_alike size (partly set_ mid image) mid n i takes.of_bit (rw (with_bits in_set) refl)
              ∙ takes.bit;
        })
    by false out = subst (IsKept form size o h state next)
        (sym (step_out set_ mid next image q change.others out))
        (step_without form none size trees o h state mid next owner place pointers q n change apart makes
        takes.bit (partly set_ mid image) taken last)

-- ---- the batches

-- a table, or the catalog, gets a pointer page, by nobody's work: every overlay is kept
abbrev pub LinkKeeps : Form → Type 0
LinkKeeps form = (size : ℕ) (o : Opening) (h : Entries) (state : ℕ → TxState) (old new : Cache)
    (mid : Pages) (gone : PageSet) (batch : ℕ → Option (List ℕ)) (orders : Orders)
    (needs now : ℕ → PageSet) (owner place pointers i q n : ℕ)
    → ChangesCache old new gone batch orders → KeepsNeeds old gone needs now
    → OccupiesPage size old.pool mid i n → LinksPage size mid new.pool owner pointers q n
    → ((m : ℕ) → batch m ≡ None → mid m ≡ new.pool m) → OrdersPage orders batch i q n
    → ((chosen : ℕ → Bool) (layout : Layout) (r : Reading)
    → IsSoundBy form size (left_state chosen state) mid layout r → HasLast layout owner place pointers q)
    → EveryOverlay (keeping form size o h) state old needs
    → EveryOverlay (keeping form size o h) state new now

-- and so it gets a data page
abbrev pub EnterKeeps : Form → Type 0
EnterKeeps form = (size : ℕ) (o : Opening) (h : Entries) (state : ℕ → TxState) (old new : Cache)
    (mid : Pages) (gone : PageSet) (batch : ℕ → Option (List ℕ)) (orders : Orders)
    (needs now : ℕ → PageSet) (owner place pointers i q n : ℕ)
    → ChangesCache old new gone batch orders → KeepsNeeds old gone needs now
    → OccupiesPage size old.pool mid i n
    → EntersPage form.in_primary size mid new.pool owner place q n
    → ((m : ℕ) → batch m ≡ None → mid m ≡ new.pool m) → OrdersPage orders batch i q n
    → ((chosen : ℕ → Bool) (layout : Layout) (r : Reading)
    → IsSoundBy form size (left_state chosen state) mid layout r → HasLast layout owner place pointers q)
    → EveryOverlay (keeping form size o h) state old needs
    → EveryOverlay (keeping form size o h) state new now

module _ (form : Form) (none : HasNoSequences form) (size : ℕ) (o : Opening) (h : Entries)
    (state : ℕ → TxState) (old new : Cache) (mid : Pages) (gone : PageSet)
    (batch : ℕ → Option (List ℕ)) (orders : Orders) (needs now : ℕ → PageSet)
    (owner place pointers i q n : ℕ) (changes : ChangesCache old new gone batch orders)
    (left : KeepsNeeds old gone needs now) (takes : OccupiesPage size old.pool mid i n)
    (change : ChangesPointer mid new.pool q) (apart : n ≢ q)
    (makes : MakesMore form.in_primary size mid new.pool owner place pointers q n)
    (left_by_batch : (m : ℕ) → batch m ≡ None → mid m ≡ new.pool m)
    (ordered : OrdersPage orders batch i q n)
    (finds : (chosen : ℕ → Bool) (layout : Layout) (r : Reading)
    → IsSoundBy form size (left_state chosen state) mid layout r → HasLast layout owner place pointers q)
    (every : EveryOverlay (keeping form size o h) state old needs) where
  extend_every : EveryOverlay (keeping form size o h) state new now
  extend_every = change_keeps_always (keeping form size o h) (keeping form size o h) state old new gone batch
      orders needs now changes left part every
    where
      trees : TreesStay form size
      trees = trees_stay form size

      part : KeepsLaidAlways (keeping form size o h) (keeping form size o h) state old.pool new.pool batch
          orders
      part chosen set_ image lays of_pool kept = subst
          (IsKept form size o h (left_state chosen state) new.pool)
          (last_view old.pool new.pool batch orders set_ image lays)
          (extend_views form size o h (left_state chosen state) old.pool mid new.pool orders set_ image owner
          place pointers i q n none trees takes change apart makes
          (λ in_set. lays.together i q ordered.bits ordered.bits_in in_set)
          (λ in_set. ordered_same old.pool new.pool batch orders set_ image mid lays left_by_batch n q
          ordered.page in_set) (finds chosen)
          (subst (IsKept form size o h (left_state chosen state) old.pool)
          (sym (first_view old.pool new.pool batch orders set_ image lays)) kept))

pub link_every : (form : Form) → HasNoSequences form → LinkKeeps form
link_every form none size o h state old new mid gone batch orders needs now owner place pointers i q n changes
    left takes links left_by_batch ordered finds every =
    extend_every form none size o h state old new mid gone batch orders needs now owner place pointers i q n
    changes left takes links.change links.apart
    (link_makes form.in_primary size mid new.pool owner place pointers q n links) left_by_batch ordered finds
    every

pub enter_every : (form : Form) → HasNoSequences form → EnterKeeps form
enter_every form none size o h state old new mid gone batch orders needs now owner place pointers i q n changes
    left takes enters left_by_batch ordered finds every =
    extend_every form none size o h state old new mid gone batch orders needs now owner place pointers i q n
    changes left takes enters.change enters.apart
    (entry_makes form.in_primary size mid new.pool owner place pointers q n enters) left_by_batch ordered finds
    every
