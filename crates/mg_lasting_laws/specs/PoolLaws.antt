-- Calls of the cache leave what holds the history, and page writes keep it lasting.
use Rattle.std.proofs.Common.{◌≡◌, ◌≤◌, ◌⊎◌, inl, inr, ◌&&◌, ◌||◌, ℕ, Bool, true, false, not, List, Option, None, Some, refl, sym, ◌∙◌, subst}
use Rattle.std.specs.Prelude.{is_some, unwrap_or}
use Rattle.mg_base.specs.Disk.{MayLeave, Meaning}
use Rattle.mg_base.specs.Image.{Image, page_at}
use Rattle.mg_base.specs.Moments.{LeavesOnly, leaves_as}
use Rattle.mg_careful.specs.Graph.{PageGraph}
use Rattle.mg_model.specs.History.{Entries}
use Rattle.mg_model.specs.Legal.{durable_count}
use Rattle.mg_image.specs.Form.{Form}
use Rattle.mg_pool.specs.Dirty.{DirtyPages, content_of, is_dirty, is_marked}
use Rattle.mg_pool.specs.Pool.{IsClosedOverlay, LeavesOverlays, cache_of, shown, taken_out}
use Rattle.mg_pool.specs.declared.pool.Pool.{Pool}
use Rattle.mg_pool_overlay_laws.specs.Needs.{Asked, Sessions, needs_by}
use Rattle.mg_pool_overlay_laws.specs.Ties.{not_asked_needs_all, runs_are, runs_keep_needs}
use Rattle.mg_lasting_laws.specs.Crashes.{HoldsAcknowledged, HoldsFrom, LeavesSince}
use Rattle.mg_lasting_laws.specs.CrashLaws.{overlays_hold_from}
use Rattle.mg_lasting_laws.specs.CrashStatements.{PoolLeaves, RunsLast}
use Rattle.mg_lasting_laws.specs.Lasting.{Lasts, LastsOn}
use Rattle.mg_lasting_laws.specs.Laws.{AreNeeds}
use Rattle.mg_lasting_laws.specs.StepLaws.{writes_last}

-- what a crash now may leave is among what a crash since an earlier moment might have left
abbrev pub CountsNow : (D : Type 0) → Meaning D → Type 0
CountsNow D m = (disk : D) (t : ℕ) (c : Image) → m.tells disk ≡ true → t ≤ m.moment disk
    → MayLeave m disk c → m.left disk t c

-- a disk that tells what a crash may leave tells what it holds, and a crash may leave that
abbrev pub HoldsOne : (D : Type 0) → Meaning D → Type 0
HoldsOne D m = (disk : D) → m.tells disk ≡ true
    → (image : Image) × (m.held disk ≡ Some image) × MayLeave m disk image

-- ---- needs by marks

-- a page that is not dirty is shown as on the disk
clean_shown : (dirty : DirtyPages) (image : Image) (p : ℕ) → is_dirty dirty p ≡ false
    → shown dirty image p ≡ page_at dirty.size image p
clean_shown dirty image p clean = at (content_of dirty p) clean
  where
    at : (c : Option (List ℕ)) → is_some c ≡ false
        → unwrap_or c (page_at dirty.size image p) ≡ page_at dirty.size image p
    at None none = refl
    at (Some bytes) none = absurd cc

first_part : (a b : Bool) → (a && b) ≡ true → a ≡ true
first_part true b is = refl
first_part false b is = absurd cc

pub needs_are : (dirty : DirtyPages) (graph : PageGraph) (image : Image) (has_asked : Asked)
    (session : Sessions) → AreNeeds (cache_of dirty graph image) has_asked (needs_by has_asked session dirty)
needs_are dirty graph image has_asked session = record {
  clean = λ p clean. clean_shown dirty image p clean;
  dirty = λ t p needed. first_part (is_dirty dirty p) (not (has_asked t) || is_marked dirty p (session t))
      needed;
  all = λ t none. not_asked_needs_all dirty graph image has_asked session t none;
}

-- ---- crashes

module _ (D L : Type 0) (m : Meaning D) (counts_now : CountsNow D m) where
  -- what a call of the cache leaves has a property, where each closed overlay has it, and what a crash
  -- might have left before
  pub leaves_since : (P : Image → Type 0) (old new : Pool D L) (image : Image)
      → m.tells old.disk ≡ true → m.tells new.disk ≡ true → m.held old.disk ≡ Some image
      → LeavesOverlays m old new → ((c : Image) → MayLeave m old.disk c → P c)
      → ((c : Image) → IsClosedOverlay old.dirty old.graph image c → P c)
      → LeavesSince m old.disk new.disk P
  leaves_since P old new image tells also held leaves before overlays =
      let since : LeavesOnly m old.disk new.disk P =
      leaves_as m old.disk new.disk (λ c. MayLeave m old.disk c ⊎ IsClosedOverlay old.dirty old.graph image c)
      P (λ c is. either c is) (leaves tells image held) in
      record {
        since = since;
        left = λ c may. since.each c (counts_now new.disk (m.moment old.disk) c also since.later may);
      }
    where
      either : (c : Image) → MayLeave m old.disk c ⊎ IsClosedOverlay old.dirty old.graph image c → P c
      either c (inl may) = before c may
      either c (inr is) = overlays c is

  pub pool_leaves : (form : Form) → PoolLeaves D L m form
  pool_leaves form o h old new has_asked session opening legal tells also lasts leaves =
      leaves_since (HoldsAcknowledged form old.dirty.size o h) old new lasts.image tells also lasts.held leaves
      lasts.left (λ c is. held_by c is)
    where
      held_by : (c : Image) → IsClosedOverlay old.dirty old.graph lasts.image c
          → HoldsAcknowledged form old.dirty.size o h c
      held_by c is = subst (λ (x : Entries). HoldsFrom form old.dirty.size o x (durable_count h) c)
          (sym lasts.settled)
          (overlays_hold_from form old.dirty.size o h (cache_of old.dirty old.graph lasts.image) has_asked
          (needs_by has_asked session old.dirty) is.set_ c opening legal lasts.lasts is.closed is.is.pages)

  pub runs_last : HoldsOne D m → (form : Form) → RunsLast D L m form
  runs_last holds form o h old new has_asked session opening legal tells run lasts =
      on (holds new.disk also)
    where
      also : m.tells new.disk ≡ true
      also = run.tells ∙ tells

      leaves : LeavesSince m old.disk new.disk (HoldsAcknowledged form old.dirty.size o h)
      leaves = pool_leaves form o h old new has_asked session opening legal tells also lasts run.crash

      on : (image : Image) × (m.held new.disk ≡ Some image) × MayLeave m new.disk image
          → LastsOn m form o h new has_asked session
          × LeavesSince m old.disk new.disk (HoldsAcknowledged form old.dirty.size o h)
      on (image, held, may) = (
        record {
          image = image;
          held = held;
          lasts = subst (λ (size : ℕ). Lasts form size o h (cache_of new.dirty new.graph image) has_asked
              (needs_by has_asked session new.dirty)) (sym run.size)
              (writes_last form old.dirty.size o h (cache_of old.dirty old.graph lasts.image)
              (cache_of new.dirty new.graph image) (taken_out old.dirty new.dirty) has_asked
              (needs_by has_asked session old.dirty) (needs_by has_asked session new.dirty)
              (runs_are D L m old new lasts.image image run tells lasts.held held)
              (runs_keep_needs D L m old new has_asked session run)
              (needs_are new.dirty new.graph image has_asked session) lasts.lasts);
          settled = lasts.settled;
          left = λ c left_. subst (λ (size : ℕ). HoldsAcknowledged form size o h c) (sym run.size)
              (leaves.left c left_);
        },
        leaves,
      )
