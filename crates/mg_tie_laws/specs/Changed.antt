-- A batch that the cache has changed, as the laws on overlays take it: with what was read before.
use Rattle.std.proofs.Common.{◌≡◌, ap, subst, ◌∙◌, ℕ, false, [], Some}
use Rattle.std.proofs.Math.Path.{fun_ext}
use Rattle.std.specs.Prelude.{unwrap_or}
use Rattle.mg_base.specs.Disk.{Meaning}
use Rattle.mg_base.specs.Image.{Image}
use Rattle.mg_base.specs.declared.transaction.TxState.{TxState}
use Rattle.mg_careful.specs.CarefulWrite.{Cache, PageSet}
use Rattle.mg_image.specs.Form.{Form}
use Rattle.mg_image_overlay_laws.specs.kept.KeptImages.{keeping}
use Rattle.mg_model.specs.declared.opening.Opening.{Opening}
use Rattle.mg_model.specs.History.{Entries}
use Rattle.mg_overlay_laws.specs.Overlays.{ChangesCache, EveryOverlay, KeepsNeeds, NeedsAllDirty}
use Rattle.mg_pool.specs.Batch.{Changed, content_in, lists}
use Rattle.mg_pool.specs.Change.{ChangesOverlays, ChangesPages}
use Rattle.mg_pool.specs.Dirty.{DirtyPages}
use Rattle.mg_pool.specs.Pool.{cache_of, shown}
use Rattle.mg_pool.specs.declared.pool.Pool.{Pool}
use Rattle.mg_pool_overlay_laws.specs.Needs.{Asked, Sessions, needs_by}
use Rattle.mg_pool_overlay_laws.specs.Ties.{changes_are, changes_keep_needs, not_asked_needs_all}
use Rattle.mg_space.specs.Taking.{IsGeometry}
use Rattle.mg_space.specs.View.{KeepsStore, Tells, viewed}

-- the cache over an image of its disk
abbrev pub cache_over : {D L : Type 0} → Pool D L → Image → Cache
cache_over store image = cache_of store.dirty store.graph image

-- the pages that transactions need, by the marks of the cache
abbrev pub needs_in : {D L : Type 0} → Asked → Sessions → Pool D L → ℕ → PageSet
needs_in asked session store = needs_by asked session store.dirty

-- A batch was changed, after some pages had been written out, and what transactions need lags behind no
-- more than it did. The pool has the pages that who filled the batch saw.
pub record BatchIsChanged {D L : Type 0} (before after : Pool D L) (i j : Image) (batch : Changed)
    (asked : Asked) (session : Sessions) : Type 0 where
  pub gone : PageSet
  pub changes : ChangesCache (cache_over before i) (cache_over after j) gone (content_in batch.pages)
      (lists batch.orders)
  pub left : KeepsNeeds (cache_over before i) gone (needs_in asked session before)
      (needs_in asked session after)
  pub pool : (cache_over after j).pool ≡ viewed before i batch

-- pages were read, and then the batch was changed, where the disk tells its images
abbrev pub ChangedBatchesAre : (D L : Type 0) → Meaning D → Type 0
ChangedBatchesAre D L m = (before ready after : Pool D L) (i j : Image) (batch : Changed)
    (asked : Asked) (session : Sessions) → KeepsStore m before ready
    → ChangesOverlays m (content_in batch.pages) batch.orders ready after
    → Tells m before.disk i → m.held after.disk ≡ Some j
    → BatchIsChanged before after i j batch asked session

pub changed_batches_are : (D L : Type 0) (m : Meaning D) → ChangedBatchesAre D L m
changed_batches_are D L m before ready after i j batch asked session keeps frame tells held =
    at (frame (keeps.disk.tells ∙ tells.told) i j (keeps.disk.held ∙ tells.held) held)
  where
    at : (gone : PageSet) × ChangesPages ready.dirty after.dirty ready.graph after.graph i j gone
        (content_in batch.pages) batch.orders → BatchIsChanged before after i j batch asked session
    at (gone, changes) = record {
      gone = gone;
      changes = subst (λ (old : Cache). ChangesCache old (cache_over after j) gone (content_in batch.pages)
          (lists batch.orders)) same (changes_are D L ready after i j gone (content_in batch.pages)
          batch.orders changes);
      left = subst (λ (needs : ℕ → PageSet). KeepsNeeds (cache_over before i) gone needs
          (needs_in asked session after)) (ap (λ (d : DirtyPages). needs_by asked session d) keeps.dirty)
          (subst (λ (old : Cache). KeepsNeeds old gone (needs_in asked session ready)
          (needs_in asked session after)) same (changes_keep_needs D L ready after i j gone
          (content_in batch.pages) batch.orders asked session changes));
      pool = fun_ext (λ p. changes.shown_new p
          ∙ ap (λ (d : DirtyPages). unwrap_or (content_in batch.pages p) (shown d i p)) keeps.dirty);
    }
      where
        same : cache_over ready i ≡ cache_over before i
        same = λ k. cache_of (keeps.dirty k) (keeps.graph k) i

-- one that has not asked for its commit needs all dirty pages
pub needs_all : {D L : Type 0} (store : Pool D L) (i : Image) (asked : Asked) (session : Sessions)
    (by : ℕ) → asked by ≡ false
    → NeedsAllDirty (cache_over store i) (needs_in asked session store) by
needs_all store i asked session by none = not_asked_needs_all store.dirty store.graph i asked session by none

-- a batch that has nothing yet
abbrev pub fresh : Changed
fresh = record { pages = []; orders = [] }

-- A fresh batch was filled by calls that only read, and then changed; the disk tells its images.
pub record ChangesFresh {D L : Type 0} (m : Meaning D) (before after : Pool D L) (i j : Image)
    (batch : Changed) : Type 0 where
  pub ready : Pool D L
  pub geometry : IsGeometry before.geometry
  pub keeps : KeepsStore m before ready
  pub frame : ChangesOverlays m (content_in batch.pages) batch.orders ready after
  pub tells : Tells m before.disk i
  pub held : m.held after.disk ≡ Some j

pub changed_fresh : {D L : Type 0} (m : Meaning D) (before after : Pool D L) (i j : Image)
    (batch : Changed) (asked : Asked) (session : Sessions) → ChangesFresh m before after i j batch
    → BatchIsChanged before after i j batch asked session
changed_fresh {D} {L} m before after i j batch asked session changes =
    changed_batches_are D L m before changes.ready after i j batch asked session changes.keeps changes.frame
    changes.tells changes.held

-- every overlay of a cache over an image is what it has to be
abbrev pub KeptIn : {D L : Type 0} → Form → ℕ → Opening → Entries → (ℕ → TxState) → Asked → Sessions
    → Pool D L → Image → Type 0
KeptIn form size o h state asked session store image =
    EveryOverlay (keeping form size o h) state (cache_over store image) (needs_in asked session store)
