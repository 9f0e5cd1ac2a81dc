-- A cache that is read, and over which a batch is changed, lasts with the history.
use Rattle.std.proofs.Common.{◌≡◌, ℕ, false, ◌∷◌, Some, refl, sym, ap, ◌∙◌, subst}
use Rattle.std.proofs.Math.Path.{fun_ext}
use Rattle.mg_base.specs.Disk.{Meaning}
use Rattle.mg_base.specs.Image.{Image}
use Rattle.mg_base.specs.Moments.{LeavesOnly, goes_on, joined, started}
use Rattle.mg_base.specs.declared.transaction.TxState.{TxState}
use Rattle.mg_careful.specs.Graph.{PageGraph}
use Rattle.mg_model.specs.declared.opening.Opening.{Opening}
use Rattle.mg_model.specs.History.{Entries}
use Rattle.mg_model.specs.Legal.{IsLegal, MayBegin}
use Rattle.mg_model.specs.Machine.{next_number, state_of}
use Rattle.mg_image.specs.Form.{Form}
use Rattle.mg_image.specs.Inventory.{next_of, state_at}
use Rattle.mg_image_overlay_laws.specs.kept.KeptImages.{keeping}
use Rattle.mg_overlay_laws.specs.BatchLaws.{good_of_pool}
use Rattle.mg_overlay_laws.specs.Overlays.{EveryOverlay, left_by, left_state, nobody}
use Rattle.mg_pool.specs.Batch.{Changed, content_in}
use Rattle.mg_pool.specs.Dirty.{DirtyPages}
use Rattle.mg_pool.specs.Pool.{cache_of, shown}
use Rattle.mg_pool.specs.declared.pool.Pool.{Pool}
use Rattle.mg_pool_overlay_laws.specs.Needs.{Asked, Sessions, needs_by}
use Rattle.mg_tie_laws.specs.Changed.{cache_over, needs_in}
use Rattle.mg_lasting_laws.specs.Changing.{ChangesLast, QuietHolds}
use Rattle.mg_lasting_laws.specs.CrashLaws.{asked_quiet}
use Rattle.mg_lasting_laws.specs.Crashes.{HoldsAcknowledged, LeavesSince, asked}
use Rattle.mg_lasting_laws.specs.Lasting.{Lasts, LastsOn}
use Rattle.mg_lasting_laws.specs.Laws.{ArePoolBits}
use Rattle.mg_engine_step_laws.specs.writes.Batches.{BatchesLast, ChangesRow, PoolBitsAre, ReadsLast, RowsLast, RowsLastStill}

-- ---- bits

pub pool_bits_are : (form : Form) → PoolBitsAre form
pool_bits_are form size o h cache has_asked needs lasts = good_of_pool
    (λ state pool image. (t : ℕ) → state_at size image t ≡ left_state nobody (state_of o h) t)
    (state_of o h) cache needs lasts.clean lasts.dirty (λ chosen set_ closed has. lasts.bits set_ closed)
    nobody

-- ---- reading

pub reads_last : (D L : Type 0) (m : Meaning D) (form : Form) → ReadsLast D L m form
reads_last D L m form o h old new has_asked session opening legal tells keeps lasts = (
  record {
    image = lasts.image;
    held = keeps.disk.held ∙ lasts.held;
    lasts = subst (λ (d : DirtyPages). Lasts form d.size o h (cache_of d new.graph lasts.image) has_asked
        (needs_by has_asked session d)) (sym keeps.dirty)
        (subst (λ (g : PageGraph). Lasts form old.dirty.size o h (cache_of old.dirty g lasts.image) has_asked
        (needs_by has_asked session old.dirty)) (sym keeps.graph) lasts.lasts);
    settled = lasts.settled;
    left = λ c may. subst (λ (d : DirtyPages). HoldsAcknowledged form d.size o h c) (sym keeps.dirty)
        (lasts.left c (keeps.disk.crash tells c may));
  },
  record {
    since = goes_on m old.disk old.disk new.disk (HoldsAcknowledged form old.dirty.size o h)
        (started m old.disk (HoldsAcknowledged form old.dirty.size o h) lasts.left) (keeps.disk.time tells)
        (λ c may. lasts.left c (keeps.disk.crash tells c may));
    left = λ c may. lasts.left c (keeps.disk.crash tells c may);
  },
)

-- ---- a batch

pub batches_last : (D L : Type 0) (m : Meaning D) (form : Form) → ChangesLast D L m form
    → BatchesLast D L m form
batches_last D L m form change o h later before after i j batch has_asked now_asked session now_session
    opening legal lasts to = (
      done.0,
      record {
        since = joined m before.disk to.ready.disk after.disk (HoldsAcknowledged form before.dirty.size o h)
            read.1.since (subst (λ (size : ℕ). LeavesOnly m to.ready.disk after.disk
            (HoldsAcknowledged form size o h)) size_is done.1.since);
        left = λ c may. subst (λ (size : ℕ). HoldsAcknowledged form size o h c) size_is (done.1.left c may);
      },
    )
  where
    read : LastsOn m form o h to.ready has_asked session
        × LeavesSince m before.disk to.ready.disk (HoldsAcknowledged form before.dirty.size o h)
    read = reads_last D L m form o h before to.ready has_asked session opening legal to.told.told to.keeps lasts

    size_is : to.ready.dirty.size ≡ before.dirty.size
    size_is = ap (λ (d : DirtyPages). d.size) to.keeps.dirty

    same_image : (k : Image) → m.held after.disk ≡ Some k → j ≡ k
    same_image k held = let both : Some j ≡ Some k = sym to.held ∙ held in cc

    done : LastsOn m form o later after now_asked now_session
        × LeavesSince m to.ready.disk after.disk (HoldsAcknowledged form to.ready.dirty.size o h)
    done = change o h later to.ready after has_asked now_asked session now_session opening legal
        (to.keeps.disk.tells ∙ to.told.told) read.0 (record {
          batch = content_in batch.pages;
          orders = batch.orders;
          frame = to.frame;
          leaves = to.crash;
          tells = to.tells;
          every = λ a b gone held_a held_b pages. subst (λ (k : Image). EveryOverlay
              (keeping form to.ready.dirty.size o later) (state_of o later) (cache_of after.dirty after.graph k)
              (needs_by now_asked now_session after.dirty)) (same_image b held_b)
              (subst (λ (size : ℕ). EveryOverlay (keeping form size o later) (state_of o later)
              (cache_of after.dirty after.graph j) (needs_by now_asked now_session after.dirty))
              (sym size_is) to.kept);
          settled = to.settled;
          bits = λ k held. subst (λ (b : Image). ArePoolBits to.ready.dirty.size (shown after.dirty b)
              (state_of o later)) (same_image k held)
              (subst (λ (size : ℕ). ArePoolBits size (shown after.dirty j) (state_of o later)) (sym size_is)
              to.bits);
          next = λ k held. subst (λ (b : Image). next_of (shown after.dirty b) ≡ next_number o later)
              (same_image k held) to.next;
          none_asked = to.none_asked;
          holds = λ c holds. subst (λ (size : ℕ). HoldsAcknowledged form size o later c) (sym size_is)
              (to.holds c (subst (λ (size : ℕ). HoldsAcknowledged form size o h c) size_is holds));
        })

-- ---- a row

module _ (D L : Type 0) (m : Meaning D) (form : Form) (last : BatchesLast D L m form) (o : Opening)
    (h later : Entries) (before after : Pool D L) (i j : Image) (batch : Changed) (has_asked : Asked)
    (session : Sessions) (opening : MayBegin o) (legal : IsLegal o h)
    (lasts : LastsOn m form o h before has_asked session)
    (row : ChangesRow m form o h later before after i j batch has_asked session)
    (states : (t : ℕ) → state_of o later t ≡ state_of o h t)
    (numbers : next_number o later ≡ next_number o h) (none : asked later ≡ later)
    (holds : (c : Image) → HoldsAcknowledged form before.dirty.size o h c
    → HoldsAcknowledged form before.dirty.size o later c) where
  size_is : before.dirty.size ≡ before.geometry.size
  size_is = row.pool.page_size

  image_is : lasts.image ≡ i
  image_is = let both : Some lasts.image ≡ Some i = sym lasts.held ∙ row.changes.tells.held in cc

  were : Lasts form before.dirty.size o h (cache_over before i) has_asked (needs_in has_asked session before)
  were = subst (λ (k : Image). Lasts form before.dirty.size o h (cache_of before.dirty before.graph k) has_asked
      (needs_in has_asked session before)) image_is lasts.lasts

  state_is : state_of o h ≡ state_of o later
  state_is = fun_ext (λ t. sym (states t))

  bits_were : ArePoolBits before.dirty.size (shown before.dirty i) (state_of o h)
  bits_were = pool_bits_are form before.dirty.size o h (cache_over before i) has_asked
      (needs_in has_asked session before) were

  same_bits : (t : ℕ) → state_at before.dirty.size (shown after.dirty j) t
      ≡ state_at before.dirty.size (shown before.dirty i) t
  same_bits t = subst (λ (size : ℕ). state_at size (shown after.dirty j) t
      ≡ state_at size (shown before.dirty i) t) (sym size_is) (row.bits.bits t)

  pub row_lasts : LastsOn m form o later after has_asked session
      × LeavesSince m before.disk after.disk (HoldsAcknowledged form before.dirty.size o h)
  row_lasts = last o h later before after i j batch has_asked has_asked session session opening legal lasts
      (record {
        ready = row.changes.ready;
        keeps = row.changes.keeps;
        frame = row.changes.frame;
        crash = row.crash;
        told = row.changes.tells;
        tells = row.tells;
        held = row.changes.held;
        kept = subst (λ (state : ℕ → TxState). EveryOverlay (keeping form before.dirty.size o later) state
            (cache_over after j) (needs_in has_asked session after)) state_is
            (subst (λ (size : ℕ). EveryOverlay (keeping form size o later) (state_of o h)
            (cache_over after j) (needs_in has_asked session after)) (sym size_is) row.kept);
        settled = λ t is. states t;
        bits = λ t. same_bits t ∙ (bits_were t ∙ ap (left_by false) (sym (states t)));
        next = row.bits.next ∙ (were.next ∙ sym numbers);
        none_asked = none;
        holds = holds;
      })

pub rows_last : (D L : Type 0) (m : Meaning D) (form : Form) → BatchesLast D L m form → QuietHolds form
    → RowsLast D L m form
rows_last D L m form last quiet o h e before after i j batch has_asked session opening legal leaves lasts row =
    row_lasts D L m form last o h (e ∷ h) before after i j batch has_asked session opening legal lasts row
    leaves.states leaves.next (asked_quiet h e leaves.no_failure ∙ ap (λ (x : Entries). e ∷ x) lasts.settled)
    (λ c holds. quiet before.dirty.size o h e c leaves.quiet leaves.no_failure holds)

pub rows_last_still : (D L : Type 0) (m : Meaning D) (form : Form) → BatchesLast D L m form
    → RowsLastStill D L m form
rows_last_still D L m form last o h before after i j batch has_asked session opening legal lasts row =
    row_lasts D L m form last o h h before after i j batch has_asked session opening legal lasts row
    (λ t. refl) refl lasts.settled (λ c holds. holds)
