-- The end of a commit keeps the cache lasting, and each crash leaves what the history says.
use Rattle.std.proofs.Common.{◌≡◌, ℕ, true, false, ◌∷◌, Some, refl, sym, ap, ◌∙◌, subst}
use Rattle.std.proofs.lemmas.Bool.{false≢true}
use Rattle.mg_base.specs.Disk.{MayLeave, Meaning}
use Rattle.mg_base.specs.Image.{Image, page_at}
use Rattle.mg_base.specs.Moments.{LeavesOnly, goes_on, joined, leaves_as}
use Rattle.mg_careful.specs.CarefulWrite.{Cache, IsClosed}
use Rattle.mg_careful.specs.Graph.{PageGraph}
use Rattle.mg_model.specs.declared.opening.Opening.{Opening}
use Rattle.mg_model.specs.History.{Entries, Entry}
use Rattle.mg_model.specs.Legal.{IsLegal, MayBegin, durable_count, is_durable}
use Rattle.mg_image.specs.Form.{Form}
use Rattle.mg_pool.specs.Dirty.{DirtyPages}
use Rattle.mg_pool.specs.Pool.{IsClosedOverlay, cache_of, taken_out}
use Rattle.mg_pool.specs.declared.pool.Pool.{Pool}
use Rattle.mg_pool_overlay_laws.specs.Needs.{Asked, Sessions, needs_by}
use Rattle.mg_pool_overlay_laws.specs.Ties.{runs_are, runs_keep_needs}
use Rattle.mg_lasting_laws.specs.CommitLaws.{midway_is_written}
use Rattle.mg_lasting_laws.specs.CrashLaws.{asked_quiet, durable_leaves, from_longer, midway_holds_from, overlays_hold_from}
use Rattle.mg_lasting_laws.specs.Crashes.{HoldsAcknowledged, HoldsFrom, LeavesHistory, LeavesSince, asked, may_last}
use Rattle.mg_lasting_laws.specs.Lasting.{Lasts, LastsOn}
use Rattle.mg_lasting_laws.specs.PoolLaws.{CountsNow, HoldsOne, leaves_since, needs_are, pool_leaves}
use Rattle.mg_lasting_laws.specs.Settling.{SettlesBits, SettlingLasts}

-- no page is a closed set
none_closed : (cache : Cache) → IsClosed cache (λ p. false)
none_closed cache = record {
  only_dirty = λ p is. absurd (false≢true is);
  before = λ p q precedes dirty is. absurd (false≢true is);
}

module _ (D L : Type 0) (m : Meaning D) (counts_now : CountsNow D m) (form : Form)
    (o : Opening) (h : Entries) (e : Entry) (old after : Pool D L) (has_asked : Asked)
    (session : Sessions) (opening : MayBegin o) (legal : IsLegal o (e ∷ h))
    (durable : is_durable e ≡ true) (quiet : may_last e ≡ false) (tells : m.tells old.disk ≡ true)
    (lasts : LastsOn m form o h old has_asked session)
    (settles : SettlesBits m form o h e old after has_asked session) where
  abbrev size : ℕ
  size = old.dirty.size

  abbrev either : Image → Type 0
  either c = HoldsFrom form size o (e ∷ h) (durable_count h) c

  written_tells : m.tells settles.written.disk ≡ true
  written_tells = settles.run.tells ∙ settles.tells

  longer : (c : Image) → HoldsAcknowledged form size o h c → either c
  longer c is = from_longer form size o h e (durable_count h) c
      (subst (λ (x : Entries). HoldsFrom form size o x (durable_count h) c) lasts.settled is)

  -- what the change left
  first : LeavesSince m old.disk settles.changed.disk either
  first =
      let leaves = pool_leaves D L m counts_now form o h old settles.changed has_asked session opening legal.1
      tells settles.tells lasts settles.change_leaves in
      record {
        since = leaves_as m old.disk settles.changed.disk (HoldsAcknowledged form size o h) either
            (λ c is. longer c is) leaves.since;
        left = λ c may. longer c (leaves.left c may);
      }

  module _ (image : Image) (held : m.held settles.changed.disk ≡ Some image) where
    -- what the page writes left
    second : LeavesSince m settles.changed.disk settles.written.disk either
    second = leaves_since D L m counts_now either settles.changed settles.written image settles.tells
        written_tells held settles.run.crash first.left (λ c is. overlaid c is)
      where
        overlaid : (c : Image)
            → IsClosedOverlay settles.changed.dirty settles.changed.graph image c → either c
        overlaid c is = subst (λ (n : ℕ). HoldsFrom form n o (e ∷ h) (durable_count h) c) settles.size
            (midway_holds_from form settles.changed.dirty.size o h e settles.page settles.before
            (cache_of settles.changed.dirty settles.changed.graph image) has_asked
            (needs_by has_asked session settles.changed.dirty) is.set_ c opening legal
            (settles.midway image held) is.closed is.is.pages)

    since_start : LeavesOnly m old.disk after.disk either
    since_start = goes_on m old.disk settles.written.disk after.disk either
        (joined m old.disk settles.changed.disk settles.written.disk either first.since second.since)
        (settles.settles.time written_tells)
        (λ c may. second.left c (settles.settles.crash written_tells c may))

    module _ (final_ : Image) (held_after : m.held settles.written.disk ≡ Some final_) where
      written_size : settles.written.dirty.size ≡ size
      written_size = settles.run.size ∙ settles.size

      gone : taken_out settles.changed.dirty settles.written.dirty settles.page ≡ true
      gone = rw (settles.was_dirty, settles.out) refl

      -- every overlay is as it has to be for the history with the commit
      lasting : Lasts form settles.changed.dirty.size o (e ∷ h)
          (cache_of settles.written.dirty settles.written.graph final_) has_asked
          (needs_by has_asked session settles.written.dirty)
      lasting = midway_is_written form settles.changed.dirty.size o h e settles.page settles.before
          (cache_of settles.changed.dirty settles.changed.graph image)
          (cache_of settles.written.dirty settles.written.graph final_)
          (taken_out settles.changed.dirty settles.written.dirty) has_asked
          (needs_by has_asked session settles.changed.dirty)
          (needs_by has_asked session settles.written.dirty)
          (runs_are D L m settles.changed settles.written image final_ settles.run settles.tells held held_after)
          gone (runs_keep_needs D L m settles.changed settles.written has_asked session settles.run)
          (needs_are settles.written.dirty settles.written.graph final_ has_asked session)
          (settles.midway image held)

      -- the disk alone holds it
      final_holds : HoldsFrom form size o (e ∷ h) (durable_count (e ∷ h)) final_
      final_holds = subst (λ (n : ℕ). HoldsFrom form n o (e ∷ h) (durable_count (e ∷ h)) final_) settles.size
          (overlays_hold_from form settles.changed.dirty.size o (e ∷ h)
          (cache_of settles.written.dirty settles.written.graph final_) has_asked
          (needs_by has_asked session settles.written.dirty) (λ p. false) final_ opening legal lasting
          (none_closed (cache_of settles.written.dirty settles.written.graph final_))
          (λ p. ap (λ (n : ℕ). page_at n final_ p) (sym settles.run.size)))

      only_final : (c : Image) → MayLeave m after.disk c → c ≡ final_
      only_final c may =
          let both : Some c ≡ Some final_ = sym (settles.durable c may)
          ∙ (settles.settles.held ∙ held_after) in cc

      left_after : (c : Image) → MayLeave m after.disk c
          → HoldsFrom form size o (e ∷ h) (durable_count (e ∷ h)) c
      left_after c may = subst (λ (i : Image). HoldsFrom form size o (e ∷ h) (durable_count (e ∷ h)) i)
          (sym (only_final c may)) final_holds

      leaves : LeavesHistory m old.disk after.disk form size o h (e ∷ h)
      leaves = durable_leaves D m form size o h e old.disk after.disk quiet lasts.settled since_start left_after

      whole : asked (e ∷ h) ≡ e ∷ h
      whole = asked_quiet h e quiet ∙ ap (λ (x : Entries). e ∷ x) lasts.settled

      abbrev LastsFor : DirtyPages → PageGraph → Type 0
      LastsFor dirty graph = Lasts form dirty.size o (e ∷ h) (cache_of dirty graph final_) has_asked
          (needs_by has_asked session dirty)

      lasting_written : LastsFor settles.written.dirty settles.written.graph
      lasting_written = subst (λ (n : ℕ). Lasts form n o (e ∷ h)
          (cache_of settles.written.dirty settles.written.graph final_) has_asked
          (needs_by has_asked session settles.written.dirty)) (sym settles.run.size) lasting

      lasting_after : LastsFor after.dirty after.graph
      lasting_after = subst (λ (x : DirtyPages). LastsFor x after.graph) (sym settles.dirty_same)
          (subst (λ (x : PageGraph). LastsFor settles.written.dirty x) (sym settles.graph_same)
          lasting_written)

      after_size : after.dirty.size ≡ size
      after_size = ap (λ (x : DirtyPages). x.size) settles.dirty_same ∙ written_size

      pub settled_lasts : LastsOn m form o (e ∷ h) after has_asked session
          × LeavesHistory m old.disk after.disk form size o h (e ∷ h)
      settled_lasts = (
        record {
          image = final_;
          held = settles.settles.held ∙ held_after;
          lasts = lasting_after;
          settled = whole;
          left = λ c may. subst (λ (n : ℕ). HoldsAcknowledged form n o (e ∷ h) c) (sym after_size)
              (leaves.left c may);
        },
        leaves,
      )

pub settling_lasts : (D L : Type 0) (m : Meaning D) → CountsNow D m → HoldsOne D m → (form : Form)
    → SettlingLasts D L m form
settling_lasts D L m counts_now holds form o h e old after has_asked session opening legal durable quiet
    tells lasts settles = at (holds settles.changed.disk settles.tells)
    (holds settles.written.disk (settles.run.tells ∙ settles.tells))
  where
    at : (image : Image) × (m.held settles.changed.disk ≡ Some image) × MayLeave m settles.changed.disk image
        → (final_ : Image) × (m.held settles.written.disk ≡ Some final_)
        × MayLeave m settles.written.disk final_
        → LastsOn m form o (e ∷ h) after has_asked session
        × LeavesHistory m old.disk after.disk form old.dirty.size o h (e ∷ h)
    at (image, held, may) (final_, held_after, may_after) =
        settled_lasts D L m counts_now form o h e old after has_asked session opening legal durable quiet
        tells lasts settles image held final_ held_after
