-- A commit is asked for, and pages are written: the engine stands as it did.
use Rattle.std.proofs.Common.{◌≡◌, ◌≢◌, ◌⊎◌, inl, inr, ◌&&◌, ◌||◌, refl, sym, ap, ◌∙◌, subst, ℕ, Bool, true, false, not, List, Option, Some}
use Rattle.std.specs.Prelude.{is_some, unwrap_or}
use Rattle.std.proofs.Math.Path.{fun_ext}
use Rattle.std.proofs.lemmas.Bool.{cases_eq, false≢true}
use Rattle.mg_base.specs.Disk.{MayLeave, Meaning}
use Rattle.mg_base.specs.Image.{Image, page_at}
use Rattle.mg_base.specs.Moments.{LeavesOnly, joined}
use Rattle.mg_base.specs.declared.transaction.TxState.TheVariants.{Active}
use Rattle.mg_careful.specs.CarefulWrite.{Cache, Pages}
use Rattle.mg_model.specs.declared.opening.Opening.{Opening}
use Rattle.mg_model.specs.History.{Entries}
use Rattle.mg_model.specs.Laws.{OpeningsBegin}
use Rattle.mg_model.specs.Machine.{state_of}
use Rattle.mg_image.specs.Form.{Form}
use Rattle.mg_pool.specs.Dirty.{content_of, is_dirty, is_marked}
use Rattle.mg_pool.specs.Pool.{cache_of, shown}
use Rattle.mg_pool.specs.declared.pool.Pool.{Pool}
use Rattle.mg_pool_overlay_laws.specs.Needs.{Asked, Sessions, needs_by}
use Rattle.mg_lasting_laws.specs.Crashes.{HoldsAcknowledged, LeavesSince}
use Rattle.mg_lasting_laws.specs.CrashStatements.{PoolLeaves, RunsLast}
use Rattle.mg_lasting_laws.specs.Lasting.{Lasts, LastsOn}
use Rattle.mg_lasting_laws.specs.Laws.{AskingLasts}
use Rattle.mg_lasting_laws.specs.PoolLaws.{needs_are}
use Rattle.mg_engine_step_laws.specs.standing.Standing.{Standing, Stands}
use Rattle.mg_engine_step_laws.specs.commits.PageWrites.{AskingGoesOn, AsksNow, AsksOtherwise, PageWritesFail, PageWritesGoOn}

-- an engine stands as it did where all pages are shown as before
stands_same : (form : Form) (size : ℕ) (o : Opening) (h : Entries) (s : Standing) (pages later : Pages)
    → later ≡ pages → Stands form size o h s (Some pages) → Stands form size o h s (Some later)
stands_same form size o h s pages later same stands =
    subst (λ (ps : Pages). Stands form size o h s (Some ps)) (sym same) stands

-- ---- who has asked

pub asks_otherwise : (D L : Type 0) (m : Meaning D) (form : Form) → AskingLasts form
    → AsksOtherwise D L m form
asks_otherwise D L m form asking o h pool asked now_asked session now_session keep lasts = record {
  image = lasts.image;
  held = lasts.held;
  lasts = asking pool.dirty.size o h (cache_of pool.dirty pool.graph lasts.image) asked now_asked
      (needs_by asked session pool.dirty) (needs_by now_asked now_session pool.dirty)
      (needs_are pool.dirty pool.graph lasts.image now_asked now_session) needed lasts.lasts;
  settled = lasts.settled;
  left = lasts.left;
}
  where
    needed : (t p : ℕ) → state_of o h t ≡ Active → needs_by asked session pool.dirty t p ≡ true
        → needs_by now_asked now_session pool.dirty t p ≡ true
    needed t p active is = rw ((keep t active).0, (keep t active).1) is

-- ---- a commit is asked for

module _ (D L : Type 0) (o : Opening) (h : Entries) (before after : Pool D L) (t : ℕ)
    (asked now_asked : Asked) (session : Sessions)
    (asks : AsksNow o h before after t asked now_asked session) where
  contents_same : content_of after.dirty ≡ content_of before.dirty
  contents_same = fun_ext asks.marks.contents

  shown_same : (i : Image) → shown after.dirty i ≡ shown before.dirty i
  shown_same i = fun_ext (λ p. ap (λ (c : Option (List ℕ)). unwrap_or c (page_at after.dirty.size i p))
      (asks.marks.contents p)
      ∙ ap (λ (n : ℕ). unwrap_or (content_of before.dirty p) (page_at n i p)) asks.marks.size)

  graph_same : after.graph ≡ before.graph
  graph_same = ap (λ (p : Pool D L). p.graph) asks.same

  cache_same : (i : Image) → cache_of after.dirty after.graph i ≡ cache_of before.dirty before.graph i
  cache_same i = λ k. record {
    disk = page_at (asks.marks.size k) i;
    pool = shown_same i k;
    dirty = λ p. is_some (contents_same k p);
    ordered = (cache_of before.dirty (graph_same k) i).ordered;
  }

  needs_more : (u p : ℕ) → state_of o h u ≡ Active → needs_by asked session before.dirty u p ≡ true
      → needs_by now_asked session after.dirty u p ≡ true
  needs_more u p active is = at (cases_eq u t) (is_dirty before.dirty p) refl
    where
      dirty_same : is_dirty after.dirty p ≡ is_dirty before.dirty p
      dirty_same = ap (λ (c : Option (List ℕ)). is_some c) (asks.marks.contents p)

      is_needed : (dirty : Bool) → is_dirty before.dirty p ≡ dirty → (marked : Bool)
          → is_marked after.dirty p (session u) ≡ marked → (marked ≡ true) ⊎ (now_asked u ≡ false)
          → dirty ≡ true → needs_by now_asked session after.dirty u p ≡ true
      is_needed false was marked there which yes_ = absurd (false≢true yes_)
      is_needed true was true there which yes_ = rw (dirty_same ∙ was, there) (either (not (now_asked u)))
        where
          either : (b : Bool) → (b || true) ≡ true
          either true = refl
          either false = refl
      is_needed true was false there (inl both) yes_ = absurd (false≢true both)
      is_needed true was false there (inr none) yes_ = rw (dirty_same ∙ was, none) refl

      at : (u ≡ t) ⊎ (u ≢ t) → (dirty : Bool) → is_dirty before.dirty p ≡ dirty
          → needs_by now_asked session after.dirty u p ≡ true
      at which false was = absurd (false≢true (sym (rw was refl) ∙ is))
      at (inl same) true was = is_needed true was true (ap (λ (v : ℕ). is_marked after.dirty p (session v)) same
          ∙ (asks.marks.marked p ∙ was)) (inl refl) refl
      at (inr ne) true was = rw (
        dirty_same ∙ was,
        asks.others u ne,
        asks.marks.others p (session u) (λ same. ne (asks.apart u active same)),
      )
          (subst (λ (b : Bool). (b && (not (asked u) || is_marked before.dirty p (session u))) ≡ true) was is)

pub asking_goes_on : (D L : Type 0) (m : Meaning D) (form : Form) → AskingLasts form
    → AskingGoesOn D L m form
asking_goes_on D L m form asking size o h t s before after i asked now_asked session stands lasts asks = (
  stands_same form size o h s (shown before.dirty i) (shown after.dirty i)
      (shown_same D L o h before after t asked now_asked session asks i) stands,
  record {
    image = lasts.image;
    held = ap (λ (p : Pool D L). m.held p.disk) asks.same ∙ lasts.held;
    lasts = subst (λ (n : ℕ). Lasts form n o h (cache_of after.dirty after.graph lasts.image) now_asked
        (needs_by now_asked session after.dirty)) (sym asks.marks.size)
        (asking before.dirty.size o h (cache_of after.dirty after.graph lasts.image) asked now_asked
        (needs_by asked session before.dirty) (needs_by now_asked session after.dirty)
        (needs_are after.dirty after.graph lasts.image now_asked session)
        (needs_more D L o h before after t asked now_asked session asks)
        (subst (λ (c : Cache). Lasts form before.dirty.size o h c asked (needs_by asked session before.dirty))
        (sym (cache_same D L o h before after t asked now_asked session asks lasts.image)) lasts.lasts));
    settled = lasts.settled;
    left = λ c may. subst (λ (n : ℕ). HoldsAcknowledged form n o h c) (sym asks.marks.size)
        (lasts.left c (subst (λ (p : Pool D L). MayLeave m p.disk c) asks.same may));
  },
)

-- ---- pages are written

pub page_writes_go_on : (D L : Type 0) (m : Meaning D) (form : Form) → OpeningsBegin
    → RunsLast D L m form → PageWritesGoOn D L m form
page_writes_go_on D L m form begins last size o h s before after i j asked session stands lasts run tells held =
    let both = last o h before after asked session (begins o stands.opening) stands.legal tells.told run lasts in (
      stands_same form size o h s (shown before.dirty i) (shown after.dirty j)
          (fun_ext (run.out tells.told i j tells.held held).shown_same) stands,
      both.0,
      both.1,
    )

pub page_writes_fail : (D L : Type 0) (m : Meaning D) (form : Form) → OpeningsBegin → RunsLast D L m form
    → PoolLeaves D L m form → PageWritesFail D L m form
page_writes_fail D L m form begins last pool_leaves size o h s before after i fault asked session stands lasts
    fails tells also = (
      record {
        opening = stands.opening;
        legal = stands.legal;
        memory = stands.memory;
        shows = tt;
      },
      λ c may. subst (λ (n : ℕ). HoldsAcknowledged form n o h c) (sym after_size)
          (subst (λ (n : ℕ). HoldsAcknowledged form n o h c) size_is (second.left c may)),
      record {
        since = joined m before.disk fails.before.disk after.disk
            (HoldsAcknowledged form before.dirty.size o h) first.1.since
            (subst (λ (n : ℕ). LeavesOnly m fails.before.disk after.disk (HoldsAcknowledged form n o h))
            size_is second.since);
        left = λ c may. subst (λ (n : ℕ). HoldsAcknowledged form n o h c) size_is (second.left c may);
      },
    )
  where
    size_is : fails.before.dirty.size ≡ before.dirty.size
    size_is = fails.written.size

    after_size : after.dirty.size ≡ before.dirty.size
    after_size = ap (λ (p : Pool D L). p.dirty.size) fails.fails.same ∙ size_is

    first : LastsOn m form o h fails.before asked session
        × LeavesSince m before.disk fails.before.disk (HoldsAcknowledged form before.dirty.size o h)
    first = last o h before fails.before asked session (begins o stands.opening) stands.legal tells.told
        fails.written lasts

    second : LeavesSince m fails.before.disk after.disk
        (HoldsAcknowledged form fails.before.dirty.size o h)
    second = pool_leaves o h fails.before after asked session (begins o stands.opening) stands.legal
        (fails.written.tells ∙ tells.told) also first.0 fails.fails.crash
