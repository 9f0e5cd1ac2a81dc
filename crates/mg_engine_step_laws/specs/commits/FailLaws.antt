-- A commit whose page writes failed: each crash left the history with the commit, or without it.
use Rattle.std.proofs.Common.{◌≡◌, ◌||◌, sym, ap, ◌∙◌, subst, ℕ, true, ◌∷◌, ◌/◌, None, Some, inl}
use Rattle.mg_base.specs.Disk.{MayLeave, Meaning}
use Rattle.mg_base.specs.Image.{Image, page_at}
use Rattle.mg_base.specs.Moments.{LeavesOnly, goes_on, joined, leaves_as}
use Rattle.mg_base.specs.declared.numbers.TxNo.{TxNo}
use Rattle.mg_base.specs.declared.transaction.TxState.{TxState}
use Rattle.mg_base.specs.declared.transaction.TxState.TheVariants.{Active, Committed}
use Rattle.mg_careful.specs.CarefulWrite.{IsClosed, PageSet, overlay}
use Rattle.mg_model.specs.declared.answer.Answer.TheVariants.{Fine}
use Rattle.mg_model.specs.declared.event.Event.{Event}
use Rattle.mg_model.specs.declared.event.Event.TheVariants.{Commit}
use Rattle.mg_model.specs.declared.opening.Opening.{Opening}
use Rattle.mg_model.specs.Answers.{answer, if_active}
use Rattle.mg_model.specs.History.{Ends, Entries, Entry, effect_of, effect_with, entry}
use Rattle.mg_model.specs.Laws.{OpeningsBegin}
use Rattle.mg_model.specs.Legal.{IsLawful, IsLegal, MayBegin, durable_count, with_asked}
use Rattle.mg_image.specs.Form.{Form}
use Rattle.mg_image_overlay_laws.specs.pages.Kinds.{HasNoSequences}
use Rattle.mg_pool.specs.Pool.{IsClosedOverlay, IsPool, KeepsContent, LeavesOverlays, WritesSet, cache_of, shown, taken_out}
use Rattle.mg_pool.specs.Run.{HasWritten}
use Rattle.mg_pool.specs.declared.fault.PoolFault.TheVariants as faults
use Rattle.mg_pool.specs.declared.pool.Pool.{Pool}
use Rattle.mg_pool_overlay_laws.specs.Needs.{Asked, Sessions, needs_by}
use Rattle.mg_space.specs.View.{Tells}
use Rattle.mg_tip.specs.TipPage.{places}
use Rattle.mg_txlist.specs.Ending.{ChangesBits, FailsCommit, FailsToSettle, not_changed, not_settled, not_written}
use Rattle.mg_txlist.specs.TxList.{tip_in}
use Rattle.mg_txlist.specs.declared.list.TxList.{TxList}
use Rattle.mg_tie_laws.specs.CommitTies.{ShowsTip}
use Rattle.mg_lasting_laws.specs.CommitStatements.{CommitGoesMidway}
use Rattle.mg_lasting_laws.specs.CrashLaws.{from_longer}
use Rattle.mg_lasting_laws.specs.Crashes.{HoldsAcknowledged, HoldsFrom, LeavesHistory, LeavesSince}
use Rattle.mg_lasting_laws.specs.CrashStatements.{FailedLeaves, MidwayHolds, PoolLeaves}
use Rattle.mg_lasting_laws.specs.Lasting.{LastsMidway, LastsOn}
use Rattle.mg_lasting_laws.specs.PoolLaws.{CountsNow, HoldsOne, leaves_since}
use Rattle.mg_engine_step_laws.specs.standing.Following.{StandsOn}
use Rattle.mg_engine_step_laws.specs.standing.Standing.{Standing, Stands}
use Rattle.mg_engine_step_laws.specs.commits.CommitLaws.{ChangesFrom, changed_size, changed_tells, lasts_midway}
use Rattle.mg_engine_step_laws.specs.commits.Commits.{CommitsFail, HasNoneLeft}
use Rattle.mg_engine_step_laws.specs.commits.PageWrites.{PageWritesFail}

-- What is known of a commit whose page writes failed.
pub record FailsFrom {D L : Type 0} (m : Meaning D) (form : Form) (o : Opening) (h : Entries)
    (t : TxNo) (event : Event) (s : Standing) (old : TxList) (before after : Pool D L) (i : Image) (n : ℕ)
    (asked : Asked) (session : Sessions) : Type 0 where
  pub opening : MayBegin o
  pub stands : Stands form before.geometry.size o h s (Some (shown before.dirty i))
  pub lasts : LastsOn m form o h before asked session
  pub none_left : HasNoneLeft before.dirty asked session t.0
  pub pool : IsPool m before
  pub fails : FailsCommit m old before after t.0 (faults.DiskWrite n)
  pub tells : Tells m before.disk i
  pub also : m.tells after.disk ≡ true
  pub shows : ShowsTip old before.geometry.size (shown before.dirty i) t.0
  pub event_is : event ≡ Commit t
  pub active : s.state t.0 ≡ Active

module _ (D L : Type 0) (m : Meaning D) (counts : CountsNow D m) (holds : HoldsOne D m) (form : Form)
    (none : HasNoSequences form) (midway : CommitGoesMidway form) (pool_leaves : PoolLeaves D L m form)
    (midway_holds : MidwayHolds form) (writes_fail : PageWritesFail D L m form) (o : Opening) (h : Entries)
    (t : TxNo) (event : Event) (s : Standing) (old : TxList) (before after : Pool D L) (i : Image) (n : ℕ)
    (asked : Asked) (session : Sessions)
    (from : FailsFrom m form o h t event s old before after i n asked session) where
  abbrev size : ℕ
  size = before.dirty.size

  -- the event taken as effective
  abbrev done : Entry
  done = entry event Fine

  abbrev page : ℕ
  page = (tip_in old (t.0 / places old.size)).page

  abbrev either : Image → Type 0
  either c = HoldsFrom form size o (done ∷ h) (durable_count h) c

  effect_is : effect_of done ≡ Ends t.0 Committed
  effect_is = ap (λ (x : Event). effect_with x Fine) from.event_is

  lawful : IsLawful o h done
  lawful = inl (sym (ap (answer o h) from.event_is
      ∙ ap (λ (x : TxState). if_active x Fine) (sym (from.stands.memory.state t.0) ∙ from.active)))

  legal : IsLegal o (done ∷ h)
  legal = (lawful, from.stands.legal)

  longer : (c : Image) → HoldsAcknowledged form size o h c → either c
  longer c is = from_longer form size o h done (durable_count h) c
      (subst (λ (x : Entries). HoldsFrom form size o x (durable_count h) c) from.lasts.settled is)

  longer_since : (store : Pool D L)
      → LeavesSince m before.disk store.disk (HoldsAcknowledged form size o h)
      → LeavesSince m before.disk store.disk either
  longer_since store leaves = record {
    since = leaves_as m before.disk store.disk (HoldsAcknowledged form size o h) either
        (λ c is. longer c is) leaves.since;
    left = λ c may. longer c (leaves.left c may);
  }

  -- ---- the bits were changed

  module _ (changed : Pool D L)
      (changes : ChangesBits m before changed (record { 0 = page }) from.fails.bytes) where
    changing : ChangesFrom m form o h done t.0 s old before changed i from.fails.bytes asked session
    changing = record {
      stands = from.stands;
      opening = from.opening;
      lasts = from.lasts;
      none_left = from.none_left;
      pool = from.pool;
      tells = from.tells;
      shows = from.shows;
      sets = from.fails.sets;
      changes = changes;
      legal = legal;
      is = effect_is;
      active = from.active;
    }

    tells_now : m.tells changed.disk ≡ true
    tells_now = changed_tells m form none midway o h done t.0 s old before changed i from.fails.bytes asked
        session changing

    size_now : changed.dirty.size ≡ size
    size_now = changed_size m form none midway o h done t.0 s old before changed i from.fails.bytes asked
        session changing

    first : LeavesSince m before.disk changed.disk either
    first = longer_since changed (pool_leaves o h before changed asked session from.opening from.stands.legal
        from.tells.told tells_now from.lasts changes.crash)

    module _ (k : Image) (held : m.held changed.disk ≡ Some k) where
      lasts : LastsMidway form changed.dirty.size o h done page (shown before.dirty i)
          (cache_of changed.dirty changed.graph k) asked (needs_by asked session changed.dirty)
      lasts = lasts_midway m form none midway o h done t.0 s old before changed i from.fails.bytes asked session
          changing k held

      -- an image with the pages of a closed set's overlay holds the one history or the other
      overlaid : (set_ : PageSet) (c : Image)
          → ((p : ℕ) → page_at changed.dirty.size c p
          ≡ overlay (cache_of changed.dirty changed.graph k) set_ p)
          → IsClosed (cache_of changed.dirty changed.graph k) set_ → either c
      overlaid set_ c is closed = subst (λ (x : ℕ). HoldsFrom form x o (done ∷ h) (durable_count h) c) size_now
          (midway_holds changed.dirty.size o h done page (shown before.dirty i)
          (cache_of changed.dirty changed.graph k) asked (needs_by asked session changed.dirty) set_ c
          from.opening legal lasts closed is)

      module _ (written : Pool D L) (run : HasWritten m changed written) where
        written_tells : m.tells written.disk ≡ true
        written_tells = run.tells ∙ tells_now

        second : LeavesSince m changed.disk written.disk either
        second = leaves_since D L m counts either changed written k tells_now written_tells held run.crash
            first.left (λ c is. overlaid is.set_ c is.is.pages is.closed)

        both : LeavesOnly m before.disk written.disk either
        both = joined m before.disk changed.disk written.disk either first.since second.since

        -- the next page write failed
        then_failed : (final_ : Image) → m.held written.disk ≡ Some final_ → LeavesOverlays m written after
            → LeavesSince m before.disk after.disk either
        then_failed final_ held_then crash =
            let third : LeavesSince m written.disk after.disk either =
            leaves_since D L m counts either written after final_ written_tells from.also held_then crash
            second.left (λ c is. later c is) in
            record {
              since = joined m before.disk written.disk after.disk either both third.since;
              left = third.left;
            }
          where
            out : WritesSet changed.dirty written.dirty changed.graph written.graph k final_
                (taken_out changed.dirty written.dirty)
            out = run.out tells_now k final_ held held_then

            later : (c : Image) → IsClosedOverlay written.dirty written.graph final_ c → either c
            later c is = overlaid (λ p. taken_out changed.dirty written.dirty p || is.set_ p) c
                (λ p. ap (λ (x : ℕ). page_at x c p) (sym run.size) ∙ (is.is.pages p ∙ out.overlays is.set_
                is.closed p)) (out.closed is.set_ is.closed)

        -- the page was written, and the disk was not settled
        not_then_settled : KeepsContent m written.disk after.disk
            → LeavesSince m before.disk after.disk either
        not_then_settled keeps = record {
          since = goes_on m before.disk written.disk after.disk either both (keeps.time written_tells)
              (λ c may. second.left c (keeps.crash written_tells c may));
          left = λ c may. second.left c (keeps.crash written_tells c may);
        }

  -- ---- each way in which it failed

  abbrev Left : Type 0
  Left = LeavesSince m before.disk after.disk either × (after.dirty.size ≡ size)

  left : FailsToSettle m before after (record { 0 = page }) from.fails.bytes (faults.DiskWrite n) → Left
  left (not_changed refused) = (
    longer_since after (writes_fail before.geometry.size o h s before after i (faults.DiskWrite n) asked session
        from.stands from.lasts refused from.tells from.also).2,
    ap (λ (p : Pool D L). p.dirty.size) refused.fails.same ∙ refused.written.size,
  )
  left (not_written changed changes refused) = at (holds changed.disk (tells_now changed changes))
      (holds refused.before.disk (refused.written.tells ∙ tells_now changed changes))
    where
      at : (k : Image) × (m.held changed.disk ≡ Some k) × MayLeave m changed.disk k
          → (final_ : Image) × (m.held refused.before.disk ≡ Some final_)
          × MayLeave m refused.before.disk final_ → Left
      at (k, held, may) (final_, held_then, may_then) = (
        then_failed changed changes k held refused.before refused.written final_ held_then refused.fails.crash,
        ap (λ (p : Pool D L). p.dirty.size) refused.fails.same
            ∙ (refused.written.size ∙ size_now changed changes),
      )
  left (not_settled changed written changes run out settles same) =
      at (holds changed.disk (tells_now changed changes))
    where
      at : (k : Image) × (m.held changed.disk ≡ Some k) × MayLeave m changed.disk k → Left
      at (k, held, may) = (
        not_then_settled changed changes k held written run settles,
        ap (λ (p : Pool D L). p.dirty.size) same ∙ (run.size ∙ size_now changed changes),
      )

  pub failed_left : Left
  failed_left = left from.fails.fails

pub commits_fail : (D L : Type 0) (m : Meaning D) → CountsNow D m → HoldsOne D m → (form : Form)
    → HasNoSequences form → OpeningsBegin → CommitGoesMidway form → PoolLeaves D L m form
    → MidwayHolds form → FailedLeaves D m form → PageWritesFail D L m form → StandsOn form
    → CommitsFail D L m form
commits_fail D L m counts holds form none begins midway pool_leaves midway_holds failed writes_fail stands_on o
    h e t s new old before after i n asked session stands lasts none_left pool fails tells also shows lawful
    event_is may active follows = record {
      stands = stands_on before.geometry.size o h e s new (Some (shown before.dirty i)) None stands lawful
          follows tt;
      lasts = λ c is. subst (λ (x : ℕ). HoldsAcknowledged form x o (e ∷ h) c) (sym both.1) (leaves.left c is);
      leaves = leaves;
    }
  where
    both : LeavesSince m before.disk after.disk
        (HoldsFrom form before.dirty.size o (with_asked h e.event) (durable_count h))
        × (after.dirty.size ≡ before.dirty.size)
    both = failed_left D L m counts holds form none midway pool_leaves midway_holds writes_fail o h t e.event s
        old before after i n asked session (record {
          opening = begins o stands.opening;
          stands = stands;
          lasts = lasts;
          none_left = none_left;
          pool = pool;
          fails = fails;
          tells = tells;
          also = also;
          shows = shows;
          event_is = event_is;
          active = active;
        })

    leaves : LeavesHistory m before.disk after.disk form before.dirty.size o h (e ∷ h)
    leaves = failed before.dirty.size o h e before.disk after.disk may both.0
