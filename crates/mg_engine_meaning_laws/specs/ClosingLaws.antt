-- An engine that is closed leaves what its history has.
use Rattle.std.proofs.Common.{◌≡◌, ◌≤◌, ℕ, Bool, true, false, List, [], ◌∷◌, Option, None, Some, Result, Ok, Err, refl, sym, ap, ◌∙◌, subst, arith}
use Rattle.std.proofs.Math.Path.{fun_ext}
use Rattle.std.proofs.lemmas.Bool.{false≢true}
use Rattle.mg_base.specs.Disk.{MayLeave, Meaning}
use Rattle.mg_base.specs.Image.{Image, blank, page_at}
use Rattle.mg_base.specs.Moments.{joined, started}
use Rattle.mg_base.specs.declared.transaction.TxState.{TxState}
use Rattle.mg_base.specs.declared.transaction.TxState.TheVariants.{Active, Committed, Dead, Limbo}
use Rattle.mg_careful.specs.CarefulWrite.{IsClosed}
use Rattle.mg_core.specs.Cores.{IsCore}
use Rattle.mg_core.specs.Opening.{ClosesDisk, IsAnswer}
use Rattle.mg_core.specs.declared.parts.Core.{Core}
use Rattle.mg_database.specs.Finishing.{Ends as EndsStore, FailsToEnd, FailsWriting, Finishes, HasWrittenOn, WritesOn, offline, unsettled, unwritten}
use Rattle.mg_engine_meaning_laws.specs.PlainTables.{EachIsPlain}
use Rattle.mg_engine_meaning_laws.specs.Standings.{ShowsIt, StandsFor, StandsWhile, asked_in, sessions_in, standing_of}
use Rattle.mg_image.specs.Form.{Pages, packed_form}
use Rattle.mg_image.specs.Histories.{HoldsDurable}
use Rattle.mg_image.specs.Inventory.{next_of, state_at}
use Rattle.mg_image.specs.Opening.{Holds, IsOpened, Opened, sound_image, unmade_image}
use Rattle.mg_image.specs.Sound.{IsSoundBy}
use Rattle.mg_lasting_laws.specs.CrashStatements.{PoolLeaves, RunsLast}
use Rattle.mg_lasting_laws.specs.Crashes.{HoldsAcknowledged, HoldsFrom, LeavesSince, asked}
use Rattle.mg_lasting_laws.specs.Lasting.{LastsOn}
use Rattle.mg_lasting_laws.specs.PoolLaws.{HoldsOne}
use Rattle.mg_model.specs.History.{Entries}
use Rattle.mg_model.specs.Laws.{OpeningsBegin}
use Rattle.mg_model.specs.Legal.{IsLegal, MayBegin, durable_count}
use Rattle.mg_model.specs.Machine.{state_of}
use Rattle.mg_model.specs.declared.opening.Opening.{Opening}
use Rattle.mg_model.specs.declared.refusal.Refusal.{Refusal}
use Rattle.mg_overlay_laws.specs.Overlays.{left_by, left_state, nobody}
use Rattle.mg_pool.specs.Pool.{HasAtMost, KeepsContent, cache_of, shown}
use Rattle.mg_pool.specs.declared.fault.PoolFault.{PoolFault}
use Rattle.mg_pool.specs.declared.pool.Pool.{Pool}
use Rattle.mg_pool_overlay_laws.specs.Needs.{Asked, Sessions}
use Rattle.mg_space.specs.FreePages.{HasFree}
use Rattle.mg_space.specs.ViewLaws.{CountsNow}
use Rattle.mg_space.specs.declared.links.FireLinks.{FireLinks}
use Rattle.mg_survey.specs.Survey.{IsSameDisk}
use Rattle.mg_txlist.specs.TxList.{said}
use Rattle.mg_engine_meaning_laws.specs.BlankLaws.{no_header}
use Rattle.mg_engine_meaning_laws.specs.Closings.{ClosesEngine, Ends, LeavesAll, RefusesClose}
use Rattle.mg_engine_meaning_laws.specs.FreePages.{CoreHasFree}
use Rattle.mg_engine_meaning_laws.specs.OpenedLaws.{content_leaves}

-- ---- page writes

-- Pages were written, and the cache lasts with the history still.
pub record Lasted {D : Type 0} (m : Meaning D) (o : Opening) (h : Entries) (has_asked : Asked) (session : Sessions)
    (old now : Pool D FireLinks) : Type 0 where
  pub size : now.dirty.size ≡ old.dirty.size
  pub tells : m.tells now.disk ≡ true
  pub offline : now.offline ≡ old.offline
  pub lasts : LastsOn m packed_form o h now has_asked session
  pub since : LeavesSince m old.disk now.disk (HoldsAcknowledged packed_form old.dirty.size o h)

leaves_then : {D : Type 0} (m : Meaning D) (P : Image → Type 0) (old mid new : D) → LeavesSince m old mid P
    → LeavesSince m mid new P → LeavesSince m old new P
leaves_then m P old mid new first second = record {
  since = joined m old mid new P first.since second.since;
  left = second.left;
}

leaves_still : {D : Type 0} (m : Meaning D) → CountsNow m → (P : Image → Type 0) (old new : D) → m.tells old ≡ true
    → KeepsContent m old new → ((c : Image) → MayLeave m old c → P c) → LeavesSince m old new P
leaves_still m counts P old new told keeps was = record {
  since = content_leaves m counts P old new told keeps was;
  left = λ c may. was c (keeps.crash told c may);
}

module _ {D : Type 0} (m : Meaning D) (counts : CountsNow m) (runs : RunsLast D FireLinks m packed_form)
    (leaves : PoolLeaves D FireLinks m packed_form) (o : Opening) (h : Entries) (opening : MayBegin o)
    (legal : IsLegal o h) (has_asked : Asked) (session : Sessions) where
  run_lasts : (between : List (Pool D FireLinks)) (old now : Pool D FireLinks) → m.tells old.disk ≡ true
      → LastsOn m packed_form o h old has_asked session → WritesOn m between old now
      → Lasted m o h has_asked session old now
  run_lasts [] old now tells lasts same = subst (Lasted m o h has_asked session old) (sym same) (record {
    size = refl;
    tells = tells;
    offline = refl;
    lasts = lasts;
    since = record {
      since = started m old.disk (HoldsAcknowledged packed_form old.dirty.size o h) lasts.left;
      left = lasts.left;
    };
  })
  run_lasts (mid ∷ earlier) old now tells lasts run = on (run_lasts earlier old mid tells lasts run.0)
    where
      on : Lasted m o h has_asked session old mid → Lasted m o h has_asked session old now
      on so_far =
          let step = runs o h mid now has_asked session opening legal so_far.tells run.1 so_far.lasts in record {
            size = run.1.size ∙ so_far.size;
            tells = run.1.tells ∙ so_far.tells;
            offline = run.1.offline ∙ so_far.offline;
            lasts = step.0;
            since = leaves_then m (HoldsAcknowledged packed_form old.dirty.size o h) old.disk mid.disk now.disk
                so_far.since (subst (λ (n : ℕ). LeavesSince m mid.disk now.disk
                (HoldsAcknowledged packed_form n o h)) so_far.size step.1);
          }

  -- then a page write failed
  failed_leaves : (old new : Pool D FireLinks) (count : ℕ) → m.tells old.disk ≡ true
      → LastsOn m packed_form o h old has_asked session → FailsWriting m old new count
      → LeavesSince m old.disk new.disk (HoldsAcknowledged packed_form old.dirty.size o h)
  failed_leaves old new count tells lasts fails =
      let first = run_lasts fails.run.between old fails.mid tells lasts fails.run.run in
      let second = runs o h fails.mid fails.fails.before has_asked session opening legal first.tells
      fails.fails.written first.lasts in
      let told : m.tells fails.fails.before.disk ≡ true = fails.fails.written.tells ∙ first.tells in
      let last = leaves o h fails.fails.before new has_asked session opening legal told
      (fails.fails.fails.time.tells ∙ told) second.0 fails.fails.fails.crash in
      leaves_then m (HoldsAcknowledged packed_form old.dirty.size o h) old.disk fails.mid.disk new.disk first.since
      (leaves_then m (HoldsAcknowledged packed_form old.dirty.size o h) fails.mid.disk fails.fails.before.disk new.disk
      (subst (λ (n : ℕ). LeavesSince m fails.mid.disk fails.fails.before.disk (HoldsAcknowledged packed_form n o h))
      first.size second.1)
      (subst (λ (n : ℕ). LeavesSince m fails.fails.before.disk new.disk (HoldsAcknowledged packed_form n o h))
      (fails.fails.written.size ∙ first.size) last))

  -- or the disk was settled, or that failed
  settled_leaves : (old written new : Pool D FireLinks) → m.tells old.disk ≡ true
      → LastsOn m packed_form o h old has_asked session → HasWrittenOn m old written
      → KeepsContent m written.disk new.disk
      → LeavesSince m old.disk new.disk (HoldsAcknowledged packed_form old.dirty.size o h)
  settled_leaves old written new tells lasts run keeps =
      let first = run_lasts run.between old written tells lasts run.run in
      leaves_then m (HoldsAcknowledged packed_form old.dirty.size o h) old.disk written.disk new.disk first.since
      (leaves_still m counts (HoldsAcknowledged packed_form old.dirty.size o h) written.disk new.disk first.tells keeps
      (λ c may. subst (λ (n : ℕ). HoldsAcknowledged packed_form n o h c) first.size (first.lasts.left c may)))

  finish_leaves : (old new : Pool D FireLinks) (ended : Result (Unit {0}) PoolFault) → m.tells old.disk ≡ true
      → LastsOn m packed_form o h old has_asked session → Finishes m old new ended
      → LeavesSince m old.disk new.disk (HoldsAcknowledged packed_form old.dirty.size o h)
  finish_leaves old new (Ok x) tells lasts ends =
      settled_leaves old ends.written new tells lasts ends.run ends.settles
  finish_leaves old new (Err fault) tells lasts fails = by fault fails
    where
      by : (it : PoolFault) → FailsToEnd m old new it
          → LeavesSince m old.disk new.disk (HoldsAcknowledged packed_form old.dirty.size o h)
      by _ (offline count is same) = subst (λ (s : Pool D FireLinks). LeavesSince m old.disk s.disk
          (HoldsAcknowledged packed_form old.dirty.size o h)) (sym same) (record {
            since = started m old.disk (HoldsAcknowledged packed_form old.dirty.size o h) lasts.left;
            left = lasts.left;
          })
      by _ (unwritten count writing) = failed_leaves old new count tells lasts writing
      by _ (unsettled count written run clean settles rose) =
          settled_leaves old written new tells lasts run settles

-- ---- the image that is left

not_blank : (size : ℕ) (pages : Pages) (opened : Opened) → Holds packed_form size pages opened
    → (pages 0 ≡ blank size → ⊥) → IsOpened packed_form size pages opened
not_blank size pages opened (unmade_image none new) not_ = absurd (not_ none.header)
not_blank size pages opened (sound_image is) not_ = is

-- who counted as dead, where nobody was active, is dead for all
left_again : (b : Bool) (x : TxState) → left_by b (left_by false x) ≡ left_by false x
left_again b Active = refl
left_again b Limbo = refl
left_again b Dead = refl
left_again b Committed = refl

same_count : (k n : ℕ) → n ≤ k → k ≤ n → k ≡ n
same_count k n least most = omega (arith, least, most)

module _ {D : Type 0} (m : Meaning D) (counts : CountsNow m) (holds_one : HoldsOne D m)
    (runs : RunsLast D FireLinks m packed_form) (leaves : PoolLeaves D FireLinks m packed_form)
    (begin : OpeningsBegin) (old : Core D) (core_is : IsCore m old) (o : Opening) (h : Entries)
    (stands : StandsFor m old o h) where
  abbrev size : ℕ
  size = old.store.geometry.size

  dirty_size : old.store.dirty.size ≡ size
  dirty_size = core_is.pool.page_size

  module _ (shows : ShowsIt m old o h (standing_of old stands.numbers stands.tables)) (new : Pool D FireLinks)
      (ends : EndsStore m old.store new) where
    lasted : Lasted m o h (asked_in old.works) (sessions_in old.works) old.store ends.written
    lasted = run_lasts m counts runs leaves o h (begin o shows.stands.opening) shows.stands.legal
        (asked_in old.works) (sessions_in old.works) ends.run.between old.store ends.written stands.tells
        shows.lasts ends.run.run

    abbrev image : Image
    image = lasted.lasts.image

    told : m.tells new.disk ≡ true
    told = ends.settles.tells ∙ lasted.tells

    held : m.held new.disk ≡ Some image
    held = ends.settles.held ∙ lasted.lasts.held

    only : (c : Image) → MayLeave m new.disk c → c ≡ image
    only c may =
        let both : Some c ≡ Some image = sym (ends.durable stands.tells c may) ∙ held in
        let same : c ≡ image = cc in same

    may_be_left : MayLeave m new.disk image
    may_be_left = on (holds_one new.disk told)
      where
        on : (i : Image) × (m.held new.disk ≡ Some i) × MayLeave m new.disk i → MayLeave m new.disk image
        on (i, its, may) = subst (MayLeave m new.disk) (only i may) may

    size_is : ends.written.dirty.size ≡ size
    size_is = lasted.size ∙ dirty_size

    acknowledged : HoldsFrom packed_form size o h (durable_count h) image
    acknowledged = subst (λ (hs : Entries). HoldsFrom packed_form size o hs (durable_count h) image)
        lasted.lasts.settled
        (subst (λ (n : ℕ). HoldsFrom packed_form n o (asked h) (durable_count h) image) size_is
        (lasted.lasts.left image (ends.settles.crash lasted.tells image may_be_left)))

    all_held : HoldsDurable packed_form size (page_at size image) o h (durable_count h)
    all_held = subst (λ (k : ℕ). HoldsDurable packed_form size (page_at size image) o h k)
        (same_count acknowledged.k (durable_count h) acknowledged.at_least acknowledged.at_most) acknowledged.holds

    -- the disk has the pages that the cache showed
    as_shown : page_at size image ≡ shown old.store.dirty shows.image
    as_shown = ap (λ (n : ℕ). page_at n image) (sym dirty_size)
        ∙ fun_ext (λ p. ends.holds shows.image image (record { told = stands.tells; held = shows.held }) held p)

    -- which are those of which the cache's next number is told
    same_pages : page_at size image ≡ shown old.store.dirty shows.lasts.image
    same_pages =
        let both : Some shows.image ≡ Some shows.lasts.image = sym shows.held ∙ shows.lasts.held in
        let same : shows.image ≡ shows.lasts.image = cc in
        as_shown ∙ ap (shown old.store.dirty) same

    no_blank : page_at size image 0 ≡ blank size → ⊥
    no_blank none = no_header size size (shown old.store.dirty shows.image) shows.stands.shows.sound.header
        (sym (ap (λ (ps : Pages). ps 0) as_shown) ∙ none)

    none_closed : IsClosed (cache_of ends.written.dirty ends.written.graph image) (λ p. false)
    none_closed = record {
      only_dirty = λ p in_it. absurd (false≢true in_it);
      before = λ p q precedes dirty in_it. absurd (false≢true in_it);
    }

    bits : (t : ℕ) → state_at size (page_at size image) t ≡ left_state nobody (said old.list) t
    bits t = subst (λ (n : ℕ). state_at n (page_at n image) t ≡ left_state nobody (state_of o h) t) size_is
        (lasted.lasts.lasts.bits (λ p. false) none_closed t)
        ∙ ap (left_by false) (sym (shows.stands.memory.state t))

    states : (chosen : ℕ → Bool)
        → left_state chosen (state_at size (page_at size image)) ≡ left_state nobody (said old.list)
    states chosen = fun_ext (λ t. ap (left_by (chosen t)) (bits t) ∙ left_again (chosen t) (said old.list t))

    plain : EachIsPlain size (state_at size (page_at size image)) (page_at size image)
    plain chosen layout r sound its there = shows.plain_tables.each nobody layout r
        (subst (λ (ps : Pages). IsSoundBy packed_form size (left_state nobody (said old.list)) ps layout r) as_shown
        (subst (λ (x : ℕ → TxState). IsSoundBy packed_form size x (page_at size image) layout r) (states chosen)
        sound)) its there

    -- as many pages are free on it as the cache tells
    left_free : (count : ℕ) → CoreHasFree m old count → HasFree old.store.geometry (page_at size image) count
    left_free count has = subst (λ (ps : Pages). HasFree old.store.geometry ps count) (sym as_shown)
        (has shows.image (record { told = stands.tells; held = shows.held })).free

    all_left : LeavesAll m old new.disk o h
    all_left = record {
      left = record {
        image = image;
        settled = record { tells = record { told = told; held = held }; only = only };
        holds = all_held;
        sound = not_blank size (page_at size image) all_held.opened all_held.holds no_blank;
        plain = plain;
        next = ap next_of same_pages ∙ shows.lasts.lasts.next;
      };
      free = left_free;
    }

-- ---- the call

-- no page write had failed before
still_online : {D : Type 0} (m : Meaning D) (between : List (Pool D FireLinks)) (old now : Pool D FireLinks)
    → WritesOn m between old now → now.offline ≡ old.offline
still_online {D} m [] old now same = ap (λ (s : Pool D FireLinks). s.offline) same
still_online m (mid ∷ earlier) old now run = run.1.offline ∙ still_online m earlier old mid run.0

-- where one had failed, nothing is written
offline_leaves : {D : Type 0} (m : Meaning D) (old new : Pool D FireLinks) (ended : Result (Unit {0}) PoolFault)
    (count : ℕ) → old.offline ≡ Some count → Finishes m old new ended → (P : Image → Type 0)
    → ((c : Image) → MayLeave m old.disk c → P c) → LeavesSince m old.disk new.disk P
offline_leaves m old new (Ok x) count down ends P left =
    let both : None ≡ Some count = sym ends.online ∙ down in absurd cc
offline_leaves {D} m old new (Err fault) count down fails P left = by fault fails
  where
    not_online : old.offline ≡ None → ⊥
    not_online up = let both : None ≡ Some count = sym up ∙ down in absurd cc

    run_online : (mid : Pool D FireLinks) → HasWrittenOn m old mid → old.offline ≡ None
    run_online mid run = sym (still_online m run.between old mid run.run) ∙ run.online

    by : (it : PoolFault) → FailsToEnd m old new it → LeavesSince m old.disk new.disk P
    by _ (offline n is same) = subst (λ (s : Pool D FireLinks). LeavesSince m old.disk s.disk P) (sym same)
        (record { since = started m old.disk P left; left = left })
    by _ (unwritten n writing) = absurd (not_online (run_online writing.mid writing.run))
    by _ (unsettled n written run clean settles rose) = absurd (not_online (run_online written run))

-- why it is refused
refused_end : {D : Type 0} (m : Meaning D) (old : Core D) (new : Pool D FireLinks) (refusal : Refusal)
    (fault : PoolFault) → FailsToEnd m old.store new fault → IsAnswer (Err fault) (Err refusal)
    → RefusesClose m old new.disk refusal
refused_end {D} m old new refusal _ (offline count is same) answer = subst (RefusesClose m old new.disk) (sym answer)
    (is, ap (λ (s : Pool D FireLinks). s.disk) same)
refused_end m old new refusal _ (unwritten count writing) answer = subst (RefusesClose m old new.disk) (sym answer) (
  sym (still_online m writing.run.between old.store writing.mid writing.run.run) ∙ writing.run.online,
  writing.rose,
  writing.failed_writes,
)
refused_end m old new refusal _ (unsettled count written run clean settles rose) answer =
    subst (RefusesClose m old new.disk) (sym answer)
    (sym (still_online m run.between old.store written run.run) ∙ run.online, rose.0, rose.1)

module _ {D : Type 0} (m : Meaning D) (counts : CountsNow m) (holds_one : HoldsOne D m)
    (runs : RunsLast D FireLinks m packed_form) (leaves : PoolLeaves D FireLinks m packed_form)
    (begin : OpeningsBegin) (old : Core D) (core_is : IsCore m old) where
  shows_of : (o : Opening) (h : Entries) (stands : StandsFor m old o h) → old.store.offline ≡ None
      → ShowsIt m old o h (standing_of old stands.numbers stands.tables)
  shows_of o h stands online = subst (StandsWhile m old o h (standing_of old stands.numbers stands.tables)) online
      stands.stands

  finish_crash : (new : Pool D FireLinks) (ended : Result (Unit {0}) PoolFault) → Finishes m old.store new ended
      → (o : Opening) (h : Entries) → StandsFor m old o h
      → LeavesSince m old.store.disk new.disk (HoldsAcknowledged packed_form old.store.geometry.size o h)
  finish_crash new ended finishes o h stands = subst (λ (n : ℕ). LeavesSince m old.store.disk new.disk
      (HoldsAcknowledged packed_form n o h)) core_is.pool.page_size (at old.store.offline refl stands.stands)
    where
      at : (x : Option ℕ) → old.store.offline ≡ x
          → StandsWhile m old o h (standing_of old stands.numbers stands.tables) x
          → LeavesSince m old.store.disk new.disk (HoldsAcknowledged packed_form old.store.dirty.size o h)
      at None is shows = finish_leaves m counts runs leaves o h (begin o shows.stands.opening) shows.stands.legal
          (asked_in old.works) (sessions_in old.works) old.store new ended stands.tells shows.lasts finishes
      at (Some count) is keeps = offline_leaves m old.store new ended count is finishes
          (HoldsAcknowledged packed_form old.store.dirty.size o h) keeps.left

  its_end : (new : Pool D FireLinks) (ended : Result (Unit {0}) PoolFault) (result : Result (Unit {0}) Refusal)
      → Finishes m old.store new ended → IsAnswer ended result → Ends m old new.disk result
  its_end new (Ok x) (Ok y) ends is = (
    ends.online,
    ends.steady,
    λ o h stands. all_left m counts holds_one runs leaves begin old core_is o h stands
        (shows_of o h stands ends.online) new ends,
    ends.none_failed,
  )
  its_end new (Ok x) (Err refusal) ends is = absurd is
  its_end new (Err fault) (Ok y) fails is = absurd is
  its_end new (Err fault) (Err refusal) fails is = refused_end m old new refusal fault fails is

  pub closes_engine : (disk : D) (result : Result (Unit {0}) Refusal) → ClosesDisk m old.store disk result
      → ClosesEngine m old disk result
  closes_engine disk result closes = subst (λ (d : D). ClosesEngine m old d result) (sym closes.is_disk) (record {
    ended = its_end closes.new closes.ended result closes.finishes closes.is;
    same = subst (IsSameDisk m old.store.disk) closes.is_disk closes.same;
    within = subst (λ (d : D). HasAtMost m d old.store.geometry.limit) closes.is_disk closes.within;
    crash = finish_crash closes.new closes.ended closes.finishes;
  })
