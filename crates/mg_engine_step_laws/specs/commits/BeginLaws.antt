-- A begin takes the engine on to the longer history.
use Rattle.std.proofs.Common.{◌≡◌, ◌≢◌, ◌⊎◌, ◌<◌, ◌≤◌, ◌+◌, ◌&&◌, ◌||◌, inl, inr, refl, sym, ap, ◌∙◌, subst, arith, ℕ, Bool, true, false, not, ◌∷◌, Some}
use Rattle.std.proofs.lemmas.Bool.{cases_eq, cases_lt, eq-eqb, le-ltb, ne_eqb}
use Rattle.mg_base.specs.Disk.{Meaning}
use Rattle.mg_base.specs.Image.{Image}
use Rattle.mg_base.specs.declared.transaction.TxState.TheVariants.{Active, Dead}
use Rattle.mg_model.specs.declared.event.Mode.{Mode}
use Rattle.mg_model.specs.declared.opening.Opening.{Opening}
use Rattle.mg_model.specs.History.{Begins, Effect, Entries, Entry, effect_of}
use Rattle.mg_model.specs.Laws.{OpeningsBegin}
use Rattle.mg_model.specs.Legal.{IsLawful, IsLegal, MayBegin, is_durable}
use Rattle.mg_model.specs.LegalLaws.{IsAllowed, lawful_is_allowed}
use Rattle.mg_model.specs.Machine.{next_after, next_number, state_after, state_of}
use Rattle.mg_model.specs.Openings.{everyone}
use Rattle.mg_image.specs.Form.{Form, Pages}
use Rattle.mg_image.specs.Inventory.{next_of, state_at}
use Rattle.mg_image.specs.ReadingLaws.{RowsAreOne}
use Rattle.mg_image_overlay_laws.specs.transactions.Begins.{markers_are}
use Rattle.mg_image_overlay_laws.specs.pages.Kinds.{HasNoSequences}
use Rattle.mg_overlay_laws.specs.Overlays.{left_by, left_state}
use Rattle.mg_pool.specs.Dirty.{is_dirty, is_marked}
use Rattle.mg_pool.specs.Pool.{IsPool, cache_of, shown}
use Rattle.mg_pool.specs.declared.pool.Pool.{Pool}
use Rattle.mg_pool_overlay_laws.specs.Needs.{Asked, Sessions, needs_by}
use Rattle.mg_tie_laws.specs.Changed.{KeptIn, cache_over, needs_in}
use Rattle.mg_txlist.specs.declared.list.TxList.{TxList}
use Rattle.mg_tie_laws.specs.DrawTies.{DrawRowKeeps, DrawsFrom}
use Rattle.mg_lasting_laws.specs.Bits.{IsSettled}
use Rattle.mg_lasting_laws.specs.Changing.{QuietHolds}
use Rattle.mg_lasting_laws.specs.CrashLaws.{asked_quiet}
use Rattle.mg_lasting_laws.specs.Crashes.{HoldsAcknowledged, LeavesSince, may_last}
use Rattle.mg_lasting_laws.specs.Lasting.{Lasts, LastsOn}
use Rattle.mg_lasting_laws.specs.Laws.{ArePoolBits, BeginsFirst}
use Rattle.mg_engine_step_laws.specs.standing.Following.{FollowsEntry, StandsOn}
use Rattle.mg_engine_step_laws.specs.standing.QuietPages.{BeginShows, FindsAfter}
use Rattle.mg_engine_step_laws.specs.standing.Standing.{ShowsHistory, Standing, Stands}
use Rattle.mg_engine_step_laws.specs.writes.Batches.{BatchesLast}
use Rattle.mg_engine_step_laws.specs.writes.BatchLaws.{pool_bits_are}
use Rattle.mg_engine_step_laws.specs.writes.GoesOn.{HasGoneOn}
use Rattle.mg_engine_step_laws.specs.commits.Begins.{BeginsGoOn, DrawsStaySound}
use Rattle.mg_engine_step_laws.specs.commits.DrawnPages.{IsDrawn, drawn_pages}

pub draws_stay_sound : (D L : Type 0) (m : Meaning D) (form : Form) → RowsAreOne form.coding
    → HasNoSequences form → DrawsStaySound D L m form
draws_stay_sound D L m form one none old new before after i j state from layout r sound =
    (drawn_pages form one none m old new before after i j from state layout r sound).0

past_dead : (size : ℕ) (pages : Pages) (t : ℕ) → t ≢ 0 → next_of pages ≤ t → state_at size pages t ≡ Dead
unfolding state_at
past_dead size pages t some past = rw (ne_eqb t 0 some, le-ltb t (next_of pages) past) refl

module _ (D L : Type 0) (m : Meaning D) (form : Form) (one : RowsAreOne form.coding)
    (none : HasNoSequences form) (begins : OpeningsBegin) (first : BeginsFirst form)
    (keep : DrawRowKeeps form D L m) (last : BatchesLast D L m form) (quiet : QuietHolds form)
    (shows_on : BeginShows form) (stands_on : StandsOn form) (o : Opening) (h : Entries) (e : Entry)
    (t : ℕ) (mode : Mode) (s new : Standing) (old now : TxList) (before after : Pool D L) (i j : Image)
    (asked : Asked) (session now_session : Sessions)
    (stands : Stands form before.geometry.size o h s (Some (shown before.dirty i)))
    (lasts : LastsOn m form o h before asked session) (pool : IsPool m before)
    (from : DrawsFrom m old now before after i j) (tells : m.tells after.disk ≡ true)
    (lawful : IsLawful o h e) (passing : is_durable e ≡ false) (no_failure : may_last e ≡ false)
    (is : effect_of e ≡ Begins t mode) (not_asked : asked t ≡ false)
    (sessions : (u : ℕ) → asked u ≡ true → now_session u ≡ session u)
    (follows : FollowsEntry o h e s new)
    (finds : FindsAfter form before.geometry.size o h e s new (shown after.dirty j)) where
  abbrev size : ℕ
  size = before.geometry.size

  opening : MayBegin o
  opening = begins o stands.opening

  legal : IsLegal o (e ∷ h)
  legal = (lawful, stands.legal)

  size_is : before.dirty.size ≡ size
  size_is = pool.page_size

  image_is : lasts.image ≡ i
  image_is = let both : Some lasts.image ≡ Some i = sym lasts.held ∙ from.tells.held in cc

  were : Lasts form size o h (cache_over before i) asked (needs_in asked session before)
  were = subst (λ (n : ℕ). Lasts form n o h (cache_over before i) asked (needs_in asked session before)) size_is
      (subst (λ (k : Image). Lasts form before.dirty.size o h (cache_of before.dirty before.graph k) asked
      (needs_in asked session before)) image_is lasts.lasts)

  shows : ShowsHistory form size o h s (shown before.dirty i)
  shows = stands.shows

  drawn : IsDrawn size (shown before.dirty i) (shown after.dirty j)
  drawn = (drawn_pages form one none m old now before after i j from (left_state everyone s.state)
      shows.layout shows.reading shows.sound).1

  number : t ≡ next_of (shown before.dirty i)
  number = subst (IsAllowed o h) is (lawful_is_allowed o h e lawful) ∙ sym were.next

  some : t ≢ 0
  some zero =
      let least : 1 ≤ next_of (shown before.dirty i) =
      (markers_are size (shown before.dirty i) shows.sound.header).0 in
      omega (arith, zero, number, least)

  state_other : (u : ℕ) → u ≢ t → state_of o (e ∷ h) u ≡ state_of o h u
  state_other u ne = ap (λ (f : Effect). state_after f u (state_of o h u)) is
      ∙ rw (ne_eqb t u (λ same. ne (sym same))) refl

  state_here : state_of o (e ∷ h) t ≡ Active
  state_here = ap (λ (f : Effect). state_after f t (state_of o h t)) is ∙ rw (eq-eqb t t refl) refl

  -- ---- the cache

  kept : KeptIn form size o (e ∷ h) (state_of o (e ∷ h)) asked now_session after j
  kept chosen set_ closed has = drawn_kept chosen set_ closed
      (λ u p is_chosen active needed. has u p is_chosen active (needed_now u p (asked u) refl needed))
    where
      drawn_kept : KeptIn form size o (e ∷ h) (state_of o (e ∷ h)) asked session after j
      drawn_kept = keep old now before after i j asked session o (e ∷ h) (state_of o (e ∷ h)) from
          (first size o h e t mode (cache_over before i) asked (needs_in asked session before) opening legal is
          not_asked were)

      needed_now : (u p : ℕ) (b : Bool) → asked u ≡ b
          → needs_by asked session after.dirty u p ≡ true
          → needs_by asked now_session after.dirty u p ≡ true
      needed_now u p true has_asked needed = subst (λ (k : ℕ). (is_dirty after.dirty p
          && (not (asked u) || is_marked after.dirty p k)) ≡ true) (sym (sessions u has_asked)) needed
      needed_now u p false has_not needed = subst (λ (b : Bool). (is_dirty after.dirty p
          && (not b || is_marked after.dirty p (now_session u))) ≡ true) (sym has_not)
          (subst (λ (b : Bool). (is_dirty after.dirty p
          && (not b || is_marked after.dirty p (session u))) ≡ true) has_not needed)

  bits : ArePoolBits size (shown after.dirty j) (state_of o (e ∷ h))
  bits u = at (cases_eq u t) (cases_lt u (next_of (shown before.dirty i)))
    where
      was : state_at size (shown before.dirty i) u ≡ left_by false (state_of o h u)
      was = pool_bits_are form size o h (cache_over before i) asked (needs_in asked session before) were u

      at : (u ≡ t) ⊎ (u ≢ t)
          → (u < next_of (shown before.dirty i)) ⊎ (next_of (shown before.dirty i) ≤ u)
          → state_at size (shown after.dirty j) u ≡ left_by false (state_of o (e ∷ h) u)
      at (inl same) where_ = ap (state_at size (shown after.dirty j)) (same ∙ number) ∙ (drawn.here
          ∙ (sym (ap (left_by false) state_here)
          ∙ ap (λ (k : ℕ). left_by false (state_of o (e ∷ h) k)) (sym same)))
      at (inr ne) (inl below) = drawn.before u below ∙ (was ∙ ap (left_by false) (sym (state_other u ne)))
      at (inr ne) (inr past) =
          let beyond : next_of (shown after.dirty j) ≤ u =
          let next = drawn.next in omega (arith, past, ne, number, next) in
          let not_zero : u ≢ 0 = λ zero. some (omega (arith, zero, past, number)) in
          past_dead size (shown after.dirty j) u not_zero beyond
          ∙ (sym (past_dead size (shown before.dirty i) u not_zero past)
          ∙ (was ∙ ap (left_by false) (sym (state_other u ne))))

  next_is : next_of (shown after.dirty j) ≡ next_number o (e ∷ h)
  next_is = drawn.next ∙ (ap (λ (n : ℕ). n + 1) were.next
      ∙ sym (ap (λ (f : Effect). next_after f (next_number o h)) is))

  cache : LastsOn m form o (e ∷ h) after asked now_session
      × LeavesSince m before.disk after.disk (HoldsAcknowledged form before.dirty.size o h)
  cache = last o h (e ∷ h) before after i j from.draws.batch asked asked session now_session opening
      stands.legal lasts (record {
        ready = from.draws.ready;
        keeps = from.draws.keeps;
        frame = from.draws.frame;
        crash = from.draws.crash;
        told = from.tells;
        tells = tells;
        held = from.held;
        kept = subst (λ (n : ℕ). KeptIn form n o (e ∷ h) (state_of o (e ∷ h)) asked now_session after j)
            (sym size_is) kept;
        settled = λ u settled. by u settled (cases_eq u t);
        bits = subst (λ (n : ℕ). ArePoolBits n (shown after.dirty j) (state_of o (e ∷ h))) (sym size_is) bits;
        next = next_is;
        none_asked = asked_quiet h e no_failure ∙ ap (λ (x : Entries). e ∷ x) lasts.settled;
        holds = λ c holds. quiet before.dirty.size o h e c passing no_failure holds;
      })
    where
      by : (u : ℕ) → IsSettled (state_of o (e ∷ h) u) → (u ≡ t) ⊎ (u ≢ t)
          → state_of o (e ∷ h) u ≡ state_of o h u
      by u settled (inl same) = absurd (subst IsSettled
          (ap (state_of o (e ∷ h)) same ∙ state_here) settled)
      by u settled (inr ne) = state_other u ne

  -- ---- the engine

  shows_now : ShowsHistory form size o (e ∷ h) new (shown after.dirty j)
  shows_now = shows_on size o h e t mode s new (shown before.dirty i) (shown after.dirty j) opening legal is
      stands.memory follows (draws_stay_sound D L m form one none old now before after i j
      (left_state everyone new.state) from) next_new finds shows
    where
      next_new : next_of (shown after.dirty j) ≡ new.next
      next_new = drawn.next ∙ (ap (λ (n : ℕ). n + 1) shows.next
          ∙ (sym (ap (λ (f : Effect). next_after f s.next) is) ∙ sym follows.next))

  pub begin_goes_on : HasGoneOn m form size o h e new before after j asked now_session
  begin_goes_on = record {
    stands = stands_on size o h e s new (Some (shown before.dirty i)) (Some (shown after.dirty j)) stands
        lawful follows shows_now;
    lasts = cache.0;
    leaves = cache.1;
  }

pub begins_go_on : (D L : Type 0) (m : Meaning D) (form : Form) → RowsAreOne form.coding
    → HasNoSequences form → OpeningsBegin → BeginsFirst form → DrawRowKeeps form D L m
    → BatchesLast D L m form → QuietHolds form → BeginShows form → StandsOn form → BeginsGoOn D L m form
begins_go_on D L m form one none begins first keep last quiet shows_on stands_on o h e t mode s new old now
    before after i j asked session now_session stands lasts pool from tells lawful passing no_failure is
    not_asked sessions follows finds =
    begin_goes_on D L m form one none begins first keep last quiet shows_on stands_on o h e t mode s new old now
    before after i j asked session now_session stands lasts pool from tells lawful passing no_failure is
    not_asked sessions follows finds
