-- A commit takes the engine on to the history that has it.
use Rattle.std.proofs.Common.{◌≡◌, ◌≢◌, ◌⊎◌, ◌<◌, ◌≤◌, ◌/◌, ◌%◌, ◌&&◌, inl, inr, refl, sym, ap, ◌∙◌, subst, ℕ, Bool, true, false, List, ◌∷◌, Option, None, Some}
use Rattle.std.specs.Prelude.{is_some, unwrap_or}
use Rattle.std.proofs.Math.Path.{fun_ext}
use Rattle.std.proofs.lemmas.Bool.{cases_eq, cases_lt, eq-eqb, ne_eqb}
use Rattle.mg_base.specs.Disk.{MayLeave, Meaning}
use Rattle.mg_base.specs.Image.{Image}
use Rattle.mg_base.specs.declared.transaction.TxState.TheVariants.{Active, Committed}
use Rattle.mg_model.specs.declared.opening.Opening.{Opening}
use Rattle.mg_model.specs.History.{Effect, Ends, Entries, Entry, effect_of}
use Rattle.mg_model.specs.Laws.{OpeningsBegin}
use Rattle.mg_model.specs.Legal.{IsLawful, IsLegal, MayBegin, is_durable}
use Rattle.mg_model.specs.Machine.{next_after, next_number, state_of}
use Rattle.mg_model.specs.NumberLaws.{undrawn_is_dead}
use Rattle.mg_model.specs.Openings.{everyone}
use Rattle.mg_image.specs.Form.{Form, Pages}
use Rattle.mg_image.specs.Inventory.{next_of, state_at}
use Rattle.mg_image.specs.Sound.{IsSoundBy}
use Rattle.mg_image_overlay_laws.specs.pages.Kinds.{HasNoSequences}
use Rattle.mg_overlay_laws.specs.Overlays.{left_by, left_state}
use Rattle.mg_pool.specs.Batch.{Changed, content_in, lists, one_page, orders_of}
use Rattle.mg_pool.specs.Change.{or_else}
use Rattle.mg_pool.specs.Dirty.{DirtyPages, content_of, is_dirty, is_marked}
use Rattle.mg_pool.specs.Pool.{IsPool, cache_of, shown}
use Rattle.mg_pool.specs.declared.pool.Pool.{Pool}
use Rattle.mg_pool_overlay_laws.specs.Needs.{Asked, Sessions}
use Rattle.mg_pool_overlay_laws.specs.Ties.{none_marked_none}
use Rattle.mg_space.specs.View.{Tells}
use Rattle.mg_space.specs.ViewLaws.{keeps_itself}
use Rattle.mg_tie_laws.specs.Changed.{BatchIsChanged, cache_over, changed_batches_are, needs_in}
use Rattle.mg_tip.specs.TipPage.{SetsState, places}
use Rattle.mg_txlist.specs.Ending.{ChangesBits, header_first}
use Rattle.mg_txlist.specs.TxList.{tip_in}
use Rattle.mg_txlist.specs.declared.list.TxList.{TxList}
use Rattle.mg_tie_laws.specs.CommitTies.{ShowsTip}
use Rattle.mg_lasting_laws.specs.CommitStatements.{CommitGoesMidway}
use Rattle.mg_lasting_laws.specs.Crashes.{LeavesHistory, may_last}
use Rattle.mg_lasting_laws.specs.Entries.{end_here, end_others}
use Rattle.mg_lasting_laws.specs.Lasting.{Lasts, LastsMidway, LastsOn}
use Rattle.mg_lasting_laws.specs.Laws.{ArePoolBits, AskingLasts}
use Rattle.mg_lasting_laws.specs.PoolLaws.{HoldsOne, needs_are}
use Rattle.mg_lasting_laws.specs.Settling.{SettlesBits, SettlingLasts}
use Rattle.mg_engine_step_laws.specs.standing.Following.{FollowsEntry, StandsOn}
use Rattle.mg_engine_step_laws.specs.standing.QuietPages.{CommitShows, FindsAfter, StaySound}
use Rattle.mg_engine_step_laws.specs.standing.Standing.{ShowsHistory, Standing, Stands}
use Rattle.mg_engine_step_laws.specs.writes.BatchLaws.{pool_bits_are}
use Rattle.mg_engine_step_laws.specs.commits.Commits.{CommitsGoOn, CommitsOver, HasEnded, HasNoneLeft}
use Rattle.mg_engine_step_laws.specs.commits.ListShows.{ListShows, bits_keep_list}
use Rattle.mg_engine_step_laws.specs.commits.PageWriteLaws.{asks_otherwise}
use Rattle.mg_engine_step_laws.specs.commits.PageWrites.{KeepAsking}
use Rattle.mg_engine_step_laws.specs.commits.TipPages.{SetsBits, bits_else, bits_here, bits_stay_sound, drawn_place, next_same, no_header, tip_changed}

-- no page has a mark where the least one that has it is none
none_has : (test : ℕ → Bool) (page : ℕ) (b : Bool) → test page ≡ b
    → (test page ≡ true → (m : ℕ) × (None ≡ Some m) × (m ≤ page)) → test page ≡ false
none_has test page false is least = is
none_has test page true is least = let some = least is in let both = some.1 in absurd cc

-- ---- the bits are changed, and not yet written

-- The bits of a transaction that has no page left were changed on its page: what is known of the cache from
-- before, of the change, and of the entry that is to come.
pub record ChangesFrom {D L : Type 0} (m : Meaning D) (form : Form) (o : Opening) (h : Entries)
    (e : Entry) (t : ℕ) (s : Standing) (list : TxList) (before changed : Pool D L) (i : Image)
    (bytes : List ℕ) (asked : Asked) (session : Sessions) : Type 0 where
  pub stands : Stands form before.geometry.size o h s (Some (shown before.dirty i))
  pub opening : MayBegin o
  pub lasts : LastsOn m form o h before asked session
  pub none_left : HasNoneLeft before.dirty asked session t
  pub pool : IsPool m before
  pub tells : Tells m before.disk i
  pub shows : ShowsTip list before.geometry.size (shown before.dirty i) t
  pub sets : SetsState (tip_in list (t / places list.size)).bytes bytes (t % places list.size) Committed
  pub changes : ChangesBits m before changed
      (record { 0 = (tip_in list (t / places list.size)).page }) bytes
  pub legal : IsLegal o (e ∷ h)
  pub is : effect_of e ≡ Ends t Committed
  pub active : s.state t ≡ Active

module _ {D L : Type 0} (m : Meaning D) (form : Form) (none : HasNoSequences form)
    (midway : CommitGoesMidway form) (o : Opening) (h : Entries) (e : Entry) (t : ℕ) (s : Standing)
    (list : TxList) (before changed : Pool D L) (i : Image) (bytes : List ℕ) (asked : Asked)
    (session : Sessions)
    (from : ChangesFrom m form o h e t s list before changed i bytes asked session) where
  abbrev size : ℕ
  size = before.geometry.size

  abbrev pages : Pages
  pages = shown before.dirty i

  abbrev page : ℕ
  page = (tip_in list (t / places list.size)).page

  abbrev batch : Changed
  batch = record {
    pages = one_page page bytes;
    orders = orders_of header_first (record { 0 = page });
  }

  pub size_is : before.dirty.size ≡ size
  size_is = from.pool.page_size

  pub changed_size : changed.dirty.size ≡ before.dirty.size
  changed_size = ap (λ (d : DirtyPages). d.size) from.changes.changes.enters.dirty
      ∙ (from.changes.changes.puts.size ∙ from.changes.changes.written.size)

  pub changed_tells : m.tells changed.disk ≡ true
  changed_tells = ap m.tells (from.changes.changes.enters.disk ∙ from.changes.changes.puts.disk)
      ∙ (from.changes.changes.written.tells ∙ from.tells.told)

  image_is : from.lasts.image ≡ i
  image_is = let both : Some from.lasts.image ≡ Some i = sym from.lasts.held ∙ from.tells.held in cc

  pub were : Lasts form size o h (cache_over before i) asked (needs_in asked session before)
  were = subst (λ (n : ℕ). Lasts form n o h (cache_over before i) asked (needs_in asked session before)) size_is
      (subst (λ (k : Image). Lasts form before.dirty.size o h (cache_of before.dirty before.graph k) asked
      (needs_in asked session before)) image_is from.lasts.lasts)

  shows : ShowsHistory form size o h s pages
  shows = from.stands.shows

  -- ---- the transaction

  pub was_active : state_of o h t ≡ Active
  was_active = sym (from.stands.memory.state t) ∙ from.active

  drawn : t < next_of pages
  drawn = at (cases_lt t (next_number o h))
    where
      at : (t < next_number o h) ⊎ (next_number o h ≤ t) → t < next_of pages
      at (inl below) = subst (λ (n : ℕ). t < n) (sym were.next) below
      at (inr past) =
          let dead = sym (undrawn_is_dead o from.opening h from.legal.1 t past) ∙ was_active in absurd cc

  needs_none : (p : ℕ) → needs_in asked session before t p ≡ false
  needs_none = none_marked_none before.dirty asked session t from.none_left.has_asked
      (λ p. not_both (is_dirty before.dirty p) (is_marked before.dirty p (session t)) (none_has
      (λ q. is_marked before.dirty q (session t)) p (is_marked before.dirty p (session t)) refl (from.none_left.none_marked.least_of p)))
    where
      not_both : (a b : Bool) → b ≡ false → (a && b) ≡ false
      not_both true b is = is
      not_both false b is = refl

  -- ---- the page

  put_here : content_in batch.pages page ≡ Some bytes
  put_here = rw (eq-eqb page page refl) refl

  put_else : (n : ℕ) → n ≢ page → content_in batch.pages n ≡ None
  put_else n ne = rw (ne_eqb page n (λ same. ne (sym same))) refl

  pub page_dirty : is_dirty changed.dirty page ≡ true
  page_dirty = ap (λ (c : Option (List ℕ)). is_some c)
      (ap (λ (d : DirtyPages). content_of d page) from.changes.changes.enters.dirty
      ∙ (from.changes.changes.puts.contents page
      ∙ ap (λ (c : Option (List ℕ)). or_else c (content_of from.changes.changes.ready.dirty page)) put_here))

  module _ (k : Image) (held : m.held changed.disk ≡ Some k) where
    it : BatchIsChanged before changed i k batch asked session
    it = changed_batches_are D L m before before changed i k batch asked session
        (keeps_itself m before from.pool) from.changes.frame from.tells held

    pub here : (cache_over changed k).pool page ≡ bytes
    here = ap (λ (ps : Pages). ps page) it.pool
        ∙ ap (λ (c : Option (List ℕ)). unwrap_or c (pages page)) put_here

    else_ : (n : ℕ) → n ≢ page → (cache_over changed k).pool n ≡ pages n
    else_ n ne = ap (λ (ps : Pages). ps n) it.pool
        ∙ ap (λ (c : Option (List ℕ)). unwrap_or c (pages n)) (put_else n ne)

    pub sets_bits : SetsBits list size pages (cache_over changed k).pool t
    sets_bits = record {
      shows = from.shows;
      drawn = drawn;
      bytes = bytes;
      sets = from.sets;
      here = here;
      others = else_;
    }

    bits : ArePoolBits size (cache_over changed k).pool (state_of o (e ∷ h))
    bits u = at (cases_eq u t)
      where
        at : (u ≡ t) ⊎ (u ≢ t)
            → state_at size (cache_over changed k).pool u ≡ left_by false (state_of o (e ∷ h) u)
        at (inl same) = ap (state_at size (cache_over changed k).pool) same
            ∙ (bits_here form none list size pages (cache_over changed k).pool t sets_bits
            (left_state everyone s.state) shows.layout shows.reading shows.sound
            ∙ (sym (ap (left_by false) (end_here o h e t Committed from.is))
            ∙ ap (λ (v : ℕ). left_by false (state_of o (e ∷ h) v)) (sym same)))
        at (inr ne) = bits_else form none list size pages (cache_over changed k).pool t sets_bits
            (left_state everyone s.state) shows.layout shows.reading shows.sound u ne
            ∙ (pool_bits_are form size o h (cache_over before i) asked (needs_in asked session before) were u
            ∙ ap (left_by false) (sym (end_others o h e t Committed from.is u ne)))

    pub lasts_midway : LastsMidway form changed.dirty.size o h e page pages (cache_over changed k) asked
        (needs_in asked session changed)
    lasts_midway = subst (λ (n : ℕ). LastsMidway form n o h e page pages (cache_over changed k) asked
        (needs_in asked session changed)) (sym (changed_size ∙ size_is))
        (midway size o h e t (cache_over before i) (cache_over changed k) it.gone (content_in batch.pages)
        (lists batch.orders) asked (needs_in asked session before) (needs_in asked session changed) page
        (t % places list.size) it.changes from.is was_active needs_none it.left (record {
          here = put_here ∙ ap Some (sym here);
          others = put_else;
        })
        (tip_changed form none list size pages (cache_over changed k).pool t sets_bits
        (left_state everyone s.state) shows.layout shows.reading shows.sound)
        (drawn_place form none list size pages (cache_over changed k).pool t sets_bits
        (left_state everyone s.state) shows.layout shows.reading shows.sound)
        (rw (eq-eqb page page refl) refl)
        (no_header form none list size pages (cache_over changed k).pool t sets_bits
        (left_state everyone s.state) shows.layout shows.reading shows.sound)
        bits (needs_are changed.dirty changed.graph k asked session) were)

-- ---- the bits are written and settled

module _ (D L : Type 0) (m : Meaning D) (holds : HoldsOne D m) (form : Form) (none : HasNoSequences form)
    (begins : OpeningsBegin) (midway : CommitGoesMidway form) (settling : SettlingLasts D L m form)
    (asking : AskingLasts form) (shows_on : CommitShows form) (stands_on : StandsOn form) (o : Opening)
    (h : Entries) (e : Entry) (t : ℕ) (s new : Standing) (old now : TxList) (before after : Pool D L)
    (i j : Image) (asked now_asked : Asked) (session now_session : Sessions)
    (stands : Stands form before.geometry.size o h s (Some (shown before.dirty i)))
    (lasts : LastsOn m form o h before asked session)
    (none_left : HasNoneLeft before.dirty asked session t) (over : CommitsOver m old now before after i j t)
    (lawful : IsLawful o h e) (durable : is_durable e ≡ true) (no_failure : may_last e ≡ false)
    (is : effect_of e ≡ Ends t Committed) (active : s.state t ≡ Active)
    (keep : KeepAsking o (e ∷ h) asked now_asked session now_session) (follows : FollowsEntry o h e s new)
    (finds : FindsAfter form before.geometry.size o h e s new (shown after.dirty j)) where
  abbrev changed : Pool D L
  changed = over.commits.settles.changed

  abbrev written : Pool D L
  written = over.commits.settles.written

  opening : MayBegin o
  opening = begins o stands.opening

  legal : IsLegal o (e ∷ h)
  legal = (lawful, stands.legal)

  from : ChangesFrom m form o h e t s old before changed i over.commits.bytes asked session
  from = record {
    stands = stands;
    opening = opening;
    lasts = lasts;
    none_left = none_left;
    pool = over.pool;
    tells = over.tells;
    shows = over.shows;
    sets = over.commits.sets;
    changes = over.commits.settles.changes;
    legal = legal;
    is = is;
    active = active;
  }

  after_dirty : after.dirty ≡ written.dirty
  after_dirty = ap (λ (p : Pool D L). p.dirty) over.commits.settles.same

  settles : SettlesBits m form o h e before after asked session
  settles = record {
    changed = changed;
    written = written;
    page = (tip_in old (t / places old.size)).page;
    before = shown before.dirty i;
    change_leaves = over.commits.settles.changes.crash;
    tells = changed_tells m form none midway o h e t s old before changed i over.commits.bytes asked session
        from;
    size = changed_size m form none midway o h e t s old before changed i over.commits.bytes asked session
        from;
    midway = λ k held. lasts_midway m form none midway o h e t s old before changed i over.commits.bytes asked
        session from k held;
    run = over.commits.settles.writes;
    was_dirty = page_dirty m form none midway o h e t s old before changed i over.commits.bytes asked session
        from;
    out = over.commits.settles.out;
    settles = over.commits.settles.settles;
    dirty_same = after_dirty;
    graph_same = ap (λ (p : Pool D L). p.graph) over.commits.settles.same;
    durable = over.commits.settles.durable (over.commits.settles.writes.tells
        ∙ changed_tells m form none midway o h e t s old before changed i over.commits.bytes asked session from);
  }

  -- ---- the cache

  settled : LastsOn m form o (e ∷ h) after asked session
      × LeavesHistory m before.disk after.disk form before.dirty.size o h (e ∷ h)
  settled = settling o h e before after asked session opening legal durable no_failure over.tells.told lasts
      settles

  -- ---- the engine

  module _ (k : Image) (held : m.held changed.disk ≡ Some k) where
    its_bits : SetsBits old before.geometry.size (shown before.dirty i) (shown changed.dirty k) t
    its_bits = sets_bits m form none midway o h e t s old before changed i over.commits.bytes asked session
        from k held

    held_written : m.held written.disk ≡ Some j
    held_written = sym over.commits.settles.settles.held
        ∙ (ap (λ (p : Pool D L). m.held p.disk) (sym over.commits.settles.same) ∙ over.held)

    same : shown after.dirty j ≡ shown changed.dirty k
    same = ap (λ (d : DirtyPages). shown d j) after_dirty
        ∙ fun_ext (over.commits.settles.writes.out (changed_tells m form none midway o h e t s old before
        changed i over.commits.bytes asked session from) k j held held_written).shown_same

    stay : StaySound form before.geometry.size (left_state everyone new.state) (shown before.dirty i)
        (shown after.dirty j)
    stay layout r sound = subst (λ (pages : Pages). IsSoundBy form before.geometry.size
        (left_state everyone new.state) pages layout r) (sym same)
        (bits_stay_sound form none old before.geometry.size (shown before.dirty i) (shown changed.dirty k)
        t its_bits (left_state everyone new.state) layout r sound)

    next : next_of (shown after.dirty j) ≡ new.next
    next = ap next_of same ∙ (next_same form none old before.geometry.size (shown before.dirty i)
        (shown changed.dirty k) t its_bits (left_state everyone s.state) stands.shows.layout
        stands.shows.reading stands.shows.sound
        ∙ (stands.shows.next ∙ (sym (ap (λ (f : Effect). next_after f s.next) is) ∙ sym follows.next)))

    shows_now : ShowsHistory form before.geometry.size o (e ∷ h) new (shown after.dirty j)
    shows_now = shows_on before.geometry.size o h e t s new (shown before.dirty i) (shown after.dirty j)
        opening legal is active follows stay next finds stands.shows

    lists_now : ListShows old before.geometry.size (shown before.dirty i)
        → ListShows now before.geometry.size (shown after.dirty j)
    unfolding its_bits sets_bits
    lists_now had = subst (ListShows now before.geometry.size) (sym same)
        (bits_keep_list form none old now before.geometry.size (shown before.dirty i) (shown changed.dirty k) t
        its_bits (left_state everyone s.state) stands.shows.layout stands.shows.reading stands.shows.sound
        over.commits.keeps had)

  pub commit_goes_on : HasEnded m form before.geometry.size o h e new old now before after i j now_asked
      now_session
  commit_goes_on = at (holds changed.disk (changed_tells m form none midway o h e t s old before changed i
      over.commits.bytes asked session from))
    where
      at : (k : Image) × (m.held changed.disk ≡ Some k) × MayLeave m changed.disk k
          → HasEnded m form before.geometry.size o h e new old now before after i j now_asked now_session
      at (k, held, may) = record {
        stands = stands_on before.geometry.size o h e s new (Some (shown before.dirty i))
            (Some (shown after.dirty j)) stands lawful follows (shows_now k held);
        lasts = asks_otherwise D L m form asking o (e ∷ h) after asked now_asked session now_session keep
            settled.0;
        leaves = settled.1;
        lists = lists_now k held;
      }

pub commits_go_on : (D L : Type 0) (m : Meaning D) → HoldsOne D m → (form : Form) → HasNoSequences form
    → OpeningsBegin → CommitGoesMidway form → SettlingLasts D L m form → AskingLasts form
    → CommitShows form → StandsOn form → CommitsGoOn D L m form
commits_go_on D L m holds form none begins midway settling asking shows_on stands_on o h e t s new old now
    before after i j asked now_asked session now_session stands lasts none_left over lawful durable no_failure
    is active keep follows finds =
    commit_goes_on D L m holds form none begins midway settling asking shows_on stands_on o h e t s new old now
    before after i j asked now_asked session now_session stands lasts none_left over lawful durable no_failure
    is active keep follows finds
