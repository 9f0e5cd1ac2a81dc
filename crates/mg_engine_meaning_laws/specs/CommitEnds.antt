-- A transaction is committed.
use Rattle.std.proofs.Common.{◌≡◌, ◌≢◌, ◌⊎◌, inl, inr, ◌==◌, ◌||◌, ◌<◌, ◌≤◌, ◌/◌, ℕ, Bool, true, false, List, ◌∷◌, Option, None, Some, refl, sym, ap, ◌∙◌, subst, arith}
use Rattle.std.specs.Prelude.{unwrap_or}
use Rattle.std.proofs.Math.Path.{fun_ext}
use Rattle.std.proofs.lemmas.Bool.{cases_eq, cases_lt, eq-eqb, false≢true, ne_eqb}
use Rattle.mg_base.specs.Disk.{MayLeave, Meaning}
use Rattle.mg_base.specs.Fields.{byte}
use Rattle.mg_base.specs.Image.{Image}
use Rattle.mg_base.specs.declared.geometry.Geometry.{Geometry}
use Rattle.mg_base.specs.declared.numbers.TxNo.{TxNo}
use Rattle.mg_base.specs.declared.transaction.TxState.{TxState}
use Rattle.mg_base.specs.declared.transaction.TxState.TheVariants.{Active, Committed, Limbo}
use Rattle.mg_engine_step_laws.specs.reads.Walking.{AreToCome, WalkPlace}
use Rattle.mg_engine_step_laws.specs.commits.Commits.{CommitsGoOn, CommitsOver, HasEnded, HasNoneLeft}
use Rattle.mg_engine_step_laws.specs.commits.TipPages.{SetsBits, bits_stay_sound, no_header, page_is, within_last}
use Rattle.mg_engine_step_laws.specs.writes.GoesOn.{PoolIsKept}
use Rattle.mg_engine_step_laws.specs.tables.Finding.{CommitFinds}
use Rattle.mg_engine_step_laws.specs.reads.Alike.{DataPagesStay, OthersTakeAlike, WalksStayOver}
use Rattle.mg_image_overlay_laws.specs.tables.Growing.{IsTableOf}
use Rattle.mg_image.specs.Form.{Pages, packed_form}
use Rattle.mg_image.specs.Inventory.{header_of, next_of, tip_page}
use Rattle.mg_image.specs.Records.{Reading}
use Rattle.mg_image.specs.Sound.{IsSoundBy}
use Rattle.mg_image.specs.Tables.{Layout}
use Rattle.mg_image_overlay_laws.specs.transactions.CommitSound.{commit_sound, committing}
use Rattle.mg_image_overlay_laws.specs.pages.DataPages.{kind_of}
use Rattle.mg_image_overlay_laws.specs.kept.KeptImages.{IsKept}
use Rattle.mg_lasting_laws.specs.Crashes.{HoldsFrom, LeavesHistory, asked}
use Rattle.mg_lasting_laws.specs.Lasting.{Lasts}
use Rattle.mg_lasting_laws.specs.PoolLaws.{HoldsOne}
use Rattle.mg_model.specs.declared.answer.Answer.TheVariants.{Fine}
use Rattle.mg_model.specs.declared.event.Event.TheVariants.{Commit}
use Rattle.mg_model.specs.declared.opening.Opening.{Opening}
use Rattle.mg_model.specs.declared.table.Table.{Table}
use Rattle.mg_model.specs.Changes.{KeyedRows}
use Rattle.mg_model.specs.History.{Entries, Entry, entry}
use Rattle.mg_model.specs.Laws.{OpeningsBegin}
use Rattle.mg_model.specs.Legal.{IsLawful, durable_count}
use Rattle.mg_model.specs.Machine.{is_of, next_number, state_of}
use Rattle.mg_model.specs.NumberLaws.{undrawn_is_dead}
use Rattle.mg_model.specs.Openings.{everyone}
use Rattle.mg_image_overlay_laws.specs.tables.OneLayout.{StandsOneWay}
use Rattle.mg_noted_laws.specs.ComingLaws.{stayed_has}
use Rattle.mg_directory.specs.Candidates.{by_table}
use Rattle.mg_overlay_laws.specs.Overlays.{left_by as counts_by, left_state}
use Rattle.mg_pool.specs.Batch.{content_in, one_page, orders_of}
use Rattle.mg_pool.specs.Pool.{cache_of, shown}
use Rattle.mg_pool.specs.declared.pool.Pool.{Pool}
use Rattle.mg_pool_overlay_laws.specs.Needs.{Asked, Sessions, needs_by}
use Rattle.mg_records.specs.Crashing.{LeavesOnly, LeavesWith}
use Rattle.mg_records.specs.Keeping.{WalksStay}
use Rattle.mg_space.specs.ViewLaws.{keeps_itself}
use Rattle.mg_space.specs.declared.links.FireLinks.{FireLinks}
use Rattle.mg_tie_laws.specs.Changed.{BatchIsChanged, changed_batches_are}
use Rattle.mg_engine_step_laws.specs.standing.Following.{FollowsEntry}
use Rattle.mg_engine_step_laws.specs.standing.Standing.{Stands}
use Rattle.mg_tip.specs.TipPage.{places as tip_places, tip_checks}
use Rattle.mg_txlist.specs.Ending.{CommitsBits, header_first}
use Rattle.mg_txlist.specs.TxList.{EndsIn, said, tip_in}
use Rattle.mg_txlist.specs.declared.list.TxList.{TxList}
use Rattle.mg_waits.specs.Waits.{NowWaits, edges_in}
use Rattle.mg_works.specs.Works.{AreApart, without_work}
use Rattle.mg_core.specs.declared.parts.Core.{Core}
use Rattle.mg_core.specs.Cores.{Continues, IsCore}
use Rattle.mg_engine_meaning_laws.specs.KnownRecords.{KnowsIts}
use Rattle.mg_engine_meaning_laws.specs.LoneRowsLaws.{lone_stay}
use Rattle.mg_engine_meaning_laws.specs.FrameLaws.{keeps_of}
use Rattle.mg_engine_meaning_laws.specs.PlainTables.{HasPlainTables}
use Rattle.mg_engine_meaning_laws.specs.PlainLaws.{plain_tables_by}
use Rattle.mg_engine_meaning_laws.specs.KeptLaws.{kept_without_work}
use Rattle.mg_engine_meaning_laws.specs.LawfulLaws.{memory_of}
use Rattle.mg_engine_meaning_laws.specs.Meaning.{AreNext, HasWrittenAll, Places, means, place_at}
use Rattle.mg_engine_meaning_laws.specs.MemoryCallLaws.{active_answer}
use Rattle.mg_engine_meaning_laws.specs.Standings.{HasTips, ShowsIt, StandsFor, StandsWhile, asked_in, sessions_in, standing_of}
use Rattle.mg_engine_meaning_laws.specs.Ends.{GivesDurable}
use Rattle.mg_engine_meaning_laws.specs.Freeing.{sessions_end}
use Rattle.mg_engine_meaning_laws.specs.Leaving.{commits_left, follows_end, given_same, keep_asking, left_by, seen_still, still_active, tables_left}
use Rattle.mg_engine_meaning_laws.specs.Settling.{GoesUnmarked, history_left, settled_goes}

-- ---- the bits on the pages

-- the page of the bits, as the cache shows it before and afterwards: every other page is as it was
pub sets_bits : {D L : Type 0} (m : Meaning D) → HoldsOne D m → (old now : TxList) (before after : Pool D L)
    (i j : Image) (t : ℕ) → CommitsOver m old now before after i j t → t < next_of (shown before.dirty i)
    → SetsBits old before.geometry.size (shown before.dirty i) (shown after.dirty j) t
sets_bits {D} {L} m holds old now before after i j t over drawn =
    at (holds changed.disk changed_tells)
  where
    changed : Pool D L
    changed = over.commits.settles.changed

    page : ℕ
    page = (tip_in old (t / tip_places old.size)).page

    changed_tells : m.tells over.commits.settles.changed.disk ≡ true
    changed_tells = ap m.tells (over.commits.settles.changes.changes.enters.disk
        ∙ over.commits.settles.changes.changes.puts.disk)
        ∙ (over.commits.settles.changes.changes.written.tells ∙ over.tells.told)

    at : (k : Image) × (m.held over.commits.settles.changed.disk ≡ Some k)
        × MayLeave m over.commits.settles.changed.disk k
        → SetsBits old before.geometry.size (shown before.dirty i) (shown after.dirty j) t
    at (k, held, may) = record {
      shows = over.shows;
      drawn = drawn;
      bytes = over.commits.bytes;
      sets = over.commits.sets;
      here = now_is (tip_in old (t / tip_places old.size)).page
          ∙ ap (λ (c : Option (List ℕ)). unwrap_or c (shown before.dirty i
          (tip_in old (t / tip_places old.size)).page)) put_here;
      others = λ n ne. now_is n
          ∙ ap (λ (c : Option (List ℕ)). unwrap_or c (shown before.dirty i n)) (put_else n ne);
    }
      where
        none : Asked
        none u = false

        zero_of : Sessions
        zero_of u = 0

        it : BatchIsChanged before over.commits.settles.changed i k (record {
          pages = one_page (tip_in old (t / tip_places old.size)).page over.commits.bytes;
          orders = orders_of header_first (record { 0 = (tip_in old (t / tip_places old.size)).page });
        }) none zero_of
        it = changed_batches_are D L m before before over.commits.settles.changed i k (record {
          pages = one_page (tip_in old (t / tip_places old.size)).page over.commits.bytes;
          orders = orders_of header_first (record { 0 = (tip_in old (t / tip_places old.size)).page });
        }) none zero_of (keeps_itself m before over.pool) over.commits.settles.changes.frame over.tells held

        put_here : content_in (one_page (tip_in old (t / tip_places old.size)).page over.commits.bytes)
            (tip_in old (t / tip_places old.size)).page ≡ Some over.commits.bytes
        put_here = rw (eq-eqb (tip_in old (t / tip_places old.size)).page
            (tip_in old (t / tip_places old.size)).page refl) refl

        put_else : (n : ℕ) → n ≢ (tip_in old (t / tip_places old.size)).page
            → content_in (one_page (tip_in old (t / tip_places old.size)).page over.commits.bytes) n ≡ None
        put_else n ne = rw (ne_eqb (tip_in old (t / tip_places old.size)).page n (λ same. ne (sym same))) refl

        held_written : m.held over.commits.settles.written.disk ≡ Some j
        held_written = sym over.commits.settles.settles.held
            ∙ (ap (λ (p : Pool D L). m.held p.disk) (sym over.commits.settles.same) ∙ over.held)

        same : (n : ℕ) → shown after.dirty j n ≡ shown over.commits.settles.changed.dirty k n
        same n = ap (λ (p : Pool D L). shown p.dirty j n) over.commits.settles.same
            ∙ (over.commits.settles.writes.out changed_tells k j held held_written).shown_same n

        now_is : (n : ℕ) → shown after.dirty j n
            ≡ unwrap_or (content_in (one_page (tip_in old (t / tip_places old.size)).page over.commits.bytes) n)
            (shown before.dirty i n)
        now_is n = same n ∙ ap (λ (pages : Pages). pages n) it.pool

-- no data page is changed
module _ (list : TxList) (size : ℕ) (pages later : Pages) (t : ℕ) (bits : SetsBits list size pages later t)
    (state : ℕ → TxState) (layout : Layout) (r : Reading)
    (sound : IsSoundBy packed_form size state pages layout r) where
  tip_kind : byte (pages (tip_page size pages (t / tip_places size))) 0 ≡ 3
  unfolding tip_checks
  tip_kind = kind_of (pages (tip_page size pages (t / tip_places size))) (tip_page size pages (t / tip_places size)) 3
      0 (t / tip_places size) _
      (sound.transactions.each (t / tip_places size) (within_last size t (next_of pages) bits.drawn)).fields

  pub bits_keep_data : DataPagesStay size pages later
  bits_keep_data n used kind = bits.others n (λ same.
      let three = tip_kind in
      let is : n ≡ tip_page size pages (t / tip_places size) =
      same ∙ page_is packed_form (λ page k none. none) list size pages later t bits state layout r sound in
      let also : byte (pages n) 0 ≡ 3 = ap (λ (k : ℕ). byte (pages k) 0) is ∙ three in
      omega (arith, kind, also))

  pub same_header : later 0 ≡ pages 0
  same_header = bits.others 0 (λ same.
      no_header packed_form (λ page k none. none) list size pages later t bits state layout r sound (sym same))

-- ---- the states

-- one that is committed counts as one that is active, and chosen, and whose commit is then done
committed_same : (state now : ℕ → TxState) (t : ℕ) → now t ≡ Committed
    → ((u : ℕ) → u ≢ t → now u ≡ state u) → (chosen : ℕ → Bool)
    → committing t (left_state (λ u. u == t || chosen u) state) ≡ left_state chosen now
committed_same state now t committed others chosen = fun_ext (λ u. at u (cases_eq u t))
  where
    by_committed : (b : Bool) → counts_by b Committed ≡ Committed
    by_committed true = refl
    by_committed false = refl

    at : (u : ℕ) → (u ≡ t) ⊎ (u ≢ t)
        → committing t (left_state (λ v. v == t || chosen v) state) u ≡ left_state chosen now u
    at u (inl same) =
        let here : now u ≡ Committed = ap now same ∙ committed in
        rw (eq-eqb u t same) (sym (ap (counts_by (chosen u)) here ∙ by_committed (chosen u)))
    at u (inr ne) = rw (ne_eqb u t ne) (ap (counts_by (chosen u)) (sym (others u ne)))

chosen_limbo : (state : ℕ → TxState) (t : ℕ) (chosen : ℕ → Bool) → state t ≡ Active
    → left_state (λ u. u == t || chosen u) state t ≡ Limbo
chosen_limbo state t chosen active = ap (λ (b : Bool). counts_by (b || chosen t) (state t)) (eq-eqb t t refl)
    ∙ ap (counts_by true) active

-- where every active one counts as in limbo, the one that is committed is
everyone_same : (state now : ℕ → TxState) (t : ℕ) → now t ≡ Committed
    → ((u : ℕ) → u ≢ t → now u ≡ state u)
    → committing t (left_state everyone state) ≡ left_state everyone now
everyone_same state now t committed others = fun_ext (λ u. at u (cases_eq u t))
  where
    at : (u : ℕ) → (u ≡ t) ⊎ (u ≢ t) → committing t (left_state everyone state) u ≡ left_state everyone now u
    at u (inl same) =
        let here : now u ≡ Committed = ap now same ∙ committed in
        rw (eq-eqb u t same) (sym (ap (counts_by true) here))
    at u (inr ne) = rw (ne_eqb u t ne) (ap (counts_by true) (sym (others u ne)))

-- ---- the engine

module _ {D P : Type 0} (m : Meaning D) (places : Places P) (holds : HoldsOne D m) (one_way : StandsOneWay packed_form)
    (kept_is : PoolIsKept packed_form D FireLinks) (begins : OpeningsBegin)
    (commits : CommitsGoOn D FireLinks m packed_form) (finds : CommitFinds) (take : OthersTakeAlike)
    (stay : WalksStayOver) (old : Core D) (core : IsCore m old) (waits : List (ℕ × ℕ)) (list : TxList)
    (store : Pool D FireLinks) (t : TxNo) (written : HasWrittenAll old t.0) (continues : Continues old t.0)
    (over : NowWaits (edges_in old.waits) (edges_in waits) t.0 None) (ends : EndsIn old.list list t.0 Committed)
    (bits : CommitsBits m old.list list old.store store t.0) (online : store.offline ≡ None) where
  abbrev e : Entry
  e = entry (Commit t) Fine

  abbrev now : Core D
  now = left_by old waits list store t.0

  not_active : Committed ≢ Active
  not_active same = absurd cc

  goes : GoesUnmarked m old.store store
  goes = settled_goes m old.store store (record { 0 = (tip_in old.list (t.0 / tip_places old.list.size)).page })
      bits.bytes bits.settles

  none_left : HasNoneLeft old.store.dirty (asked_in old.works) (sessions_in old.works) t.0
  none_left = record {
    has_asked = written.asked;
    none_marked = record {
      passes = λ page some. let both : None ≡ Some page = some in absurd cc;
      least_of = λ page is. absurd (false≢true (sym (written.none page) ∙ is));
    };
  }

  lawful : (o : Opening) (h : Entries) → StandsFor m old o h → IsLawful o h (entry (Commit t) Fine)
  lawful o h stands = inl (sym (active_answer (state_of o h t.0) Fine
      (sym ((memory_of m old o h stands).state t.0) ∙ continues.1)))

  follows : (o : Opening) (h : Entries) (stands : StandsFor m old o h)
      → FollowsEntry o h (entry (Commit t) Fine) (standing_of old stands.numbers stands.tables)
      (standing_of (left_by old waits list store t.0) stands.numbers stands.tables)
  follows o h stands = follows_end m places old waits list store t.0 Committed ends not_active o h
      (entry (Commit t) Fine) refl (λ keeps. refl) refl refl over stands.numbers stands.tables

  shows_of : (o : Opening) (h : Entries) (stands : StandsFor m old o h)
      → ShowsIt m old o h (standing_of old stands.numbers stands.tables)
  shows_of o h stands = subst (λ (off : Option ℕ). StandsWhile m old o h
      (standing_of old stands.numbers stands.tables) off) continues.0 stands.stands

  -- ---- the pages

  module _ (o : Opening) (h : Entries) (stands : StandsFor m old o h)
      (shows : ShowsIt m old o h (standing_of old stands.numbers stands.tables)) (j : Image)
      (held : m.held store.disk ≡ Some j) where
    abbrev size : ℕ
    size = old.store.geometry.size

    drawn : t.0 < next_of (shown old.store.dirty shows.image)
    drawn = at (cases_lt t.0 (next_number o h))
      where
        at : (t.0 < next_number o h) ⊎ (next_number o h ≤ t.0)
            → t.0 < next_of (shown old.store.dirty shows.image)
        at (inl below) = subst (λ (n : ℕ). t.0 < n) (sym (shows.stands.shows.next ∙ shows.stands.memory.next)) below
        at (inr past) =
            let dead = sym (undrawn_is_dead o (begins o shows.stands.opening) h shows.stands.legal t.0 past)
            ∙ (sym (shows.stands.memory.state t.0) ∙ continues.1) in absurd cc

    commits_over : CommitsOver m old.list list old.store store shows.image j t.0
    commits_over = record {
      pool = core.pool;
      commits = bits;
      tells = record { told = stands.tells; held = shows.held };
      held = held;
      shows = shows.tips t.0 drawn;
    }

    ended : HasEnded m packed_form old.store.geometry.size o h (entry (Commit t) Fine)
        (standing_of (left_by old waits list store t.0) stands.numbers stands.tables) old.list list old.store store
        shows.image j (asked_in (without_work t.0 old.works)) (sessions_in (without_work t.0 old.works))
    ended = commits o h (entry (Commit t) Fine) t.0 (standing_of old stands.numbers stands.tables)
        (standing_of (left_by old waits list store t.0) stands.numbers stands.tables) old.list list old.store store
        shows.image j (asked_in old.works) (asked_in (without_work t.0 old.works)) (sessions_in old.works)
        (sessions_in (without_work t.0 old.works)) shows.stands shows.lasts none_left commits_over
        (lawful o h stands) refl refl refl continues.1
        (keep_asking m places old waits list store t.0 Committed ends not_active o h (entry (Commit t) Fine) refl)
        (follows o h stands)
        (finds old.store.geometry.size o h (entry (Commit t) Fine) t.0
        (standing_of old stands.numbers stands.tables)
        (standing_of (left_by old waits list store t.0) stands.numbers stands.tables) (shown store.dirty j) refl
        (follows o h stands))

    its_bits : SetsBits old.list old.store.geometry.size (shown old.store.dirty shows.image) (shown store.dirty j) t.0
    its_bits = sets_bits m holds old.list list old.store store shows.image j t.0 commits_over drawn

    abbrev was : ℕ → TxState
    was = left_state everyone (said old.list)

    -- layouts and readings stay
    sound_on : (layout : Layout) (r : Reading)
        → IsSoundBy packed_form old.store.geometry.size (left_state everyone (said old.list))
        (shown old.store.dirty shows.image) layout r
        → IsSoundBy packed_form old.store.geometry.size (left_state everyone (said list)) (shown store.dirty j)
        layout r
    sound_on layout r sound = bits_stay_sound packed_form (λ page k none. none) old.list
        old.store.geometry.size (shown old.store.dirty shows.image) (shown store.dirty j) t.0 its_bits
        (left_state everyone (said list)) layout r
        (subst (λ (x : ℕ → TxState). IsSoundBy packed_form old.store.geometry.size x
        (shown old.store.dirty shows.image) layout r)
        (everyone_same (said old.list) (said list) t.0 ends.here ends.others)
        (commit_sound (left_state everyone (said old.list)) t.0 (ap (counts_by true) continues.1) packed_form
        old.store.geometry.size (shown old.store.dirty shows.image) layout r sound))

    data_stay : DataPagesStay old.store.geometry.size (shown old.store.dirty shows.image) (shown store.dirty j)
    data_stay = bits_keep_data old.list old.store.geometry.size (shown old.store.dirty shows.image)
        (shown store.dirty j) t.0 its_bits (left_state everyone (said old.list)) shows.stands.shows.layout
        shows.stands.shows.reading shows.stands.shows.sound

    header_stays : shown store.dirty j 0 ≡ shown old.store.dirty shows.image 0
    header_stays = same_header old.list old.store.geometry.size (shown old.store.dirty shows.image)
        (shown store.dirty j) t.0 its_bits (left_state everyone (said old.list)) shows.stands.shows.layout
        shows.stands.shows.reading shows.stands.shows.sound

    -- ---- its tables are plain still

    kept : (chosen : ℕ → Bool) → IsKept packed_form old.store.geometry.size o h
        (left_state chosen (state_of o h)) (shown old.store.dirty shows.image) (shown old.store.dirty shows.image)
    kept chosen = kept_is old.store.geometry.size o h (state_of o h) (asked_in old.works) (sessions_in old.works)
        old.store shows.image chosen were.every
      where
        image_is : shows.lasts.image ≡ shows.image
        image_is = let both : Some shows.lasts.image ≡ Some shows.image = sym shows.lasts.held ∙ shows.held in cc

        were : Lasts packed_form old.store.geometry.size o h
            (cache_of old.store.dirty old.store.graph shows.image) (asked_in old.works)
            (needs_by (asked_in old.works) (sessions_in old.works) old.store.dirty)
        were = subst (λ (n : ℕ). Lasts packed_form n o h
            (cache_of old.store.dirty old.store.graph shows.image) (asked_in old.works)
            (needs_by (asked_in old.works) (sessions_in old.works) old.store.dirty)) core.pool.page_size
            (subst (λ (k : Image). Lasts packed_form old.store.dirty.size o h
            (cache_of old.store.dirty old.store.graph k) (asked_in old.works)
            (needs_by (asked_in old.works) (sessions_in old.works) old.store.dirty)) image_is shows.lasts.lasts)

    abbrev with_it : (ℕ → Bool) → ℕ → Bool
    with_it chosen u = u == t.0 || chosen u

    kept_sound : (chosen : ℕ → Bool) → IsSoundBy packed_form old.store.geometry.size
        (left_state (λ u. u == t.0 || chosen u) (said old.list)) (shown old.store.dirty shows.image)
        (kept (λ u. u == t.0 || chosen u)).layout (kept (λ u. u == t.0 || chosen u)).reading
    kept_sound chosen = subst (λ (state : ℕ → TxState). IsSoundBy packed_form old.store.geometry.size
        (left_state (λ u. u == t.0 || chosen u) state) (shown old.store.dirty shows.image)
        (kept (λ u. u == t.0 || chosen u)).layout (kept (λ u. u == t.0 || chosen u)).reading)
        (sym (fun_ext shows.stands.memory.state)) (kept (λ u. u == t.0 || chosen u)).sound

    later_sound : (chosen : ℕ → Bool) → IsSoundBy packed_form old.store.geometry.size
        (left_state chosen (said list)) (shown store.dirty j)
        (kept (λ u. u == t.0 || chosen u)).layout (kept (λ u. u == t.0 || chosen u)).reading
    later_sound chosen = bits_stay_sound packed_form (λ page k none. none) old.list
        old.store.geometry.size (shown old.store.dirty shows.image) (shown store.dirty j) t.0 its_bits
        (left_state chosen (said list)) (kept (λ u. u == t.0 || chosen u)).layout
        (kept (λ u. u == t.0 || chosen u)).reading
        (subst (λ (x : ℕ → TxState). IsSoundBy packed_form old.store.geometry.size x
        (shown old.store.dirty shows.image) (kept (λ u. u == t.0 || chosen u)).layout
        (kept (λ u. u == t.0 || chosen u)).reading)
        (committed_same (said old.list) (said list) t.0 ends.here ends.others chosen)
        (commit_sound (left_state (λ u. u == t.0 || chosen u) (said old.list)) t.0
        (chosen_limbo (said old.list) t.0 chosen continues.1) packed_form old.store.geometry.size
        (shown old.store.dirty shows.image) (kept (λ u. u == t.0 || chosen u)).layout
        (kept (λ u. u == t.0 || chosen u)).reading (kept_sound chosen)))

    none_indexed : HasPlainTables old.store.geometry.size (said list) (shown store.dirty j)
    none_indexed = plain_tables_by old.store.geometry.size (said old.list) (said list)
        (shown old.store.dirty shows.image) (shown store.dirty j) shows.plain_tables
        (λ chosen layout r sound. record {
          chosen = λ u. u == t.0 || chosen u;
          before = (kept (λ u. u == t.0 || chosen u)).layout;
          reading = (kept (λ u. u == t.0 || chosen u)).reading;
          sound = kept_sound chosen;
          tables = λ its there. subst (λ (x : Layout). IsTableOf x its) (one_way old.store.geometry.size
              (left_state chosen (said list)) (shown store.dirty j) layout
              (kept (λ u. u == t.0 || chosen u)).layout r (kept (λ u. u == t.0 || chosen u)).reading sound
              (later_sound chosen)).0 there;
        })

    -- ---- its records read as they did

    known_now : KnowsIts o.next.0 old.store.geometry.size (said list) (shown store.dirty j) old.directories
    known_now = record {
      noted = stayed_has packed_form one_way old.store.geometry.size (left_state everyone (said old.list))
          (left_state everyone (said list)) (shown old.store.dirty shows.image) (shown store.dirty j)
          (by_table old.directories.dirs) shows.stands.shows.layout shows.stands.shows.reading
          shows.stands.shows.sound
          (sound_on shows.stands.shows.layout shows.stands.shows.reading shows.stands.shows.sound) shows.known.noted;
      lone = lone_stay one_way o.next.0 old.store.geometry.size (said old.list) (said list)
          (shown old.store.dirty shows.image) (shown store.dirty j) shows.stands.shows.layout
          shows.stands.shows.reading shows.stands.shows.sound
          (sound_on shows.stands.shows.layout shows.stands.shows.reading shows.stands.shows.sound) shows.known.lone;
    }

    -- ---- what the engine shows

    pub shows_now : ShowsIt m (left_by old waits list store t.0) o (entry (Commit t) Fine ∷ h)
        (standing_of (left_by old waits list store t.0) stands.numbers stands.tables)
    shows_now = record {
      image = j;
      held = held;
      stands = subst (λ (g : Geometry). Stands packed_form g.size o (entry (Commit t) Fine ∷ h)
          (standing_of (left_by old waits list store t.0) stands.numbers stands.tables)
          (Some (shown store.dirty j))) (sym goes.goes.geometry) ended.stands;
      lasts = ended.lasts;
      tips = subst (λ (g : Geometry). HasTips list g.size (shown store.dirty j)) (sym goes.goes.geometry)
          (ended.lists shows.tips);
      catalog = shows.catalog ∙ sym (ap (λ (page : List ℕ). (header_of (λ (n : ℕ). page)).catalog.0) header_stays);
      plain_tables = subst (λ (g : Geometry). HasPlainTables g.size (said list) (shown store.dirty j))
          (sym goes.goes.geometry) none_indexed;
      no_directory = shows.no_directory;
      known = subst (λ (g : Geometry). KnowsIts o.next.0 g.size (said list) (shown store.dirty j) old.directories)
          (sym goes.goes.geometry) known_now;
    }

    pub leaves_with : LeavesHistory m old.store.disk store.disk packed_form old.store.dirty.size o h
        (entry (Commit t) Fine ∷ h)
    leaves_with = ended.leaves

    -- ---- walks

    pub next_on : (u : ℕ) → is_of u (Some t.0) ≡ false → (table : Table) (after : Option WalkPlace) (rows : KeyedRows)
        → AreToCome old.store.geometry.size (standing_of old stands.numbers stands.tables)
        (shown old.store.dirty shows.image) u table after rows
        → AreToCome store.geometry.size
        (standing_of (left_by old waits list store t.0) stands.numbers stands.tables) (shown store.dirty j) u table
        after rows
    next_on u not_ table after rows next = subst (λ (g : Geometry). AreToCome g.size
        (standing_of (left_by old waits list store t.0) stands.numbers stands.tables) (shown store.dirty j) u table
        after rows) (sym goes.goes.geometry)
        (stay old.store.geometry.size (standing_of old stands.numbers stands.tables)
        (standing_of (left_by old waits list store t.0) stands.numbers stands.tables)
        (shown old.store.dirty shows.image) (shown store.dirty j) u table after rows
        (take o h (entry (Commit t) Fine) (standing_of old stands.numbers stands.tables)
        (standing_of (left_by old waits list store t.0) stands.numbers stands.tables) u
        (begins o shows.stands.opening) (lawful o h stands, shows.stands.legal) shows.stands.memory
        (follows o h stands) not_) data_stay sound_on next)

  -- ---- the history

  held_now : m.tells old.store.disk ≡ true → (j : Image) × (m.held store.disk ≡ Some j) × MayLeave m store.disk j
  held_now told = holds store.disk (goes.goes.time.tells ∙ told)

  abbrev stands_now : (o : Opening) (h : Entries) (stands : StandsFor m old o h)
      → StandsFor m (left_by old waits list store t.0) o (entry (Commit t) Fine ∷ h)
  stands_now o h stands = record {
    tells = goes.goes.time.tells ∙ stands.tells;
    grows = record { limbo = stands.grows.limbo; entries = (refl, stands.grows.entries) };
    bases = stands.bases;
    numbers = stands.numbers;
    tables = stands.tables;
    given = seen_still m places old waits list store t.0 stands.tables stands.given;
    kept = kept_without_work t.0 old.catalog.pointer.0 old.works stands.tables stands.kept;
    stands = subst (λ (off : Option ℕ). StandsWhile m (left_by old waits list store t.0) o
        (entry (Commit t) Fine ∷ h)
        (standing_of (left_by old waits list store t.0) stands.numbers stands.tables) off) (sym online)
        (shows_now o h stands (shows_of o h stands) (held_now stands.tells).0 (held_now stands.tells).1);
  }

  next_by : (o : Opening) (h : Entries) (stands : StandsFor m old o h) (u : ℕ) → is_of u (Some t.0) ≡ false
      → (table : Table) (after : Option WalkPlace) (rows : KeyedRows)
      → (shows : ShowsIt m old o h (standing_of old stands.numbers stands.tables))
      → (now : (j : Image) × (m.held store.disk ≡ Some j) × MayLeave m store.disk j)
      → AreNext m old (standing_of old stands.numbers stands.tables) u table after rows None
      → AreNext m (left_by old waits list store t.0)
      (standing_of (left_by old waits list store t.0) stands.numbers stands.tables) u table after rows None
  next_by o h stands u not_ table after rows shows (j, held, may) (i, was, next) = (
    j,
    held,
    next_on o h stands shows j held u not_ table after rows
        (subst (λ (k : Image). AreToCome old.store.geometry.size (standing_of old stands.numbers stands.tables)
        (shown old.store.dirty k) u table after rows) image_is next),
  )
    where
      image_is : i ≡ shows.image
      image_is = let both : Some i ≡ Some shows.image = sym was ∙ shows.held in cc

  walks_left : WalksStay (means m places) old (left_by old waits list store t.0) (Some t.0)
  walks_left u table after rows not_ comes = record {
    opening = comes.opening;
    entries = entry (Commit t) Fine ∷ comes.entries;
    stands = stands_now comes.opening comes.entries comes.stands;
    active = still_active m places old waits list store t.0 Committed ends not_active comes.opening comes.entries
        (entry (Commit t) Fine) refl u not_ comes.active;
    seen = given_same m places old waits list store t.0 u table.name not_ ∙ comes.seen;
    next = subst (λ (off : Option ℕ). AreNext m (left_by old waits list store t.0)
        (standing_of (left_by old waits list store t.0) comes.stands.numbers comes.stands.tables) u table
        (place_at places after) rows off) (sym online)
        (next_by comes.opening comes.entries comes.stands u not_ table (place_at places after) rows
        (shows_of comes.opening comes.entries comes.stands) (held_now comes.stands.tells)
        (subst (λ (off : Option ℕ). AreNext m old
        (standing_of old comes.stands.numbers comes.stands.tables) u table (place_at places after) rows off)
        continues.0 comes.next));
  }

  -- ---- crashes

  crash_left : LeavesWith (means m places) old (left_by old waits list store t.0) (Commit t) Fine
  crash_left o h stands told = by (held_now told)
    where
      by : (j : Image) × (m.held store.disk ≡ Some j) × MayLeave m store.disk j
          → LeavesOnly (means m places) old (left_by old waits list store t.0)
          (λ (c : Image). HoldsFrom packed_form store.dirty.size o (asked (entry (Commit t) Fine ∷ h))
          (durable_count h) c)
      by (j, held, may) = history_left m places old (left_by old waits list store t.0) o h
          (entry (Commit t) Fine) goes.goes.size (leaves_with o h stands (shows_of o h stands) j held).since

  -- ---- the whole

  pub commit_gives : AreApart old.works
      → GivesDurable m places old (left_by old waits list store t.0) (Commit t) Fine None (Some t.0) (Some t.0)
      (Some t.0)
  commit_gives apart = record {
    adds = λ o h stands. (lawful o h stands, stands_now o h stands);
    leaves = record {
      keeps = keeps_of m places old (left_by old waits list store t.0) None goes.goes (omega arith) (omega arith)
          (record { cause = tt; offline = rw continues.0 tt; down = online ∙ sym continues.0 });
      tables_stay = tables_left m places old waits list store t.0;
      walks_stay = walks_left;
      commits = commits_left m places old waits list store t.0 goes.unmarked;
    };
    crash = crash_left;
    sessions = sessions_end m places old (left_by old waits list store t.0) t.0 apart refl;
  }
