-- A transaction begins: its number was drawn on the pages, and the engine stands for the history with the begin.
use Rattle.std.proofs.Common.{◌≡◌, ◌≢◌, ◌⊎◌, inl, inr, ◌==◌, ◌++◌, ◌<◌, ◌≤◌, ℕ, Bool, true, false, List, [], ◌∷◌, Option, None, Some, refl, sym, ap, ◌∙◌, subst, arith}
use Rattle.std.specs.Prelude.{if◌then◌else◌}
use Rattle.std.proofs.Math.Path.{fun_ext}
use Rattle.std.proofs.lemmas.Bool.{cases_eq, eq-eqb, eqb-true, false≢true, ne_eqb}
use Rattle.mg_base.specs.Disk.{Meaning}
use Rattle.mg_base.specs.Image.{Image}
use Rattle.mg_base.specs.declared.geometry.Geometry.{Geometry}
use Rattle.mg_base.specs.declared.numbers.TxNo.{TxNo}
use Rattle.mg_base.specs.declared.transaction.TxState.{TxState}
use Rattle.mg_base.specs.declared.transaction.TxState.TheVariants.{Active, Dead}
use Rattle.mg_header.specs.declared.header.TheConstants.{GREATEST_NEXT}
use Rattle.mg_model.specs.declared.answer.Answer.{Answer}
use Rattle.mg_model.specs.declared.answer.Answer.TheVariants.{No, Tx}
use Rattle.mg_model.specs.declared.event.Event.TheVariants.{Begin}
use Rattle.mg_model.specs.declared.event.Mode.{Mode}
use Rattle.mg_model.specs.declared.opening.Opening.{Opening}
use Rattle.mg_model.specs.declared.refusal.Refusal.TheVariants.{TransactionLimit}
use Rattle.mg_model.specs.declared.table.Table.{Table}
use Rattle.mg_model.specs.Changes.{KeyedRows}
use Rattle.mg_model.specs.History.{Entries, Entry, entry}
use Rattle.mg_model.specs.Laws.{OpeningsBegin}
use Rattle.mg_model.specs.Legal.{IsLawful, IsLegal, MayBegin}
use Rattle.mg_model.specs.Machine.{deeds_by, is_of, mode_of, next_number, state_of, steps}
use Rattle.mg_model.specs.NumberLaws.{undrawn_has_no_deeds, undrawn_is_dead}
use Rattle.mg_model.specs.Openings.{everyone}
use Rattle.mg_engine_step_laws.specs.reads.Walking.{AreToCome, WalkPlace}
use Rattle.mg_engine_step_laws.specs.commits.ListShows.{DrawsKeepList}
use Rattle.mg_engine_step_laws.specs.commits.Begins.{BeginsGoOn, DrawsStaySound}
use Rattle.mg_engine_step_laws.specs.writes.GoesOn.{HasGoneOn}
use Rattle.mg_engine_step_laws.specs.tables.Finding.{BeginFinds, BeginHasTables, TablesFor}
use Rattle.mg_engine_step_laws.specs.reads.Alike.{OthersTakeAlike, WalksStayOver}
use Rattle.mg_engine_step_laws.specs.tables.Lawful.{DatabasesAreLawful}
use Rattle.mg_image_overlay_laws.specs.tables.Growing.{IsTableOf}
use Rattle.mg_image.specs.Form.{Pages, packed_coding, packed_form}
use Rattle.mg_image.specs.Inventory.{next_of}
use Rattle.mg_image.specs.ReadingLaws.{RowsAreOne}
use Rattle.mg_image.specs.Records.{Reading}
use Rattle.mg_image.specs.Sound.{IsSoundBy}
use Rattle.mg_image.specs.Tables.{Layout}
use Rattle.mg_image_overlay_laws.specs.transactions.Begins.{begin_sound}
use Rattle.mg_image_overlay_laws.specs.kept.KeptImages.{IsKept, keeping}
use Rattle.mg_lasting_laws.specs.Crashes.{HoldsAcknowledged, LeavesSince}
use Rattle.mg_lasting_laws.specs.Lasting.{LastsOn}
use Rattle.mg_lasting_laws.specs.PoolLaws.{HoldsOne}
use Rattle.mg_image_overlay_laws.specs.tables.OneLayout.{StandsOneWay}
use Rattle.mg_noted_laws.specs.ComingLaws.{stayed_has}
use Rattle.mg_directory.specs.Candidates.{by_table}
use Rattle.mg_overlay_laws.specs.BatchLaws.{good_of_pool}
use Rattle.mg_overlay_laws.specs.Overlays.{left_by, left_state}
use Rattle.mg_pool.specs.Pool.{cache_of, shown}
use Rattle.mg_pool.specs.declared.pool.Pool.{Pool}
use Rattle.mg_pool_overlay_laws.specs.Needs.{Asked, needs_by}
use Rattle.mg_records.specs.Keeping.{WalksStay}
use Rattle.mg_records.specs.Reading.{shape_seen}
use Rattle.mg_snap.specs.Live.{after_enter}
use Rattle.mg_space.specs.declared.links.FireLinks.{FireLinks}
use Rattle.mg_engine_step_laws.specs.standing.Following.{FollowsEntry}
use Rattle.mg_engine_step_laws.specs.standing.QuietPages.{StaySound}
use Rattle.mg_engine_step_laws.specs.standing.Standing.{IsSeenAs, RemembersOne, Standing, Stands}
use Rattle.mg_txlist.specs.Drawing.{AddsNumber, DrawsIn}
use Rattle.mg_txlist.specs.TxList.{IsTxList, next_said, said}
use Rattle.mg_txlist.specs.declared.list.TxList.{TxList}
use Rattle.mg_tie_laws.specs.DrawTies.{DrawsFrom}
use Rattle.mg_undo.specs.Machine.{undo_of}
use Rattle.mg_works.specs.Works.{Working, begun, given_by, given_to, has_session, work_of}
use Rattle.mg_core.specs.declared.parts.Core.{Core}
use Rattle.mg_core.specs.Cores.{IsCore}
use Rattle.mg_engine_meaning_laws.specs.KnownRecords.{KnowsIts}
use Rattle.mg_engine_meaning_laws.specs.LoneRowsLaws.{lone_stay}
use Rattle.mg_engine_meaning_laws.specs.FrameLaws.{apart_from, commits_of, keeps_of, quiet_of, tables_of}
use Rattle.mg_engine_meaning_laws.specs.Frames.{GivesEvent, StoreGoesOn}
use Rattle.mg_engine_meaning_laws.specs.PlainLaws.{plain_tables_by}
use Rattle.mg_engine_meaning_laws.specs.PlainTables.{HasPlainTables}
use Rattle.mg_engine_meaning_laws.specs.KeptLaws.{IsBare, StaysKept, kept_each}
use Rattle.mg_engine_meaning_laws.specs.LawfulLaws.{legal_of, memory_of, opening_of}
use Rattle.mg_engine_meaning_laws.specs.Meaning.{AreNext, Places, WorksFor, means, place_at}
use Rattle.mg_engine_meaning_laws.specs.Standings.{AreSeen, HasTips, KeepsWritten, SeesIt, ShowsIt, StandsFor, StandsWhile, Tables, asked_in, mode_kept, session_kept, sessions_in, standing_of, undo_kept, written_kept}
use Rattle.mg_engine_meaning_laws.specs.StepLaws.{as_standing, shows_of}
use Rattle.mg_engine_meaning_laws.specs.BasesLaws.{bases_after}
use Rattle.mg_engine_meaning_laws.specs.DrawnStores.{drawn_catalog, drawn_data, drawn_goes, drawn_offline, drawn_unmarked}
use Rattle.mg_engine_meaning_laws.specs.NewWorks.{begun_apart, begun_asked, begun_given, begun_its, begun_others, begun_sessions, next_none, none_asked}

-- The laws below on which this stands.
pub record KnownOfDraws {D : Type 0} (m : Meaning D) : Type 0 where
  pub holds : HoldsOne D m
  pub rows : RowsAreOne packed_coding
  pub openings : OpeningsBegin
  pub begins : BeginsGoOn D FireLinks m packed_form
  pub sound : DrawsStaySound D FireLinks m packed_form
  pub list : DrawsKeepList D FireLinks m packed_form
  pub has_tables : BeginHasTables
  pub databases : DatabasesAreLawful
  pub finds : BeginFinds
  pub one_way : StandsOneWay packed_form
  pub takes : OthersTakeAlike
  pub walks : WalksStayOver

-- the machine answers with the next number, as long as there is one
drawn_answer : (next limit : ℕ) → next ≢ limit
    → ◌≡◌ {A = Answer} (if next == limit then No TransactionLimit else Tx (record { 0 = next }))
    (Tx (record { 0 = next }))
drawn_answer next limit ne = rw (ne_eqb next limit ne) refl

module _ {D P : Type 0} (m : Meaning D) (places : Places P) (known : KnownOfDraws m) (old : Core D)
    (store : Pool D FireLinks) (list : TxList) (session : ℕ) (mode : Mode) (tx : TxNo) (core : IsCore m old)
    (list_is : IsTxList list) (low : session < 32) (free : has_session old.works session ≡ false)
    (online : old.store.offline ≡ None) (number : tx.0 ≡ next_said old.list) (below : tx.0 < GREATEST_NEXT)
    (adds : AddsNumber old.list list) (draws : DrawsIn m old.list list old.store store) where
  abbrev e : Entry
  e = entry (Begin session mode) (Tx tx)

  abbrev works : List Working
  works = old.works ++ begun tx.0 session mode ∷ []

  abbrev now : Core D
  now = record old {
    store = store;
    list = list;
    works = old.works ++ begun tx.0 session mode ∷ [];
    live = after_enter old.live tx.0;
  }

  none : work_of old.works tx.0 ≡ None
  none = next_none m old tx.0 core number

  others : (u : ℕ) → u ≢ tx.0 → work_of works u ≡ work_of old.works u
  others = begun_others old.works tx.0 session mode none

  its_work : work_of works tx.0 ≡ Some (begun tx.0 session mode)
  its_work = begun_its old.works tx.0 session mode none

  goes : StoreGoesOn m old.store store
  goes = drawn_goes m old.list list old.store store draws

  offline : store.offline ≡ old.store.offline
  offline = drawn_offline m old.list list old.store store draws

  given_others : (u : ℕ) (name : List ℕ) → u ≢ tx.0
      → given_to works u name ≡ given_to old.works u name
  given_others u name ne = ap (λ (w : Option Working). given_by w name) (others u ne)

  -- ---- the entry

  number_told : (o : Opening) (h : Entries) → StandsFor m old o h → tx.0 ≡ next_number o h
  number_told o h stands = number ∙ (memory_of m old o h stands).next

  lawful : (o : Opening) (h : Entries) → StandsFor m old o h → IsLawful o h e
  lawful o h stands = inl (sym (drawn_answer (next_number o h) o.limit.0 apart
      ∙ ap (λ (n : ℕ). Tx (record { 0 = n })) (sym (number_told o h stands))))
    where
      apart : next_number o h ≢ o.limit.0
      apart same =
          let next = number_told o h stands in
          let limit : GREATEST_NEXT ≡ o.limit.0 = (memory_of m old o h stands).limit in
          omega (arith, below, next, limit, same)

  may_begin : (o : Opening) (h : Entries) → StandsFor m old o h → MayBegin o
  may_begin o h stands = known.openings o (opening_of m old o h stands)

  legal : (o : Opening) (h : Entries) → StandsFor m old o h → IsLegal o (e ∷ h)
  legal o h stands = (lawful o h stands, legal_of m old o h stands)

  -- ---- memory

  abbrev tables_now : Tables → (List ℕ → Option Table) → Tables
  tables_now tables its u name = if tx.0 == u then its name else tables u name

  its_now : (tables : Tables) (its : List ℕ → Option Table) (name : List ℕ)
      → (if tx.0 == tx.0 then its name else tables tx.0 name) ≡ its name
  its_now tables its name = rw (eq-eqb tx.0 tx.0 refl) refl

  others_now : (tables : Tables) (its : List ℕ → Option Table) (u : ℕ) (name : List ℕ)
      → (tx.0 == u) ≡ false → (if tx.0 == u then its name else tables u name) ≡ tables u name
  others_now tables its u name not_ = rw not_ refl

  seen_now : (tables : Tables) (its : List ℕ → Option Table) → AreSeen old.works tables
      → AreSeen works (tables_now tables its)
  seen_now tables its seen u name table given = at (cases_eq u tx.0)
    where
      at : (u ≡ tx.0) ⊎ (u ≢ tx.0) → tables_now tables its u name ≡ Some table
      at (inl same) = let none_ : None ≡ Some table =
          sym (begun_given old.works tx.0 session mode none name)
          ∙ (ap (λ (n : ℕ). given_to works n name) (sym same) ∙ given) in
          absurd cc
      at (inr ne) = others_now tables its u name (ne_eqb tx.0 u (λ same. ne (sym same)))
          ∙ seen u name table (sym (given_others u name ne) ∙ given)

  -- what the others keep for taking back is kept still, and it has nothing yet
  kept_now : (tables : Tables) (its : List ℕ → Option Table) → KeepsWritten old.catalog.pointer.0 old.works tables
      → KeepsWritten old.catalog.pointer.0 works (tables_now tables its)
  kept_now tables its kept = kept_each old.catalog.pointer.0 old.works works tables (tables_now tables its) kept
      (λ u. at u (cases_eq u tx.0))
    where
      at : (u : ℕ) → (u ≡ tx.0) ⊎ (u ≢ tx.0) → IsBare (work_of works u)
          ⊎ StaysKept (work_of old.works u) (work_of works u) (tables u) (tables_now tables its u)
      at u (inl same) =
          let new_is : work_of works u ≡ Some (begun tx.0 session mode) = ap (work_of works) same ∙ its_work in
          inl (record {
            written = ap written_kept new_is;
            changes = ap (λ (x : Option Working). (undo_kept x).changes) new_is;
          })
      at u (inr ne) = inr (record {
        written = ap written_kept (others u ne);
        changes = ap (λ (x : Option Working). (undo_kept x).changes) (others u ne);
        seen = λ table alike. subst (λ (x : Option Table). SeesIt x table)
            (sym (others_now tables its u table.name (ne_eqb tx.0 u (λ same. ne (sym same))))) alike;
      })

  state_now : (u : ℕ) → said list u ≡ (if tx.0 == u then Active else said old.list u)
  state_now u = at (cases_eq tx.0 u)
    where
      at : (tx.0 ≡ u) ⊎ (tx.0 ≢ u) → said list u ≡ (if tx.0 == u then Active else said old.list u)
      at (inl same) = ap (said list) (sym same ∙ number)
          ∙ (adds.here ∙ sym (turned same))
        where
          turned : tx.0 ≡ u → (if tx.0 == u then Active else said old.list u) ≡ Active
          turned is = rw (eq-eqb tx.0 u is) refl
      at (inr ne) = adds.others u (λ is. ne (number ∙ sym is)) ∙ sym (turned ne)
        where
          turned : tx.0 ≢ u → (if tx.0 == u then Active else said old.list u) ≡ said old.list u
          turned is = rw (ne_eqb tx.0 u is) refl

  -- memory follows the entry, where these are the tables that it sees
  module _ (o : Opening) (h : Entries) (stands : StandsFor m old o h) (its : List ℕ → Option Table)
      (seen : (name : List ℕ) → IsSeenAs name
      (shape_seen o (e ∷ h) tx.0 name) (its name)) where
    abbrev before : Standing
    before = standing_of old stands.numbers stands.tables

    abbrev after : Standing
    after = standing_of now stands.numbers (tables_now stands.tables its)

    nothing_done : deeds_by tx.0 (steps o h) ≡ []
    nothing_done = undrawn_has_no_deeds o (may_begin o h stands) h (legal_of m old o h stands) tx.0
        (let is = number_told o h stands in omega (arith, is))

    mode_told : mode_of (e ∷ h) tx.0 ≡ mode
    mode_told = rw (eq-eqb tx.0 tx.0 refl) refl

    remembers_its : RemembersOne o (e ∷ h) after tx.0
    remembers_its = record {
      mode = ap mode_kept its_work ∙ sym mode_told;
      session = subst (λ (n : ℕ). n < 32) (sym (ap session_kept its_work)) low;
      undo = ap undo_kept its_work ∙ sym (ap (undo_of (stands.numbers tx.0)) nothing_done);
      table = λ name. subst (IsSeenAs name (shape_seen o (e ∷ h) tx.0 name))
          (sym (its_now stands.tables its name)) (seen name);
    }

    apart_now : (u v : ℕ) → (tx.0 == u) ≡ true → (tx.0 == v) ≡ false → said list v ≡ Active
        → sessions_in works u ≢ sessions_in works v
    apart_now u v is not_ also same =
        let ne : v ≢ tx.0 = apart_from v tx.0 not_ in
        let its_session : sessions_in works u ≡ session =
        ap (sessions_in works) (sym (eqb-true tx.0 u is)) ∙ ap session_kept its_work in
        begun_apart old.works tx.0 session mode none free v ne
        (core.active.has_work v (sym (adds.others v (λ is_. ne (is_ ∙ sym number))) ∙ also))
        (sym same ∙ its_session)

    pub begun_follows : FollowsEntry o h e before after
    begun_follows = record {
      limit = refl;
      next = adds.next;
      state = state_now;
      live = refl;
      waits = λ u. refl;
      others = λ u not_ active. let ne : u ≢ tx.0 = apart_from u tx.0 not_ in record {
        mode = ap mode_kept (others u ne);
        session = ap session_kept (others u ne);
        undo = ap undo_kept (others u ne);
        number = refl;
        table = λ name. others_now stands.tables its u name not_;
      };
      its = λ u is active. subst (RemembersOne o (e ∷ h) after) (eqb-true tx.0 u is) remembers_its;
      apart = λ u v is not_ active also same. apart_now u v is not_ also same;
    }

  -- ---- pages

  -- what is held afterwards
  held_now : m.tells old.store.disk ≡ true → (j : Image) × (m.held store.disk ≡ Some j)
  held_now told = let after = known.holds store.disk (goes.time.tells ∙ told) in (after.0, after.1)

  module _ (o : Opening) (h : Entries) (stands : StandsFor m old o h)
      (shows : ShowsIt m old o h (standing_of old stands.numbers stands.tables)) (j : Image)
      (held : m.held store.disk ≡ Some j) where
    abbrev size : ℕ
    size = old.store.geometry.size

    abbrev pages : Pages
    pages = shown old.store.dirty shows.image

    abbrev later : Pages
    later = shown store.dirty j

    abbrev s : Standing
    s = standing_of old stands.numbers stands.tables

    from : DrawsFrom m old.list list old.store store shows.image j
    from = record {
      geometry = core.geometry;
      size = core.size;
      was = core.list;
      now = list_is;
      adds = adds;
      draws = draws;
      tells = record { told = stands.tells; held = shows.held };
      held = held;
      next = sym shows.stands.shows.next;
    }

    tables_for : TablesFor o (e ∷ h) shows.stands.shows.layout tx.0
    tables_for = known.has_tables size o h e tx.0 mode s pages
        (record { memory = shows.stands.memory; shows = shows.stands.shows }) (may_begin o h stands) (legal o h stands)
        refl

    abbrev new : Standing
    new = standing_of now stands.numbers (tables_now stands.tables tables_for.table)

    follows : FollowsEntry o h e s new
    follows = begun_follows o h stands tables_for.table tables_for.seen_as

    -- pages that are sound stay so, whatever transactions count as
    stay_sound : (state : ℕ → TxState) → StaySound packed_form size state pages later
    stay_sound state = known.sound old.list list old.store store shows.image j state from

    gone : HasGoneOn m packed_form size o h e new old.store store j (asked_in old.works) (sessions_in works)
    gone = known.begins o h e tx.0 mode s new old.list list old.store store shows.image j (asked_in old.works)
        (sessions_in old.works) (sessions_in works) shows.stands shows.lasts core.pool from
        (goes.time.tells ∙ stands.tells) (lawful o h stands) refl refl refl (none_asked old.works tx.0 session mode none)
        (λ u asks. ap session_kept (others u (λ same. false≢true
        (sym (none_asked old.works tx.0 session mode none) ∙ (ap (asked_in old.works) (sym same) ∙ asks)))))
        follows (known.finds size o h e tx.0 mode s new pages later
        (record { memory = shows.stands.memory; shows = shows.stands.shows }) (may_begin o h stands) (legal o h stands)
        refl follows (stay_sound (left_state everyone (said list))) tables_for (λ name. its_now stands.tables tables_for.table name))

    -- ---- whichever transactions count as in limbo

    fresh : next_of pages ≤ tx.0
    fresh = let shown_next = shows.stands.shows.next in omega (arith, shown_next, number)

    dead : said old.list tx.0 ≡ Dead
    dead = (memory_of m old o h stands).state tx.0 ∙ undrawn_is_dead o (may_begin o h stands) h
        (legal_of m old o h stands) tx.0 (let is = number_told o h stands in omega (arith, is))

    active : said list tx.0 ≡ Active
    active = ap (said list) number ∙ adds.here

    pub sound_then : (chosen : ℕ → Bool) (layout : Layout) (r : Reading)
        → IsSoundBy packed_form size (left_state chosen (said old.list)) pages layout r
        → IsSoundBy packed_form size (left_state chosen (said list)) later layout r
    sound_then chosen layout r sound = stay_sound (left_state chosen (said list)) layout r (at (chosen tx.0) refl)
      where
        others_same : (u : ℕ) → u ≢ tx.0 → left_state chosen (said list) u ≡ left_state chosen (said old.list) u
        others_same u ne = ap (left_by (chosen u)) (adds.others u (λ is. ne (is ∙ sym number)))

        at : (b : Bool) → chosen tx.0 ≡ b
            → IsSoundBy packed_form size (left_state chosen (said list)) pages layout r
        at true is = begin_sound packed_form size (left_state chosen (said old.list)) (left_state chosen (said list)) tx.0
            (record {
              dead = ap (left_by (chosen tx.0)) dead ∙ ap (λ (b : Bool). left_by b Dead) is;
              limbo = ap (left_by (chosen tx.0)) active ∙ ap (λ (b : Bool). left_by b Active) is;
              others = others_same;
            }) pages layout r sound fresh
        at false is = subst (λ (state : ℕ → TxState). IsSoundBy packed_form size state pages layout r)
            (fun_ext (λ u. same u (cases_eq u tx.0))) sound
          where
            same : (u : ℕ) → (u ≡ tx.0) ⊎ (u ≢ tx.0)
                → left_state chosen (said old.list) u ≡ left_state chosen (said list) u
            same u (inr ne) = sym (others_same u ne)
            same u (inl is_) = ap (left_state chosen (said old.list)) is_
                ∙ (ap (left_by (chosen tx.0)) dead ∙ (ap (λ (b : Bool). left_by b Dead) is
                ∙ (sym (ap (λ (b : Bool). left_by b Active) is) ∙ (sym (ap (left_by (chosen tx.0)) active)
                ∙ ap (left_state chosen (said list)) (sym is_)))))

    -- ---- tables are plain still

    image_same : shows.lasts.image ≡ shows.image
    image_same = let both : Some shows.lasts.image ≡ Some shows.image = sym shows.lasts.held ∙ shows.held in cc

    state_told : state_of o h ≡ said old.list
    state_told = fun_ext (λ u. sym ((memory_of m old o h stands).state u))

    -- pages that are sound before, whichever are chosen
    kept_before : (chosen : ℕ → Bool) → IsKept packed_form old.store.dirty.size o h
        (left_state chosen (state_of o h)) (shown old.store.dirty shows.lasts.image)
        (shown old.store.dirty shows.lasts.image)
    kept_before chosen = good_of_pool (keeping packed_form old.store.dirty.size o h) (state_of o h)
        (cache_of old.store.dirty old.store.graph shows.lasts.image)
        (needs_by (asked_in old.works) (sessions_in old.works) old.store.dirty) shows.lasts.lasts.clean
        shows.lasts.lasts.dirty shows.lasts.lasts.every chosen

    sound_before : (chosen : ℕ → Bool) → IsSoundBy packed_form size (left_state chosen (said old.list)) pages
        (kept_before chosen).of_pool (kept_before chosen).in_pool
    sound_before chosen = subst (λ (n : ℕ). IsSoundBy packed_form n (left_state chosen (said old.list)) pages
        (kept_before chosen).of_pool (kept_before chosen).in_pool) core.pool.page_size
        (subst (λ (state : ℕ → TxState). IsSoundBy packed_form old.store.dirty.size (left_state chosen state)
        pages (kept_before chosen).of_pool (kept_before chosen).in_pool) state_told
        (subst (λ (i : Image). IsSoundBy packed_form old.store.dirty.size (left_state chosen (state_of o h))
        (shown old.store.dirty i) (kept_before chosen).of_pool (kept_before chosen).in_pool) image_same
        (kept_before chosen).pool_sound))

    plain_now : HasPlainTables size (said list) later
    plain_now = plain_tables_by size (said old.list) (said list) pages later shows.plain_tables (λ chosen layout r sound. record {
      chosen = chosen;
      before = (kept_before chosen).of_pool;
      reading = (kept_before chosen).in_pool;
      sound = sound_before chosen;
      tables = λ its_ there. subst (λ (l : Layout). IsTableOf l its_)
          (known.one_way size (left_state chosen (said list)) later layout
          (kept_before chosen).of_pool r (kept_before chosen).in_pool sound
          (sound_then chosen (kept_before chosen).of_pool (kept_before chosen).in_pool (sound_before chosen))).0
          there;
    })

    -- ---- its records read as they did

    known_now : KnowsIts o.next.0 size (said list) later old.directories
    known_now = record {
      noted = stayed_has packed_form known.one_way size (left_state everyone (said old.list))
          (left_state everyone (said list)) pages later (by_table old.directories.dirs) shows.stands.shows.layout
          shows.stands.shows.reading shows.stands.shows.sound
          (sound_then everyone shows.stands.shows.layout shows.stands.shows.reading shows.stands.shows.sound)
          shows.known.noted;
      lone = lone_stay known.one_way o.next.0 size (said old.list) (said list) pages later shows.stands.shows.layout
          shows.stands.shows.reading shows.stands.shows.sound
          (sound_then everyone shows.stands.shows.layout shows.stands.shows.reading shows.stands.shows.sound)
          shows.known.lone;
    }

    -- ---- the engine

    shows_now : ShowsIt m now o (e ∷ h) new
    shows_now = record {
      image = j;
      held = held;
      stands = subst (λ (g : Geometry). Stands packed_form g.size o (e ∷ h) new (Some later)) (sym goes.geometry)
          gone.stands;
      lasts = subst (λ (asks : Asked). LastsOn m packed_form o (e ∷ h) store asks (sessions_in works))
          (sym (begun_asked old.works tx.0 session mode none)) gone.lasts;
      tips = subst (λ (g : Geometry). HasTips list g.size later) (sym goes.geometry)
          (known.list old.list list old.store store shows.image j
          (left_state everyone (said old.list)) shows.stands.shows.layout shows.stands.shows.reading from
          shows.stands.shows.sound shows.tips);
      catalog = shows.catalog ∙ sym (drawn_catalog m known.rows old.list list old.store store shows.image j from
          (left_state everyone (said old.list)) shows.stands.shows.layout shows.stands.shows.reading
          shows.stands.shows.sound);
      plain_tables = subst (λ (g : Geometry). HasPlainTables g.size (said list) later) (sym goes.geometry) plain_now;
      no_directory = shows.no_directory;
      known = subst (λ (g : Geometry). KnowsIts o.next.0 g.size (said list) later old.directories) (sym goes.geometry)
          known_now;
    }

    stands_by : StandsFor m now o (e ∷ h)
    stands_by = record {
      tells = goes.time.tells ∙ stands.tells;
      grows = record { limbo = stands.grows.limbo; entries = (refl, stands.grows.entries) };
      bases = bases_after o h e stands.bases (λ u is. known.databases size o h s pages
          (record { memory = shows.stands.memory; shows = shows.stands.shows }));
      numbers = stands.numbers;
      tables = tables_now stands.tables tables_for.table;
      given = seen_now stands.tables tables_for.table stands.given;
      kept = kept_now stands.tables tables_for.table stands.kept;
      stands = subst (λ (off : Option ℕ). StandsWhile m now o (e ∷ h) new off) (sym (offline ∙ online)) shows_now;
    }

    leaves_by : LeavesSince m old.store.disk store.disk (HoldsAcknowledged packed_form old.store.dirty.size o h)
    leaves_by = gone.leaves

    -- the rows to which a walk of another one comes
    comes_by : (u : ℕ) (table : Table) (after : Option WalkPlace) (rows : KeyedRows) → is_of u (Some tx.0) ≡ false
        → AreToCome size s pages u table after rows → AreToCome size new later u table after rows
    comes_by u table after rows not_ come = known.walks size s new pages later u table after rows
        (known.takes o h e s new u (may_begin o h stands) (legal o h stands) (memory_of m old o h stands) follows not_)
        (drawn_data m known.rows old.list list old.store store shows.image j from
        (left_state everyone (said old.list)) shows.stands.shows.layout shows.stands.shows.reading
        shows.stands.shows.sound) (sound_then everyone) come

  -- ---- the whole

  begun_stands : (o : Opening) (h : Entries) → StandsFor m old o h → StandsFor m now o (e ∷ h)
  begun_stands o h stands = let after = held_now stands.tells in
      stands_by o h stands (shows_of m old o h stands online) after.0 after.1

  -- walks of the others
  next_on : (o : Opening) (h : Entries) (stands : StandsFor m old o h) (j : Image) (held : m.held store.disk ≡ Some j)
      (u : ℕ) (table : Table) (after : Option WalkPlace) (rows : KeyedRows) (s_now : Standing)
      → is_of u (Some tx.0) ≡ false → said list ≡ s_now.state → after_enter old.live tx.0 ≡ s_now.live
      → AreNext m old (standing_of old stands.numbers stands.tables) u table after rows None
      → AreNext m now s_now u table after rows None
  next_on o h stands j held u table after rows s_now not_ state bases (i, was, come) = (
    j,
    held,
    subst (λ (g : Geometry). AreToCome g.size s_now (shown store.dirty j) u table after rows) (sym goes.geometry)
        (as_standing old.store.geometry.size (standing_of now stands.numbers
        (tables_now stands.tables (tables_for o h stands shows j held).table)) s_now (shown store.dirty j) u table
        after rows state bases
        (comes_by o h stands shows j held u table after rows not_
        (subst (λ (k : Image). AreToCome old.store.geometry.size (standing_of old stands.numbers stands.tables)
        (shown old.store.dirty k) u table after rows) same come))),
  )
    where
      shows : ShowsIt m old o h (standing_of old stands.numbers stands.tables)
      shows = shows_of m old o h stands online

      same : i ≡ shows.image
      same = let both : Some i ≡ Some shows.image = sym was ∙ shows.held in cc

  begun_walks : WalksStay (means m places) old now (Some tx.0)
  begun_walks u table after rows not_ comes =
      let stands_now : StandsFor m now comes.opening (e ∷ comes.entries) =
      begun_stands comes.opening comes.entries comes.stands in
      let held = held_now comes.stands.tells in record {
        opening = comes.opening;
        entries = e ∷ comes.entries;
        stands = stands_now;
        active = (let same : state_of comes.opening (e ∷ comes.entries) u
            ≡ state_of comes.opening comes.entries u = rw not_ refl in same ∙ comes.active);
        seen = given_others u table.name (apart_from u tx.0 not_) ∙ comes.seen;
        next = subst (λ (off : Option ℕ). AreNext m now (standing_of now stands_now.numbers stands_now.tables) u table
            (place_at places after) rows off) (sym (offline ∙ online))
            (next_on comes.opening comes.entries comes.stands held.0 held.1 u table (place_at places after) rows
            (standing_of now stands_now.numbers stands_now.tables) not_ refl refl
            (subst (λ (off : Option ℕ). AreNext m old
            (standing_of old comes.stands.numbers comes.stands.tables) u table (place_at places after) rows off)
            online comes.next));
      }

  pub begun_gives : GivesEvent m places old now (Begin session mode) (Tx tx) None (Some tx.0) (Some tx.0)
      (Some session) None
  begun_gives = record {
    adds = λ o h stands. (lawful o h stands, begun_stands o h stands);
    leaves = record {
      keeps = keeps_of m places old now None goes (omega arith) (omega arith)
          (record { cause = tt; offline = rw online tt; down = offline });
      tables_stay = tables_of m places old now (Some tx.0)
          (λ u name not_. given_others u name (apart_from u tx.0 not_));
      walks_stay = begun_walks;
      commits = commits_of m places old now (Some tx.0)
          (λ u not_. ap (λ (asks : Asked). asks u) (begun_asked old.works tx.0 session mode none))
          (λ u not_. ap session_kept (others u (apart_from u tx.0 not_)))
          (λ u page not_ was unmarked. drawn_unmarked m old.list list old.store store draws page
          (sessions_in old.works u) unmarked);
    };
    crash = quiet_of m places old now (λ o h stands told. let after = held_now stands.tells in
        leaves_by o h stands (shows_of m old o h stands online) after.0 after.1) goes.size;
    sessions = begun_sessions m places old now tx.0 session mode none refl;
  }

  -- it is its session's from then on
  pub begun_works : WorksFor now tx.0 session
  begun_works = record { work = begun tx.0 session mode; its = its_work; by = refl }
