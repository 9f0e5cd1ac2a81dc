-- A statement begins.
use Rattle.std.proofs.Common.{◌≡◌, ◌≢◌, ◌⊎◌, inl, inr, ◌==◌, ◌&&◌, ◌++◌, ◌<◌, ℕ, Bool, true, false, not, List, [], ◌∷◌, Option, None, Some, Result, Ok, Err, refl, sym, ap, ◌∙◌, subst, arith, cond}
use Rattle.std.specs.Prelude.{if◌then◌else◌, is_some, MatchResult}
use Rattle.std.proofs.lemmas.Bool.{cases_eq, eq-eqb, eqb-true, false≢true, ne_eqb}
use Rattle.mg_base.specs.Disk.{Meaning}
use Rattle.mg_base.specs.Image.{Image}
use Rattle.mg_engine_meaning_laws.specs.SeenStill.{sees_still}
use Rattle.mg_base.specs.declared.numbers.TxNo.{TxNo}
use Rattle.mg_base.specs.declared.transaction.TxState.TheVariants.{Active}
use Rattle.mg_value.specs.declared.shape.Shape.{Shape}
use Rattle.mg_model.specs.declared.answer.Answer.TheVariants.{Fine, No}
use Rattle.mg_model.specs.declared.change.Change.{Change}
use Rattle.mg_model.specs.declared.event.Event.TheVariants.{Look}
use Rattle.mg_model.specs.declared.event.Mode.{Mode}
use Rattle.mg_model.specs.declared.opening.Opening.{Opening}
use Rattle.mg_model.specs.declared.refusal.Refusal.{Refusal}
use Rattle.mg_model.specs.declared.table.Table.{Table}
use Rattle.mg_model.specs.Catalog.{catalog_name}
use Rattle.mg_model.specs.Changes.{row_at}
use Rattle.mg_model.specs.Effects.{is_its}
use Rattle.mg_model.specs.History.{Entries, Entry, Looks, effect_of, entry}
use Rattle.mg_model.specs.Laws.{OpeningsBegin}
use Rattle.mg_model.specs.Legal.{IsLawful}
use Rattle.mg_model.specs.Machine.{base, database, is_of, mode_of, own, state_of}
use Rattle.mg_model.specs.Openings.{everyone}
use Rattle.mg_chain.specs.Bases.{live_after}
use Rattle.mg_engine_step_laws.specs.standing.Known.{KnowsPages}
use Rattle.mg_engine_step_laws.specs.commits.Idle.{IdleGoesOn}
use Rattle.mg_engine_step_laws.specs.tables.Finding.{LookFinds, LookHasTables, TablesFor}
use Rattle.mg_engine_step_laws.specs.tables.Lawful.{DatabasesAreLawful}
use Rattle.mg_grown_catalog_laws.specs.Grown.{BasesAreWithin}
use Rattle.mg_image.specs.Form.{packed_form}
use Rattle.mg_lasting_laws.specs.Changing.{QuietHolds}
use Rattle.mg_overlay_laws.specs.Overlays.{left_state}
use Rattle.mg_pool.specs.Pool.{shown}
use Rattle.mg_pool_overlay_laws.specs.Needs.{Asked, Sessions}
use Rattle.mg_records.specs.Adding.{fine_or}
use Rattle.mg_records.specs.Keeping.{refusal_in}
use Rattle.mg_records.specs.Reading.{shape_named, shape_seen}
use Rattle.mg_snap.specs.Live.{State as Bases, after_rebase, sees}
use Rattle.mg_snap.specs.LiveLaws.{others_change_nothing}
use Rattle.mg_space.specs.declared.links.FireLinks.{FireLinks}
use Rattle.mg_engine_step_laws.specs.standing.Following.{FollowsEntry, StandsOn}
use Rattle.mg_engine_step_laws.specs.standing.QuietPages.{FindsAfter}
use Rattle.mg_engine_step_laws.specs.standing.Standing.{IsSeenAs, Remembers, RemembersOne, Standing}
use Rattle.mg_txlist.specs.TxList.{said}
use Rattle.mg_waits.specs.Waits.{NowWaits, edges_in}
use Rattle.mg_works.specs.Works.{Working, given_by, given_to, with_work, without_tables, work_of}
use Rattle.mg_works.specs.WorksLaws.{with_its, with_none}
use Rattle.mg_core.specs.declared.parts.Core.{Core}
use Rattle.mg_core.specs.Cores.{Continues, IsCore}
use Rattle.mg_core.specs.Events.{IsRefused, Looks as CoreLooks, keeps_base, keeps_base_of, with_base, with_base_if}
use Rattle.mg_engine_meaning_laws.specs.EventLaws.{refused_gives}
use Rattle.mg_engine_meaning_laws.specs.FrameLaws.{apart_from, commits_of, kept_with, others_given, same_asked, same_sessions, sessions_of, tables_of, works_same, works_with}
use Rattle.mg_engine_meaning_laws.specs.Frames.{GivesEvent, WorksStay}
use Rattle.mg_engine_meaning_laws.specs.KeptLaws.{kept_each, made_kept, one_there}
use Rattle.mg_engine_meaning_laws.specs.LawfulLaws.{legal_of, memory_of, opening_of}
use Rattle.mg_engine_meaning_laws.specs.Meaning.{Places, means}
use Rattle.mg_engine_meaning_laws.specs.MemoryCallLaws.{active_answer, idle_finds, memory_keeps, memory_quiet, memory_stands, memory_walks}
use Rattle.mg_engine_meaning_laws.specs.Standings.{AreSeen, KeepsWritten, Numbers, SeesIt, ShowsIt, StandsFor, StandsWhile, Tables, asked_in, asked_kept, mode_kept, session_kept, sessions_in, standing_of, undo_kept}
use Rattle.mg_engine_meaning_laws.specs.BasesLaws.{bases_after}
use Rattle.mg_engine_meaning_laws.specs.LawfulBases.{BasesAreLawful}

-- who keeps a base is whose mode says so
keeps_is : (work : Option Working) → keeps_base_of work ≡ (mode_kept work).snapshot
keeps_is None = refl
keeps_is (Some w) = refl

module _ {D P : Type 0} (m : Meaning D) (places : Places P) (idle_goes : IdleGoesOn D FireLinks m packed_form)
    (on : StandsOn packed_form) (quiet : QuietHolds packed_form) (begin : OpeningsBegin)
    (has_tables : LookHasTables) (look_finds : LookFinds) (within : BasesAreWithin)
    (databases : DatabasesAreLawful) (old : Core D) (waits : List (ℕ × ℕ)) (tx : TxNo)
    (over : NowWaits (edges_in old.waits) (edges_in waits) tx.0 None) (continues : Continues old tx.0) where
  abbrev t : ℕ
  t = tx.0

  abbrev e : Entry
  e = entry (Look tx) Fine

  lawful : (o : Opening) (h : Entries) → StandsFor m old o h → IsLawful o h (entry (Look tx) Fine)
  lawful o h stands = inl (sym (active_answer (state_of o h tx.0) Fine
      (sym ((memory_of m old o h stands).state tx.0) ∙ continues.1)))

  active_told : (o : Opening) (h : Entries) → StandsFor m old o h → state_of o h tx.0 ≡ Active
  active_told o h stands = sym ((memory_of m old o h stands).state tx.0) ∙ continues.1

  mode_told : (o : Opening) (h : Entries) → StandsFor m old o h
      → mode_kept (work_of old.works tx.0) ≡ mode_of h tx.0
  mode_told o h stands = ((memory_of m old o h stands).active tx.0 (active_told o h stands)).mode

  one_of : (o : Opening) (h : Entries) (stands : StandsFor m old o h)
      → RemembersOne o h (standing_of old stands.numbers stands.tables) tx.0
  one_of o h stands = (memory_of m old o h stands).active tx.0 (active_told o h stands)

  shows_of : (o : Opening) (h : Entries) (stands : StandsFor m old o h)
      → ShowsIt m old o h (standing_of old stands.numbers stands.tables)
  shows_of o h stands = subst (λ (off : Option ℕ). StandsWhile m old o h
      (standing_of old stands.numbers stands.tables) off) continues.0 stands.stands

  abbrev knows_of : (o : Opening) (h : Entries) (stands : StandsFor m old o h)
      (shows : ShowsIt m old o h (standing_of old stands.numbers stands.tables))
      → KnowsPages old.store.geometry.size o h (standing_of old stands.numbers stands.tables)
      (shown old.store.dirty shows.image)
  knows_of o h stands shows = record { memory = shows.stands.memory; shows = shows.stands.shows }

  -- a new base is the database, whose catalog is lawful
  bases_now : (o : Opening) (h : Entries) → StandsFor m old o h → BasesAreLawful o (entry (Look tx) Fine ∷ h)
  bases_now o h stands = bases_after o h (entry (Look tx) Fine) stands.bases (λ u is.
      databases old.store.geometry.size o h (standing_of old stands.numbers stands.tables)
      (shown old.store.dirty (shows_of o h stands).image) (knows_of o h stands (shows_of o h stands)))

  -- ---- one that keeps its base

  module _ (keeps : (mode_kept (work_of old.works tx.0)).snapshot ≡ true) where
    base_same : (o : Opening) (h : Entries) → StandsFor m old o h
        → base o (entry (Look tx) Fine ∷ h) tx.0 ≡ base o h tx.0
    base_same o h stands = at ((mode_of h tx.0).snapshot)
        (sym (ap (λ (x : Mode). x.snapshot) (mode_told o h stands)) ∙ keeps) (tx.0 == tx.0)
      where
        at : (b : Bool) → b ≡ true → (c : Bool)
            → (if c && not b then database o h else base o h tx.0) ≡ base o h tx.0
        at true is true = refl
        at true is false = refl
        at false is c = absurd (false≢true is)

    seen_same : (o : Opening) (h : Entries) → StandsFor m old o h → (name : List ℕ)
        → shape_seen o h tx.0 name ≡ shape_seen o (entry (Look tx) Fine ∷ h) tx.0 name
    seen_same o h stands name = ap (λ (cs : List Change). shape_named (row_at (own o h tx.0 ++ cs) catalog_name) name)
        (sym (base_same o h stands))

    keep_follows : (o : Opening) (h : Entries) (stands : StandsFor m old o h)
        → FollowsEntry o h (entry (Look tx) Fine) (standing_of old stands.numbers stands.tables)
        (standing_of (record old { waits = waits; works = old.works; live = old.live }) stands.numbers stands.tables)
    keep_follows o h stands = record {
      limit = refl;
      next = refl;
      state = λ u. refl;
      live = ap (λ (b : Bool). if b then old.live else after_rebase old.live tx.0) (sym keeps);
      waits = over;
      others = λ u not_ active. record {
        mode = refl;
        session = refl;
        undo = refl;
        number = refl;
        table = λ name. refl;
      };
      its = λ u is active. subst (RemembersOne o (entry (Look tx) Fine ∷ h)
          (standing_of (record old { waits = waits; works = old.works; live = old.live }) stands.numbers
          stands.tables)) (eqb-true tx.0 u is) (record {
            mode = (one_of o h stands).mode;
            session = (one_of o h stands).session;
            undo = (one_of o h stands).undo;
            table = λ name. subst (λ (shape : Option Shape). IsSeenAs name shape (stands.tables tx.0 name))
                (seen_same o h stands name) ((one_of o h stands).table name);
          });
      apart = λ u v is not_ active also same. apart_by o h stands u v is not_ active also same;
    }
      where
        apart_by : (o : Opening) (h : Entries) (stands : StandsFor m old o h) (u v : ℕ)
            → (tx.0 == u) ≡ true → (tx.0 == v) ≡ false → said old.list u ≡ Active → said old.list v ≡ Active
            → sessions_in old.works u ≡ sessions_in old.works v → ⊥
        apart_by o h stands u v is not_ active also same =
            let one : u ≡ v = (memory_of m old o h stands).apart u v
            (sym ((memory_of m old o h stands).state u) ∙ active)
            (sym ((memory_of m old o h stands).state v) ∙ also) same in
            false≢true (sym not_ ∙ (ap (λ (n : ℕ). tx.0 == n) (sym one) ∙ is))

    keep_stands : (o : Opening) (h : Entries) → StandsFor m old o h
        → StandsFor m (record old { waits = waits; works = old.works; live = old.live }) o
        (entry (Look tx) Fine ∷ h)
    keep_stands o h stands = memory_stands m places old waits old.works old.live idle_goes on quiet refl refl o h
        (entry (Look tx) Fine) stands stands.tables stands.given stands.kept (bases_now o h stands)
        (lawful o h stands) refl refl refl
        (keep_follows o h stands)
        (λ shows. idle_finds old.store.geometry.size o h (entry (Look tx) Fine)
        (standing_of old stands.numbers stands.tables)
        (standing_of (record old { waits = waits; works = old.works; live = old.live }) stands.numbers stands.tables)
        (shown old.store.dirty shows.image) refl (λ u. refl) (λ u. refl) (λ u name. refl))

    pub keep_gives : GivesEvent m places old (record old { waits = waits; works = old.works; live = old.live })
        (Look tx) Fine None (Some tx.0) (Some tx.0) None None
    keep_gives = record {
      adds = λ o h stands. (lawful o h stands, keep_stands o h stands);
      leaves = record {
        keeps = memory_keeps m places old waits old.works old.live None
            (record { cause = tt; offline = rw continues.0 tt; down = refl });
        tables_stay = tables_of m places old
            (record old { waits = waits; works = old.works; live = old.live }) (Some tx.0) (λ u name not_. refl);
        walks_stay = memory_walks m places old waits old.works old.live (entry (Look tx) Fine) (Some tx.0) refl
            (λ u by not_. refl) (λ u name not_. refl) keep_stands;
        commits = commits_of m places old
            (record old { waits = waits; works = old.works; live = old.live }) (Some tx.0) (λ u not_. refl)
            (λ u not_. refl) (λ u page not_ was none. none);
      };
      crash = memory_quiet m places old waits old.works old.live;
      sessions = sessions_of m places old (record old { waits = waits; works = old.works; live = old.live }) tx.0
          (works_same old.works tx.0);
    }

  -- ---- one that takes a new base

  module _ (renews : (mode_kept (work_of old.works tx.0)).snapshot ≡ false) where
    abbrev works : List Working
    works = with_work tx.0 without_tables old.works

    abbrev renewed : Core D
    renewed = record old {
      waits = waits;
      works = with_work tx.0 without_tables old.works;
      live = after_rebase old.live tx.0;
    }

    stay : WorksStay old.works (with_work tx.0 without_tables old.works) tx.0
    stay = works_with tx.0 without_tables (λ w. refl) (λ w. refl) old.works (λ w. refl)

    asks : asked_in (with_work tx.0 without_tables old.works) ≡ asked_in old.works
    asks = same_asked old.works (with_work tx.0 without_tables old.works) tx.0 stay
        (kept_with tx.0 without_tables (λ w. refl) (λ w. refl) old.works asked_kept (λ w. refl))

    session_same : sessions_in (with_work tx.0 without_tables old.works) ≡ sessions_in old.works
    session_same = same_sessions old.works (with_work tx.0 without_tables old.works) tx.0 stay

    tables_for : (o : Opening) (h : Entries) (stands : StandsFor m old o h)
        (shows : ShowsIt m old o h (standing_of old stands.numbers stands.tables))
        → TablesFor o (entry (Look tx) Fine ∷ h) shows.stands.shows.layout tx.0
    tables_for o h stands shows = has_tables old.store.geometry.size o h (entry (Look tx) Fine) tx.0
        (standing_of old stands.numbers stands.tables) (shown old.store.dirty shows.image)
        (knows_of o h stands shows) (begin o shows.stands.opening) (lawful o h stands, shows.stands.legal) refl
        (sym (ap (λ (x : Mode). x.snapshot) (mode_told o h stands)) ∙ renews)

    abbrev tables_now : Tables → (List ℕ → Option Table) → Tables
    tables_now tables its u name = if tx.0 == u then its name else tables u name

    its_now : (tables : Tables) (its : List ℕ → Option Table) (name : List ℕ)
        → (if tx.0 == tx.0 then its name else tables tx.0 name) ≡ its name
    its_now tables its name = rw (eq-eqb tx.0 tx.0 refl) refl

    others_now : (tables : Tables) (its : List ℕ → Option Table) (u : ℕ) (name : List ℕ)
        → (tx.0 == u) ≡ false → (if tx.0 == u then its name else tables u name) ≡ tables u name
    others_now tables its u name not_ = rw not_ refl

    undo_same : undo_kept (work_of (with_work tx.0 without_tables old.works) tx.0)
        ≡ undo_kept (work_of old.works tx.0)
    undo_same = kept_with tx.0 without_tables (λ w. refl) (λ w. refl) old.works undo_kept (λ w. refl)

    -- no table is known to it
    none_given : (name : List ℕ) → given_to (with_work tx.0 without_tables old.works) tx.0 name ≡ None
    none_given name = at (work_of (with_work tx.0 without_tables old.works) tx.0) refl
      where
        at : (found : Option Working) → work_of (with_work tx.0 without_tables old.works) tx.0 ≡ found
            → given_to (with_work tx.0 without_tables old.works) tx.0 name ≡ None
        at None is = ap (λ (w : Option Working). given_by w name) is
        at (Some w) is = none_of (work_of old.works tx.0) refl
          where
            none_of : (was : Option Working) → work_of old.works tx.0 ≡ was
                → given_to (with_work tx.0 without_tables old.works) tx.0 name ≡ None
            none_of None is_ = ap (λ (w : Option Working). given_by w name)
                (with_none tx.0 without_tables (λ w. refl) (λ w. refl) old.works tx.0 is_)
            none_of (Some v) is_ = ap (λ (w : Option Working). given_by w name)
                (with_its tx.0 without_tables (λ w. refl) (λ w. refl) old.works v is_)

    module _ (o : Opening) (h : Entries) (stands : StandsFor m old o h)
        (shows : ShowsIt m old o h (standing_of old stands.numbers stands.tables)) where
      abbrev its : List ℕ → Option Table
      its = (tables_for o h stands shows).table

      seen_now : AreSeen (with_work tx.0 without_tables old.works)
          (tables_now stands.tables (tables_for o h stands shows).table)
      seen_now u name table given = at (cases_eq u tx.0)
        where
          at : (u ≡ tx.0) ⊎ (u ≢ tx.0)
              → tables_now stands.tables (tables_for o h stands shows).table u name ≡ Some table
          at (inl same) = let none : None ≡ Some table = sym (none_given name)
              ∙ (ap (λ (n : ℕ). given_to (with_work tx.0 without_tables old.works) n name) (sym same) ∙ given) in
              absurd cc
          at (inr ne) = others_now stands.tables (tables_for o h stands shows).table u name
              (ne_eqb tx.0 u (λ same. ne (sym same)))
              ∙ stands.given u name table (sym (others_given old.works (with_work tx.0 without_tables old.works)
              tx.0 stay u name ne) ∙ given)

      -- what is kept for taking back is seen still: rows of the catalog that were seen are committed
      kept_now : KeepsWritten old.catalog.pointer.0 (with_work tx.0 without_tables old.works)
          (tables_now stands.tables (tables_for o h stands shows).table)
      kept_now = kept_each old.catalog.pointer.0 old.works (with_work tx.0 without_tables old.works) stands.tables
          (tables_now stands.tables (tables_for o h stands shows).table) stands.kept (λ u. inr (made_kept tx.0
          without_tables (λ w. refl) (λ w. refl) (λ w. refl) (λ w. refl) old.works u (stands.tables u)
          (tables_now stands.tables (tables_for o h stands shows).table u) (alike u)))
        where
          its_seen : (table : Table) → SeesIt (stands.tables tx.0 table.name) table
              → SeesIt ((tables_for o h stands shows).table table.name) table
          its_seen table was =
              let (y, there) = sees_still within o h tx (begin o shows.stands.opening) shows.stands.legal
              stands.grows (sym (ap (λ (b : Mode). b.snapshot) (mode_told o h stands)) ∙ renews) table.name table
              (subst (IsSeenAs table.name (shape_seen o h tx.0 table.name)) was
              ((one_of o h stands).table table.name)) ((tables_for o h stands shows).table table.name)
              ((tables_for o h stands shows).seen_as table.name) in
              there.0 ∙ ap Some (one_there old.store.geometry.size (left_state everyone (said old.list))
              (shown old.store.dirty shows.image) shows.stands.shows.layout shows.stands.shows.reading
              shows.stands.shows.sound y table ((tables_for o h stands shows).stands table.name y there.0)
              ((shows.stands.shows.tables tx.0 continues.1).seen table.name table was) there.1)

          alike : (u : ℕ) (table : Table) → SeesIt (stands.tables u table.name) table
              → SeesIt (tables_now stands.tables (tables_for o h stands shows).table u table.name) table
          alike u table was = at (tx.0 == u) refl
            where
              at : (b : Bool) → (tx.0 == u) ≡ b → SeesIt
                  (if b then (tables_for o h stands shows).table table.name else stands.tables u table.name) table
              at false not_ = was
              at true is = its_seen table (subst (λ (n : ℕ). SeesIt (stands.tables n table.name) table)
                  (sym (eqb-true tx.0 u is)) was)

      renew_follows : FollowsEntry o h (entry (Look tx) Fine) (standing_of old stands.numbers stands.tables)
          (standing_of (record old {
            waits = waits;
            works = with_work tx.0 without_tables old.works;
            live = after_rebase old.live tx.0;
          }) stands.numbers (tables_now stands.tables (tables_for o h stands shows).table))
      renew_follows = record {
        limit = refl;
        next = refl;
        state = λ u. refl;
        live = ap (λ (b : Bool). if b then old.live else after_rebase old.live tx.0) (sym renews);
        waits = over;
        others = λ u not_ active.
            let ne : u ≢ tx.0 = apart_from u tx.0 not_ in record {
              mode = ap mode_kept (stay.others u ne);
              session = ap session_kept (stay.others u ne);
              undo = ap undo_kept (stay.others u ne);
              number = refl;
              table = λ name. others_now stands.tables (tables_for o h stands shows).table u name not_;
            };
        its = λ u is active. subst (RemembersOne o (entry (Look tx) Fine ∷ h)
            (standing_of (record old {
              waits = waits;
              works = with_work tx.0 without_tables old.works;
              live = after_rebase old.live tx.0;
            }) stands.numbers (tables_now stands.tables (tables_for o h stands shows).table)))
            (eqb-true tx.0 u is) (record {
              mode = stay.mode ∙ (one_of o h stands).mode;
              session = subst (λ (n : ℕ). n < 32) (sym stay.session) (one_of o h stands).session;
              undo = undo_same ∙ (one_of o h stands).undo;
              table = λ name. subst (IsSeenAs name (shape_seen o (entry (Look tx) Fine ∷ h) tx.0 name))
                  (sym (its_now stands.tables (tables_for o h stands shows).table name))
                  ((tables_for o h stands shows).seen_as name);
            });
        apart = λ u v is not_ active also same.
            let one : u ≡ v = (memory_of m old o h stands).apart u v
            (sym ((memory_of m old o h stands).state u) ∙ active)
            (sym ((memory_of m old o h stands).state v) ∙ also)
            (sym (ap (λ (s : Sessions). s u) session_same) ∙ (same ∙ ap (λ (s : Sessions). s v) session_same)) in
            false≢true (sym not_ ∙ (ap (λ (n : ℕ). tx.0 == n) (sym one) ∙ is));
      }

      renew_stands : StandsFor m (record old {
        waits = waits;
        works = with_work tx.0 without_tables old.works;
        live = after_rebase old.live tx.0;
      }) o (entry (Look tx) Fine ∷ h)
      renew_stands = memory_stands m places old waits (with_work tx.0 without_tables old.works)
          (after_rebase old.live tx.0) idle_goes on quiet asks session_same o h (entry (Look tx) Fine) stands
          (tables_now stands.tables (tables_for o h stands shows).table) seen_now kept_now
          (bases_now o h stands) (lawful o h stands) refl refl refl renew_follows (λ again. finds again)
        where
          finds : (again : ShowsIt m old o h (standing_of old stands.numbers stands.tables))
              → FindsAfter packed_form old.store.geometry.size o h (entry (Look tx) Fine)
              (standing_of old stands.numbers stands.tables) (standing_of (record old {
                waits = waits;
                works = with_work tx.0 without_tables old.works;
                live = after_rebase old.live tx.0;
              }) stands.numbers (tables_now stands.tables (tables_for o h stands shows).table))
              (shown old.store.dirty again.image)
          finds again =
              let both : Some shows.image ≡ Some again.image = sym shows.held ∙ again.held in
              let same : shows.image ≡ again.image = cc in
              subst (λ (i : Image). FindsAfter packed_form old.store.geometry.size o h (entry (Look tx) Fine)
              (standing_of old stands.numbers stands.tables) (standing_of (record old {
                waits = waits;
                works = with_work tx.0 without_tables old.works;
                live = after_rebase old.live tx.0;
              }) stands.numbers (tables_now stands.tables (tables_for o h stands shows).table))
              (shown old.store.dirty i)) same
              (look_finds old.store.geometry.size o h (entry (Look tx) Fine) tx.0
              (standing_of old stands.numbers stands.tables) (standing_of (record old {
                waits = waits;
                works = with_work tx.0 without_tables old.works;
                live = after_rebase old.live tx.0;
              }) stands.numbers (tables_now stands.tables (tables_for o h stands shows).table))
              (shown old.store.dirty shows.image) (knows_of o h stands shows) refl renew_follows
              (tables_for o h stands shows)
              (λ name. its_now stands.tables (tables_for o h stands shows).table name) refl)

    renew_all : (o : Opening) (h : Entries) → StandsFor m old o h → StandsFor m (record old {
      waits = waits;
      works = with_work tx.0 without_tables old.works;
      live = after_rebase old.live tx.0;
    }) o (entry (Look tx) Fine ∷ h)
    renew_all o h stands = renew_stands o h stands (shows_of o h stands)

    pub renew_gives : GivesEvent m places old (record old {
      waits = waits;
      works = with_work tx.0 without_tables old.works;
      live = after_rebase old.live tx.0;
    }) (Look tx) Fine None (Some tx.0) (Some tx.0) None None
    renew_gives = record {
      adds = λ o h stands. (lawful o h stands, renew_all o h stands);
      leaves = record {
        keeps = memory_keeps m places old waits (with_work tx.0 without_tables old.works)
            (after_rebase old.live tx.0) None (record { cause = tt; offline = rw continues.0 tt; down = refl });
        tables_stay = tables_of m places old (record old {
          waits = waits;
          works = with_work tx.0 without_tables old.works;
          live = after_rebase old.live tx.0;
        }) (Some tx.0) (λ u name not_. others_given old.works (with_work tx.0 without_tables old.works) tx.0 stay u
            name (apart_from u tx.0 not_));
        walks_stay = memory_walks m places old waits (with_work tx.0 without_tables old.works)
            (after_rebase old.live tx.0) (entry (Look tx) Fine) (Some tx.0) refl
            (λ u by not_. others_change_nothing.rebase old.live tx.0 u by (λ same. apart_from u tx.0 not_ (sym same)))
            (λ u name not_. others_given old.works (with_work tx.0 without_tables old.works) tx.0 stay u
            name (apart_from u tx.0 not_)) renew_all;
        commits = commits_of m places old (record old {
          waits = waits;
          works = with_work tx.0 without_tables old.works;
          live = after_rebase old.live tx.0;
        }) (Some tx.0) (λ u not_. ap (λ (a : Asked). a u) asks)
            (λ u not_. ap (λ (s : Sessions). s u) session_same) (λ u page not_ was none. none);
      };
      crash = memory_quiet m places old waits (with_work tx.0 without_tables old.works)
          (after_rebase old.live tx.0);
      sessions = sessions_of m places old (record old {
        waits = waits;
        works = with_work tx.0 without_tables old.works;
        live = after_rebase old.live tx.0;
      }) tx.0 stay;
    }

-- ---- the call

pub looks_give : {D P : Type 0} (m : Meaning D) (places : Places P) → IdleGoesOn D FireLinks m packed_form
    → StandsOn packed_form → QuietHolds packed_form → OpeningsBegin → LookHasTables → LookFinds → BasesAreWithin
    → DatabasesAreLawful → (old new : Core D) (t : TxNo) (result : Result (Unit {0}) Refusal)
    → MatchResult result (λ _. CoreLooks old new t.0) (IsRefused old new t.0)
    → GivesEvent m places old new (Look t) (fine_or result) (refusal_in result) (Some t.0) (Some t.0) None None
looks_give m places idle_goes on quiet begin has_tables look_finds within databases old new t (Err refusal) refused =
    refused_gives m places idle_goes on quiet old new t.0 (Look t) (λ o h. Fine) refusal (Some t.0) (Some t.0) refl
    (λ o h. refl) refused
looks_give {D} m places idle_goes on quiet begin has_tables look_finds within databases old new t (Ok x) looks =
    at (keeps_base old.works t.0) refl
  where
    new_is : new ≡ with_base_if (keeps_base old.works t.0) t.0
        (record old { waits = looks.ended.waits; works = old.works; live = old.live })
    new_is = looks.base ∙ ap (λ (c : Core D). with_base_if (keeps_base c.works t.0) t.0 c) looks.wait.same

    at : (b : Bool) → keeps_base old.works t.0 ≡ b
        → GivesEvent m places old new (Look t) Fine None (Some t.0) (Some t.0) None None
    at true is = subst (λ (c : Core D). GivesEvent m places old c (Look t) Fine None (Some t.0) (Some t.0) None None)
        (sym (new_is ∙ ap (λ (b : Bool). with_base_if b t.0
        (record old { waits = looks.ended.waits; works = old.works; live = old.live })) is))
        (keep_gives m places idle_goes on quiet begin has_tables look_finds within databases old looks.ended.waits t
        looks.wait.over looks.continues (sym (keeps_is (work_of old.works t.0)) ∙ is))
    at false is = subst (λ (c : Core D). GivesEvent m places old c (Look t) Fine None (Some t.0) (Some t.0) None None)
        (sym (new_is ∙ ap (λ (b : Bool). with_base_if b t.0
        (record old { waits = looks.ended.waits; works = old.works; live = old.live })) is))
        (renew_gives m places idle_goes on quiet begin has_tables look_finds within databases old looks.ended.waits t
        looks.wait.over looks.continues (sym (keeps_is (work_of old.works t.0)) ∙ is))
