-- A table that was found is kept: it is given from then on, and the engine stands for what it stood for.
use Rattle.std.proofs.Common.{◌≡◌, ◌≢◌, ◌⊎◌, inl, inr, ◌==◌, cond, ℕ, Bool, true, false, List, Option, None, Some, refl, sym, ap, ◌∙◌, subst}
use Rattle.std.specs.Prelude.{is_some, map}
use Rattle.std.specs.Cmp.Lexicographic.{same_text}
use Rattle.std.proofs.Math.Path.{fun_ext}
use Rattle.std.proofs.lemmas.Bool.{cases_eq, eq-eqb, eqb-true, false≢true}
use Rattle.mg_base.specs.Disk.{Meaning}
use Rattle.mg_base.specs.declared.numbers.TxNo.{TxNo}
use Rattle.mg_base.specs.declared.transaction.TxState.TheVariants.{Active}
use Rattle.mg_model.specs.declared.event.Mode.{Mode}
use Rattle.mg_model.specs.declared.opening.Opening.{Opening}
use Rattle.mg_model.specs.declared.table.Table.{Table}
use Rattle.mg_model.specs.Changes.{KeyedRows, same_name}
use Rattle.mg_model.specs.History.{Entries}
use Rattle.mg_model.specs.Laws.{OpeningsBegin}
use Rattle.mg_model.specs.Machine.{state_of}
use Rattle.mg_model.specs.ReadLaws.{same_name_itself}
use Rattle.mg_records.specs.Keeping.{CommitsStay, TablesStay, WalksStay}
use Rattle.mg_records.specs.Reading.{shape_seen}
use Rattle.mg_image.specs.Catalog.{catalog_table}
use Rattle.mg_image.specs.Form.{Pages, packed_form}
use Rattle.mg_image.specs.Inventory.{header_of}
use Rattle.mg_lasting_laws.specs.Lasting.{LastsOn}
use Rattle.mg_pool.specs.Pool.{shown}
use Rattle.mg_pool_overlay_laws.specs.Needs.{Asked, Sessions}
use Rattle.mg_seek.specs.TableRows.{IsTableSeen}
use Rattle.mg_engine_step_laws.specs.standing.Standing.{FindsTables, IsSeenAs, Remembers, RemembersOne, ShowsHistory, Standing, Stands}
use Rattle.mg_model.specs.Openings.{everyone}
use Rattle.mg_overlay_laws.specs.Overlays.{left_state}
use Rattle.mg_txlist.specs.TxList.{said}
use Rattle.mg_undo.specs.Undo.{State as Undo}
use Rattle.mg_works.specs.Works.{Working, given_by, given_to, with_table, with_work, work_of}
use Rattle.mg_works.specs.WorksLaws.{with_its}
use Rattle.mg_core.specs.declared.parts.Core.{Core}
use Rattle.mg_core.specs.Cores.{Continues, IsCatalog, IsCore}
use Rattle.mg_core.specs.Tables.{SeesTable}
use Rattle.mg_engine_step_laws.specs.standing.Known.{KnowsPages}
use Rattle.mg_engine_step_laws.specs.reads.Tables.{TablesAreTold}
use Rattle.mg_engine_step_laws.specs.reads.Walking.{WalkPlace}
use Rattle.mg_image_overlay_laws.specs.tables.TableOwners.{IsOneOf}
use Rattle.mg_engine_meaning_laws.specs.KeptLaws.{kept_each, made_kept, one_there}
use Rattle.mg_engine_meaning_laws.specs.FrameLaws.{commits_of, kept_all, kept_with, others_given, same_sessions, works_with}
use Rattle.mg_engine_meaning_laws.specs.Frames.{WorksStay}
use Rattle.mg_engine_meaning_laws.specs.Meaning.{AreNext, Places, means, place_at}
use Rattle.mg_engine_meaning_laws.specs.Standings.{AreSeen, KeepsWritten, Numbers, SeesIt, ShowsIt, StandsFor, StandsWhile, Tables, asked_in, asked_kept, mode_kept, sessions_in, standing_of, undo_kept}
use Rattle.mg_engine_meaning_laws.specs.StepLaws.{as_standing, shows_of}
use Rattle.mg_engine_step_laws.specs.tables.Found.{FoundTablesStand}

-- ---- the catalog

-- the table of the catalog is the one that begins where it begins
pub catalog_same : (table : Table) (page : ℕ) → IsCatalog table → table.pointer.0 ≡ page
    → table ≡ catalog_table page
catalog_same table page is same = λ i. record {
  name = is.named i;
  shape = is.shape i;
  pointer = record { 0 = same i };
  indexes = is.none i;
}

-- so it is that of the layout
pub catalog_shown : {D : Type 0} (m : Meaning D) (core : Core D) (o : Opening) (h : Entries) (s : Standing)
    (is : IsCore m core) (shows : ShowsIt m core o h s)
    → core.catalog ≡ shows.stands.shows.layout.catalog.table
catalog_shown m core o h s is shows = catalog_same core.catalog
    (header_of (shown core.store.dirty shows.image)).catalog.0 is.catalog shows.catalog
    ∙ sym shows.stands.shows.sound.catalog

-- ---- works

-- one that is active has its work
has_work : (works : List Working) (t : ℕ) → is_some (work_of works t) ≡ true
    → (w : Working) × (work_of works t ≡ Some w)
has_work works t is = at (work_of works t) refl
  where
    at : (x : Option Working) → work_of works t ≡ x → (w : Working) × (work_of works t ≡ Some w)
    at None none = absurd (false≢true (sym (ap is_some none) ∙ is))
    at (Some w) some = (w, some)

module _ {D P : Type 0} (m : Meaning D) (places : Places P) (begin : OpeningsBegin)
    (tables_told : TablesAreTold) (found_stand : FoundTablesStand) (old : Core D) (t : TxNo) (name : List ℕ)
    (table : Table) (core : IsCore m old) (continues : Continues old t.0)
    (fresh : given_to old.works t.0 name ≡ None) (named : table.name ≡ name)
    (sees : SeesTable m old t name (Some table)) where
  its_work : (w : Working) × (work_of old.works t.0 ≡ Some w)
  its_work = has_work old.works t.0 (core.active.has_work t.0 continues.1)

  pub stay : WorksStay old.works (with_work t.0 (with_table table) old.works) t.0
  stay = works_with t.0 (with_table table) (λ w. refl) (λ w. refl) old.works (λ w. refl)

  same_each : {A : Type 0} (f : Option Working → A)
      → ((w : Working) → f (Some (with_table table w)) ≡ f (Some w)) → (u : ℕ)
      → f (work_of (with_work t.0 (with_table table) old.works) u) ≡ f (work_of old.works u)
  same_each f same = kept_all old.works (with_work t.0 (with_table table) old.works) t.0 stay f
      (kept_with t.0 (with_table table) (λ w. refl) (λ w. refl) old.works f same)

  asked_same : asked_in (with_work t.0 (with_table table) old.works) ≡ asked_in old.works
  asked_same = fun_ext (same_each asked_kept (λ w. refl))

  sessions_same : sessions_in (with_work t.0 (with_table table) old.works) ≡ sessions_in old.works
  sessions_same = same_sessions old.works (with_work t.0 (with_table table) old.works) t.0 stay

  modes_same : ◌≡◌ {A = ℕ → Mode}
      (λ u. mode_kept (work_of (with_work t.0 (with_table table) old.works) u))
      (λ u. mode_kept (work_of old.works u))
  modes_same = fun_ext (same_each mode_kept (λ w. refl))

  undos_same : ◌≡◌ {A = ℕ → Undo}
      (λ u. undo_kept (work_of (with_work t.0 (with_table table) old.works) u))
      (λ u. undo_kept (work_of old.works u))
  undos_same = fun_ext (same_each undo_kept (λ w. refl))

  standing_same : (numbers : Numbers) (tables : Tables) → standing_of old numbers tables
      ≡ standing_of (record old { works = with_work t.0 (with_table table) old.works }) numbers tables
  standing_same numbers tables = ap (λ (mode : ℕ → Mode). record (standing_of old numbers tables) { mode = mode })
      (sym modes_same)
      ∙ (ap (λ (sessions : Sessions). record (standing_of old numbers tables) {
        mode = λ u. mode_kept (work_of (with_work t.0 (with_table table) old.works) u);
        session = sessions;
      }) (sym sessions_same)
      ∙ ap (λ (undo : ℕ → Undo). record (standing_of old numbers tables) {
        mode = λ u. mode_kept (work_of (with_work t.0 (with_table table) old.works) u);
        session = sessions_in (with_work t.0 (with_table table) old.works);
        undo = undo;
      }) (sym undos_same))

  -- ---- what is given

  its_given : (n : List ℕ) → given_to (with_work t.0 (with_table table) old.works) t.0 n
      ≡ cond (same_name n table.name) (Some table) (given_to old.works t.0 n)
  its_given n = ap (λ (x : Option Working). given_by x n) (with_its t.0 (with_table table) (λ w. refl) (λ w. refl)
      old.works its_work.0 its_work.1)
      ∙ ap (λ (x : Option Working). cond (same_name n table.name) (Some table) (given_by x n)) (sym its_work.1)

  pub given_now : given_to (with_work t.0 (with_table table) old.works) t.0 name ≡ Some table
  given_now = ap (λ (n : List ℕ). given_to (with_work t.0 (with_table table) old.works) t.0 n) (sym named)
      ∙ (its_given table.name ∙ rw (same_name_itself table.name) refl)

  -- what was given is given still: under the name nothing was
  pub tables_stay : TablesStay (means m places) old
      (record old { works = with_work t.0 (with_table table) old.works }) None
  tables_stay u n given not_ was = at (cases_eq u t.0)
    where
      here : given_to old.works t.0 n ≡ Some given
          → given_to (with_work t.0 (with_table table) old.works) t.0 n ≡ Some given
      here was_ = its_given n ∙ by (same_name n table.name) refl
        where
          by : (b : Bool) → same_name n table.name ≡ b
              → cond b (Some table) (given_to old.works t.0 n) ≡ Some given
          by false other = was_
          by true same =
              let both : None ≡ Some given = sym fresh
              ∙ (ap (given_to old.works t.0) (sym (same_text n table.name (sym same) ∙ named)) ∙ was_) in absurd cc

      at : (u ≡ t.0) ⊎ (u ≢ t.0)
          → given_to (with_work t.0 (with_table table) old.works) u n ≡ Some given
      at (inl is) = ap (λ (v : ℕ). given_to (with_work t.0 (with_table table) old.works) v n) is
          ∙ here (ap (λ (v : ℕ). given_to old.works v n) (sym is) ∙ was)
      at (inr ne) = others_given old.works (with_work t.0 (with_table table) old.works) t.0 stay u n ne ∙ was

  -- ---- the tables that are seen: this one under its name, and the others as they were

  abbrev tables_with : Tables → Tables
  tables_with tables u n = cond (u == t.0) (cond (same_name n table.name) (Some table) (tables u n)) (tables u n)

  given_seen : (tables : Tables) → AreSeen old.works tables
      → AreSeen (with_work t.0 (with_table table) old.works) (tables_with tables)
  given_seen tables seen u n given is = at (u == t.0) refl
    where
      here : u ≡ t.0 → cond (same_name n table.name) (Some table) (tables u n) ≡ Some given
      here same = by (same_name n table.name) (sym (its_given n)
          ∙ (ap (λ (v : ℕ). given_to (with_work t.0 (with_table table) old.works) v n) (sym same) ∙ is))
        where
          by : (b : Bool) → cond b (Some table) (given_to old.works t.0 n) ≡ Some given
              → cond b (Some table) (tables u n) ≡ Some given
          by true some = some
          by false later = seen u n given (ap (λ (v : ℕ). given_to old.works v n) same ∙ later)

      at : (b : Bool) → (u == t.0) ≡ b
          → cond b (cond (same_name n table.name) (Some table) (tables u n)) (tables u n) ≡ Some given
      at true own_ = here (eqb-true u t.0 own_)
      at false other = seen u n given (sym (others_given old.works (with_work t.0 (with_table table) old.works)
          t.0 stay u n (λ same. false≢true (sym other ∙ eq-eqb u t.0 same))) ∙ is)

  -- ---- the pages are known

  module _ (o : Opening) (h : Entries) (stands : StandsFor m old o h)
      (shows : ShowsIt m old o h (standing_of old stands.numbers stands.tables)) where
    abbrev pages : Pages
    pages = shown old.store.dirty shows.image

    abbrev s : Standing
    s = standing_of old stands.numbers stands.tables

    abbrev s_with : Standing
    s_with = standing_of old stands.numbers (tables_with stands.tables)

    abbrev knows : KnowsPages old.store.geometry.size o h s pages
    knows = record { memory = shows.stands.memory; shows = shows.stands.shows }

    active : state_of o h t.0 ≡ Active
    active = sym (shows.stands.memory.state t.0) ∙ continues.1

    seen_there : IsTableSeen s.state s.live t pages shows.stands.shows.layout.catalog.table name (Some table)
    seen_there = subst (λ (c : Table). IsTableSeen (said old.list) old.live t pages c name (Some table))
        (catalog_shown m old o h s core shows) (sees shows.image (record { told = stands.tells; held = shows.held }))

    told_now : IsSeenAs name (shape_seen o h t.0 name) (Some table)
    told_now = tables_told old.store.geometry.size o h s pages knows t name (Some table)
        (begin o shows.stands.opening) shows.stands.legal active seen_there

    stays_there : IsOneOf (map (λ stand. stand.table) shows.stands.shows.layout.tables) table
    stays_there = found_stand old.store.geometry.size o h s pages knows t name table (begin o shows.stands.opening)
        shows.stands.legal stands.grows active (stands.bases t.0) seen_there

    remembers_one : (u : ℕ) → state_of o h u ≡ Active → RemembersOne o h s u → RemembersOne o h s_with u
    remembers_one u is was = record {
      mode = was.mode;
      session = was.session;
      undo = was.undo;
      table = λ n. at n (u == t.0) refl;
    }
      where
        at : (n : List ℕ) (b : Bool) → (u == t.0) ≡ b → IsSeenAs n (shape_seen o h u n)
            (cond b (cond (same_name n table.name) (Some table) (stands.tables u n)) (stands.tables u n))
        at n false other = was.table n
        at n true own_ = by (same_name n table.name) refl
          where
            by : (b : Bool) → same_name n table.name ≡ b
                → IsSeenAs n (shape_seen o h u n) (cond b (Some table) (stands.tables u n))
            by false other = was.table n
            by true same = subst (λ (v : ℕ). IsSeenAs n (shape_seen o h v n) (Some table))
                (sym (eqb-true u t.0 own_)) (subst (λ (k : List ℕ). IsSeenAs k (shape_seen o h t.0 k) (Some table))
                (sym (same_text n table.name (sym same) ∙ named)) told_now)

    remembers : Remembers o h s_with
    remembers = record {
      limit = shows.stands.memory.limit;
      next = shows.stands.memory.next;
      state = shows.stands.memory.state;
      live = shows.stands.memory.live;
      based = shows.stands.memory.based;
      waits = shows.stands.memory.waits;
      active = λ u is. remembers_one u is (shows.stands.memory.active u is);
      apart = shows.stands.memory.apart;
    }

    finds_one : (u : ℕ) → FindsTables o h s shows.stands.shows.layout u
        → FindsTables o h s_with shows.stands.shows.layout u
    finds_one u was = record { seen = λ n given is. at n given (u == t.0) refl is; changed = was.changed }
      where
        at : (n : List ℕ) (given : Table) (b : Bool) → (u == t.0) ≡ b
            → cond b (cond (same_name n table.name) (Some table) (stands.tables u n)) (stands.tables u n)
            ≡ Some given
            → IsOneOf (map (λ stand. stand.table) shows.stands.shows.layout.tables) given
        at n given false other is = was.seen n given is
        at n given true own_ is = by (same_name n table.name) is
          where
            by : (b : Bool) → cond b (Some table) (stands.tables u n) ≡ Some given
                → IsOneOf (map (λ stand. stand.table) shows.stands.shows.layout.tables) given
            by false later = was.seen n given later
            by true some = let same : table ≡ given = cc in
                subst (IsOneOf (map (λ stand. stand.table) shows.stands.shows.layout.tables)) same stays_there

    shows_with : ShowsHistory packed_form old.store.geometry.size o h s_with pages
    shows_with = record {
      layout = shows.stands.shows.layout;
      reading = shows.stands.shows.reading;
      sound = shows.stands.shows.sound;
      next = shows.stands.shows.next;
      versions = shows.stands.shows.versions;
      tables = λ u is. finds_one u (shows.stands.shows.tables u is);
      found = shows.stands.shows.found;
      bare = shows.stands.shows.bare;
    }

    stands_with : Stands packed_form old.store.geometry.size o h s_with (Some pages)
    stands_with = record {
      opening = shows.stands.opening;
      legal = shows.stands.legal;
      memory = remembers;
      shows = shows_with;
    }

    -- what is kept for taking back is seen as it was: under the name the same table was seen
    kept_with_table : KeepsWritten old.catalog.pointer.0 (with_work t.0 (with_table table) old.works)
        (tables_with stands.tables)
    kept_with_table = kept_each old.catalog.pointer.0 old.works (with_work t.0 (with_table table) old.works)
        stands.tables (tables_with stands.tables) stands.kept (λ u. inr (made_kept t.0 (with_table table) (λ w. refl)
        (λ w. refl) (λ w. refl) (λ w. refl) old.works u (stands.tables u) (tables_with stands.tables u) (alike u)))
      where
        alike : (u : ℕ) (kept : Table) → SeesIt (stands.tables u kept.name) kept
            → SeesIt (tables_with stands.tables u kept.name) kept
        alike u kept was = at (u == t.0) refl
          where
            one : u ≡ t.0 → kept.name ≡ table.name → table ≡ kept
            one its name = one_there old.store.geometry.size (left_state everyone (said old.list)) pages
                shows.stands.shows.layout shows.stands.shows.reading shows.stands.shows.sound table kept stays_there
                ((shows.stands.shows.tables t.0 continues.1).seen kept.name kept
                (ap (λ (v : ℕ). stands.tables v kept.name) (sym its) ∙ was)) (sym name)

            at : (b : Bool) → (u == t.0) ≡ b → SeesIt
                (cond b (cond (same_name kept.name table.name) (Some table) (stands.tables u kept.name))
                (stands.tables u kept.name)) kept
            at false other = was
            at true own_ = by (same_name kept.name table.name) refl
              where
                by : (b : Bool) → same_name kept.name table.name ≡ b
                    → SeesIt (cond b (Some table) (stands.tables u kept.name)) kept
                by false other = was
                by true same = ap Some (one (eqb-true u t.0 own_) (same_text kept.name table.name (sym same)))

    pub keep_shows : ShowsIt m (record old { works = with_work t.0 (with_table table) old.works }) o h
        (standing_of (record old { works = with_work t.0 (with_table table) old.works }) stands.numbers
        (tables_with stands.tables))
    keep_shows = record {
      image = shows.image;
      held = shows.held;
      stands = subst (λ (x : Standing). Stands packed_form old.store.geometry.size o h x (Some pages))
          (standing_same stands.numbers (tables_with stands.tables)) stands_with;
      lasts = subst (λ (a : Asked). LastsOn m packed_form o h old.store a
          (sessions_in (with_work t.0 (with_table table) old.works))) (sym asked_same)
          (subst (λ (x : Sessions). LastsOn m packed_form o h old.store (asked_in old.works) x)
          (sym sessions_same) shows.lasts);
      tips = shows.tips;
      catalog = shows.catalog;
      plain_tables = shows.plain_tables;
      no_directory = shows.no_directory;
      known = shows.known;
    }

  pub keep_stands : (o : Opening) (h : Entries) → StandsFor m old o h
      → StandsFor m (record old { works = with_work t.0 (with_table table) old.works }) o h
  keep_stands o h stands = record {
    tells = stands.tells;
    grows = stands.grows;
    bases = stands.bases;
    numbers = stands.numbers;
    tables = tables_with stands.tables;
    given = given_seen stands.tables stands.given;
    kept = kept_with_table o h stands (shows_of m old o h stands continues.0);
    stands = subst (λ (off : Option ℕ). StandsWhile m
        (record old { works = with_work t.0 (with_table table) old.works }) o h
        (standing_of (record old { works = with_work t.0 (with_table table) old.works }) stands.numbers
        (tables_with stands.tables)) off) (sym continues.0)
        (keep_shows o h stands (shows_of m old o h stands continues.0));
  }

  -- ---- walks and commits

  next_on : (s s_now : Standing) (u : ℕ) (given : Table) (after : Option WalkPlace) (rows : KeyedRows)
      (off : Option ℕ) → s.state ≡ s_now.state → s.live ≡ s_now.live → AreNext m old s u given after rows off
      → AreNext m (record old { works = with_work t.0 (with_table table) old.works }) s_now u given after rows off
  next_on s s_now u given after rows None state bases (i, held, next) = (
    i,
    held,
    as_standing old.store.geometry.size s s_now (shown old.store.dirty i) u given after rows state bases next,
  )
  next_on s s_now u given after rows (Some faults) state bases next = tt

  pub keep_walks : (who : Option ℕ) → WalksStay (means m places) old
      (record old { works = with_work t.0 (with_table table) old.works }) who
  keep_walks who u given after rows not_ comes =
      let stands_now : StandsFor m (record old { works = with_work t.0 (with_table table) old.works })
      comes.opening comes.entries = keep_stands comes.opening comes.entries comes.stands in record {
        opening = comes.opening;
        entries = comes.entries;
        stands = stands_now;
        active = comes.active;
        seen = tables_stay u given.name given refl comes.seen;
        next = next_on (standing_of old comes.stands.numbers comes.stands.tables)
            (standing_of (record old { works = with_work t.0 (with_table table) old.works })
            stands_now.numbers stands_now.tables) u given (place_at places after) rows old.store.offline refl refl
            comes.next;
      }

  pub keep_commits : (who : Option ℕ) → CommitsStay (means m places) old
      (record old { works = with_work t.0 (with_table table) old.works }) who
  keep_commits who = commits_of m places old (record old { works = with_work t.0 (with_table table) old.works }) who
      (λ u not_. ap (λ (a : Asked). a u) asked_same) (λ u not_. ap (λ (x : Sessions). x u) sessions_same)
      (λ u page not_ was none. none)
