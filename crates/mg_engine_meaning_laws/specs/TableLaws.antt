-- The table of a name is asked for.
use Rattle.std.proofs.Common.{◌≡◌, ◌≢◌, ◌⊎◌, inl, inr, cond, ℕ, Bool, true, false, List, [], ◌∷◌, Option, None, Some, Result, Ok, Err, refl, sym, ap, ◌∙◌, subst, arith}
use Rattle.std.specs.Cmp.Lexicographic.{same_text}
use Rattle.mg_base.specs.Disk.{Meaning}
use Rattle.mg_base.specs.Image.{Image}
use Rattle.mg_base.specs.declared.numbers.TxNo.{TxNo}
use Rattle.mg_base.specs.declared.transaction.TxState.TheVariants.{Active}
use Rattle.mg_value.specs.declared.shape.Shape.{Shape}
use Rattle.mg_model.specs.declared.opening.Opening.{Opening}
use Rattle.mg_model.specs.declared.refusal.Refusal.{Refusal}
use Rattle.mg_model.specs.declared.refusal.Refusal.TheVariants.{Memory, NoTable, NotActive, Offline}
use Rattle.mg_model.specs.declared.table.Table.{Table}
use Rattle.mg_model.specs.Catalog.{catalog_name}
use Rattle.mg_model.specs.Changes.{same_name}
use Rattle.mg_model.specs.History.{Entries}
use Rattle.mg_model.specs.Laws.{OpeningsBegin}
use Rattle.mg_model.specs.Machine.{state_of}
use Rattle.mg_model.specs.ReadLaws.{same_name_itself}
use Rattle.mg_records.specs.Crashing.{LeavesOnly, LeavesQuietly}
use Rattle.mg_records.specs.Keeping.{CommitsStay, Keeps, Reads}
use Rattle.mg_records.specs.Reading.{shape_seen}
use Rattle.mg_pool.specs.Pool.{shown}
use Rattle.mg_pool.specs.declared.pool.Pool.{Pool}
use Rattle.mg_seek.specs.TableRows.{IsTableSeen}
use Rattle.mg_space.specs.declared.links.FireLinks.{FireLinks}
use Rattle.mg_engine_step_laws.specs.standing.Standing.{IsSeenAs}
use Rattle.mg_works.specs.Works.{MayBeGiven, Working, given_by, given_in, given_to, with_table, with_work, work_of}
use Rattle.mg_core.specs.declared.parts.Core.{Core}
use Rattle.mg_core.specs.Cores.{Continues, IsCore, RefusesCall}
use Rattle.mg_core.specs.Tables.{AnswersTable, FailsTable, FindsTable, GivesAgain, LacksTable, RefusesName, SeesTable, by_call, by_fault, by_lack, by_memory}
use Rattle.mg_engine_step_laws.specs.reads.Tables.{TablesAreTold}
use Rattle.mg_engine_meaning_laws.specs.FrameLaws.{sessions_of, works_same}
use Rattle.mg_engine_meaning_laws.specs.LawfulLaws.{memory_of}
use Rattle.mg_engine_meaning_laws.specs.Laws.{IsKeeper}
use Rattle.mg_engine_meaning_laws.specs.Meaning.{Places, means}
use Rattle.mg_engine_meaning_laws.specs.Standings.{ShowsIt, StandsFor, standing_of}
use Rattle.mg_engine_meaning_laws.specs.StepLaws.{refused_none, shows_of, still_none}
use Rattle.mg_engine_meaning_laws.specs.Steps.{AddsNone, ReadsGoOn}
use Rattle.mg_engine_step_laws.specs.tables.Found.{FoundTablesStand}
use Rattle.mg_engine_meaning_laws.specs.FaultLaws.{IsOuter, fault_outer}
use Rattle.mg_engine_meaning_laws.specs.KeepLaws.{catalog_shown, given_now, keep_commits, keep_stands, keep_walks, stay, tables_stay}
use Rattle.mg_engine_meaning_laws.specs.Counts.{HasCounts}
use Rattle.mg_engine_meaning_laws.specs.Reads.{GivesTable}

-- a table that was given has the name under which it is found
given_named : (works : List Working) (t : ℕ) (name : List ℕ) (table : Table)
    → given_to works t name ≡ Some table → table.name ≡ name
given_named works t name table is = of (work_of works t) is
  where
    among : (tables : List Table) → given_in tables name ≡ Some table → table.name ≡ name
    among [] none = absurd cc
    among (first ∷ tables) some = at (same_name name first.name) refl some (λ more. among tables more)
      where
        at : (b : Bool) → same_name name first.name ≡ b
            → cond b (Some first) (given_in tables name) ≡ Some table
            → (given_in tables name ≡ Some table → table.name ≡ name) → table.name ≡ name
        at true same some_ more =
            let it : first ≡ table = cc in
            ap (λ (x : Table). x.name) (sym it) ∙ sym (same_text name first.name (sym same))
        at false other later more = more later

    of : (x : Option Working) → given_by x name ≡ Some table → table.name ≡ name
    of None none = absurd cc
    of (Some w) some = among w.tables some

module _ {D P : Type 0} (m : Meaning D) (places : Places P) (reads : ReadsGoOn D P m)
    (keeper : IsKeeper m places) (begin : OpeningsBegin) (tables_told : TablesAreTold)
    (found_stand : FoundTablesStand) (old : Core D) (t : TxNo) (name : List ℕ) (core : IsCore m old)
    (counts : HasCounts old) where
  active_of : (o : Opening) (h : Entries) → StandsFor m old o h → Continues old t.0
      → state_of o h t.0 ≡ Active
  active_of o h stands continues = sym ((memory_of m old o h stands).state t.0) ∙ continues.1

  -- what the rows of the catalog say is what the history tells
  seen_told : (found : Option Table) → Continues old t.0 → SeesTable m old t name found → (o : Opening)
      (h : Entries) → StandsFor m old o h → IsSeenAs name (shape_seen o h t.0 name) found
  seen_told found continues sees o h stands = by (shows_of m old o h stands continues.0)
    where
      by : ShowsIt m old o h (standing_of old stands.numbers stands.tables)
          → IsSeenAs name (shape_seen o h t.0 name) found
      by shows = tables_told old.store.geometry.size o h (standing_of old stands.numbers stands.tables)
          (shown old.store.dirty shows.image) (record { memory = shows.stands.memory; shows = shows.stands.shows })
          t name found (begin o shows.stands.opening) shows.stands.legal (active_of o h stands continues)
          (subst (λ (c : Table). IsTableSeen (standing_of old stands.numbers stands.tables).state old.live t
          (shown old.store.dirty shows.image) c name found)
          (catalog_shown m old o h (standing_of old stands.numbers stands.tables) core shows)
          (sees shows.image (record { told = stands.tells; held = shows.held })))

  some_told : (table : Table) (shape : Option Shape) → IsSeenAs name shape (Some table)
      → shape ≡ Some table.shape
  some_told table None is = absurd is
  some_told table (Some shape) is = ap Some (sym is.1)

  none_told : (shape : Option Shape) → IsSeenAs name shape None → shape ≡ None
  none_told None is = refl
  none_told (Some shape) is = absurd is

  -- ---- given again

  again : (table : Table) → GivesAgain old old t name table
      → GivesTable m places old old t.0 name (Ok table)
  again table is =
      let none = still_none m places old t.0 table None is.continues.0 is.continues.1 in
      record {
        table = λ o h stands. (
          active_of o h stands is.continues,
          (keeper.seen old o h t.0 name table stands (active_of o h stands is.continues) is.given).1,
        );
        given = record {
          named = given_named old.works t.0 name table is.given;
          again = is.given;
          given = is.may;
          few = is.may.columns;
        };
        reads = none.reads;
        crash = none.crash;
        sessions = none.sessions;
      }

  -- ---- found

  module _ (store : Pool D FireLinks) (table : Table) (continues : Continues old t.0)
      (fresh : given_to old.works t.0 name ≡ None) (named : table.name ≡ name)
      (sees : SeesTable m old t name (Some table)) where
    stands_kept : (o : Opening) (h : Entries) → StandsFor m old o h
        → StandsFor m (record old { works = with_work t.0 (with_table table) old.works }) o h
    stands_kept = keep_stands m places begin tables_told found_stand old t name table core continues fresh named sees

    both_keep : Keeps (means m places) (record old { works = with_work t.0 (with_table table) old.works })
        (record old { store = store; works = with_work t.0 (with_table table) old.works }) None
        → Keeps (means m places) old
        (record old { store = store; works = with_work t.0 (with_table table) old.works }) None
    both_keep keeps = record {
      faults = keeps.faults;
      damage = keeps.damage;
      shortages = keeps.shortages;
      cause = tt;
      offline = keeps.offline;
      down = keeps.down;
      tells = keeps.tells;
      most_writes = keeps.most_writes;
      time = λ told. record { later = (keeps.time told).later; keeps = (keeps.time told).keeps };
      page_limit = keeps.page_limit;
      sizes = keeps.sizes;
      holds = keeps.holds;
      given = keeps.given;
      places = keeps.places;
    }

    both_read : Reads (means m places) (record old { works = with_work t.0 (with_table table) old.works })
        (record old { store = store; works = with_work t.0 (with_table table) old.works }) None None
        → Reads (means m places) old
        (record old { store = store; works = with_work t.0 (with_table table) old.works }) None None
    both_read read = record {
      stays = λ o h stands. read.stays o h (stands_kept o h stands);
      keeps = both_keep read.keeps;
      tables = λ u n given not_ was. read.tables u n given not_
          (tables_stay m places begin tables_told found_stand old t name table core continues fresh named sees
          u n given not_ was);
      walks_stay = λ u given after rows not_ comes. read.walks_stay u given after rows not_
          (keep_walks m places begin tables_told found_stand old t name table core continues fresh named sees
          None u given after rows not_ comes);
      commits = record {
        asked = λ u not_ was. read.commits.asked u not_ (commits.asked u not_ was);
        written = λ u not_ was. read.commits.written u not_ (commits.written u not_ was);
      };
    }
      where
        commits : CommitsStay (means m places) old
            (record old { works = with_work t.0 (with_table table) old.works }) None
        commits = keep_commits m places begin tables_told found_stand old t name table core continues fresh named
            sees None

    both_quiet : LeavesQuietly (means m places) (record old { works = with_work t.0 (with_table table) old.works })
        (record old { store = store; works = with_work t.0 (with_table table) old.works })
        → LeavesQuietly (means m places) old
        (record old { store = store; works = with_work t.0 (with_table table) old.works })
    both_quiet quiet o h stands told = by (quiet o h (stands_kept o h stands) told)
      where
        by : {Q : Image → Type 0} → LeavesOnly (means m places)
            (record old { works = with_work t.0 (with_table table) old.works })
            (record old { store = store; works = with_work t.0 (with_table table) old.works }) Q
            → LeavesOnly (means m places) old
            (record old { store = store; works = with_work t.0 (with_table table) old.works }) Q
        by leaves = record { each = leaves.each; before = leaves.before }

    pub found_given : MayBeGiven table
        → Reads (means m places) (record old { works = with_work t.0 (with_table table) old.works })
        (record old { store = store; works = with_work t.0 (with_table table) old.works }) None None
        → LeavesQuietly (means m places) (record old { works = with_work t.0 (with_table table) old.works })
        (record old { store = store; works = with_work t.0 (with_table table) old.works })
        → GivesTable m places old
        (record old { store = store; works = with_work t.0 (with_table table) old.works }) t.0 name (Ok table)
    found_given may read quiet = record {
      table = λ o h stands. (
        active_of o h stands continues,
        some_told table (shape_seen o h t.0 name) (seen_told (Some table) continues sees o h stands),
      );
      given = record {
        named = named;
        again = given_now m places begin tables_told found_stand old t name table core continues fresh named sees;
        given = may;
        few = may.columns;
      };
      reads = both_read read;
      crash = both_quiet quiet;
      sessions = sessions_of m places old
          (record old { store = store; works = with_work t.0 (with_table table) old.works }) t.0
          (stay m places begin tables_told found_stand old t name table core continues fresh named sees);
    }

  found : (new : Core D) (table : Table) → FindsTable m old new t name table
      → GivesTable m places old new t.0 name (Ok table)
  found new table is = subst (λ (c : Core D). GivesTable m places old c t.0 name (Ok table)) (sym is.same)
      (found_given new.store table is.continues is.fresh is.named is.sees is.may both.0 both.1)
    where
      both : Reads (means m places) (record old { works = with_work t.0 (with_table table) old.works })
          (record old { store = new.store; works = with_work t.0 (with_table table) old.works }) None None
          × LeavesQuietly (means m places)
          (record old { works = with_work t.0 (with_table table) old.works })
          (record old { store = new.store; works = with_work t.0 (with_table table) old.works })
      both = reads places (record old { works = with_work t.0 (with_table table) old.works }) new.store old.damage
          old.shortages None None is.reads.keeps (omega arith) (omega arith)
          (record { cause = tt; offline = rw is.continues.0 tt; down = is.reads.keeps.offline })

  -- ---- refused

  refused_as : (refusal : Refusal) → RefusesCall old t.0 refusal
      → GivesTable m places old old t.0 name (Err refusal)
  refused_as (Offline faults) refuses =
      let none : AddsNone {T = Table} m places old old t.0 (Err (Offline faults)) None =
      refused_none m places old t.0 (Offline faults) None refuses in
      record { table = none.answers; given = tt; reads = none.reads; crash = none.crash; sessions = none.sessions }
  refused_as (NotActive state) refuses =
      let none : AddsNone {T = Table} m places old old t.0 (Err (NotActive state)) None =
      refused_none m places old t.0 (NotActive state) None refuses in
      record { table = none.answers; given = tt; reads = none.reads; crash = none.crash; sessions = none.sessions }
  refused_as refusal refuses = absurd refuses

  lacks : (new : Core D) → LacksTable m old new t name
      → GivesTable m places old new t.0 name (Err NoTable)
  lacks new is = subst (λ (c : Core D). GivesTable m places old c t.0 name (Err NoTable)) (sym is.same) (record {
    table = λ o h stands. (active_of o h stands is.continues, none_of o h stands is.none);
    given = tt;
    reads = both.0;
    crash = both.1;
    sessions = sessions_of m places old (record old { store = new.store }) t.0 (works_same old.works t.0);
  })
    where
      both : Reads (means m places) old (record old { store = new.store }) (Some NoTable) None
          × LeavesQuietly (means m places) old (record old { store = new.store })
      both = reads places old new.store old.damage old.shortages (Some NoTable) None is.reads.keeps (omega arith)
          (omega arith) (record { cause = tt; offline = rw is.continues.0 tt; down = is.reads.keeps.offline })

      none_of : (o : Opening) (h : Entries) → StandsFor m old o h
          → (name ≡ catalog_name) ⊎ ((name ≢ catalog_name) × SeesTable m old t name None)
          → shape_seen o h t.0 name ≡ None
      none_of o h stands (inr (other, sees)) = none_told (shape_seen o h t.0 name)
          (seen_told None is.continues sees o h stands)
      none_of o h stands (inl same) =
          let itself : same_name name catalog_name ≡ true =
          ap (same_name name) (sym same) ∙ same_name_itself name in rw itself refl

  fails : (new : Core D) (refusal : Refusal) → FailsTable m old new t name refusal
      → GivesTable m places old new t.0 name (Err refusal)
  fails new refusal is = subst (λ (c : Core D). GivesTable m places old c t.0 name (Err refusal)) (sym is.same)
      (record {
        table = outer.told t.0 name;
        given = tt;
        reads = both.0;
        crash = both.1;
        sessions = sessions_of m places old
            (record old { store = new.store; damage = new.damage; shortages = new.shortages }) t.0
            (works_same old.works t.0);
      })
    where
      outer : IsOuter m places old
          (record old { store = new.store; damage = new.damage; shortages = new.shortages }) refusal
      outer = fault_outer m places old new.store new.damage new.shortages is.continues.0 is.keeps counts.damage
          counts.shortages is.fault refusal is.is is.own is.told is.counts

      both : Reads (means m places) old
          (record old { store = new.store; damage = new.damage; shortages = new.shortages }) (Some refusal) None
          × LeavesQuietly (means m places) old
          (record old { store = new.store; damage = new.damage; shortages = new.shortages })
      both = reads places old new.store new.damage new.shortages (Some refusal) None is.keeps outer.damage
          outer.shortages outer.may

  refuses : (new : Core D) (refusal : Refusal) → RefusesName m old new t name refusal
      → GivesTable m places old new t.0 name (Err refusal)
  refuses new refusal (by_call of refused same) = subst (λ (c : Core D).
      GivesTable m places old c t.0 name (Err of)) (sym same) (refused_as of refused)
  refuses new refusal (by_lack is) = lacks new is
  refuses new refusal (by_fault of is) = fails new of is
  refuses new refusal (by_memory is) = subst (λ (c : Core D). GivesTable m places old c t.0 name (Err Memory))
      (sym is.same) (record {
        table = λ o h stands. refl;
        given = tt;
        reads = both.0;
        crash = both.1;
        sessions = sessions_of m places old (record old { store = new.store }) t.0 (works_same old.works t.0);
      })
    where
      both : Reads (means m places) old (record old { store = new.store }) (Some Memory) None
          × LeavesQuietly (means m places) old (record old { store = new.store })
      both = reads places old new.store old.damage old.shortages (Some Memory) None is.reads.keeps (omega arith)
          (omega arith) (record { cause = tt; offline = rw is.continues.0 tt; down = is.reads.keeps.offline })

  pub gives_table : (new : Core D) (result : Result Table Refusal) → AnswersTable m old new t name result
      → GivesTable m places old new t.0 name result
  gives_table new (Ok table) (inl is) = subst (λ (c : Core D). GivesTable m places old c t.0 name (Ok table))
      (sym is.same) (again table (record {
        continues = is.continues;
        given = is.given;
        may = is.may;
        same = refl;
      }))
  gives_table new (Ok table) (inr is) = found new table is
  gives_table new (Err refusal) is = refuses new refusal is
