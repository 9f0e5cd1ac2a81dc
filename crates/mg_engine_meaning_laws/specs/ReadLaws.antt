-- Pages are read: what a call leaves of an engine that only read, whatever it answers.
use Rattle.std.proofs.Common.{◌≡◌, ◌≢◌, ◌⊎◌, ◌≤◌, ℕ, Bool, true, false, List, Option, None, Some, refl, sym, ap, ◌∙◌, subst, arith}
use Rattle.std.proofs.Math.Path.{fun_ext}
use Rattle.mg_base.specs.Disk.{MayLeave, Meaning}
use Rattle.mg_base.specs.Image.{Image}
use Rattle.mg_base.specs.Moments.{goes_on, started}
use Rattle.mg_base.specs.declared.geometry.Geometry.{Geometry}
use Rattle.mg_model.specs.declared.opening.Opening.{Opening}
use Rattle.mg_model.specs.declared.refusal.Refusal.{Refusal}
use Rattle.mg_model.specs.declared.table.Table.{Table}
use Rattle.mg_model.specs.Changes.{KeyedRows}
use Rattle.mg_model.specs.History.{Entries}
use Rattle.mg_model.specs.Laws.{OpeningsBegin}
use Rattle.mg_engine_step_laws.specs.reads.Walking.{AreToCome, WalkPlace}
use Rattle.mg_engine_step_laws.specs.writes.Batches.{ReadsLast}
use Rattle.mg_image.specs.Form.{packed_form}
use Rattle.mg_image.specs.Inventory.{header_of}
use Rattle.mg_lasting_laws.specs.Crashes.{HoldsAcknowledged, LeavesSince}
use Rattle.mg_pool.specs.Dirty.{DirtyPages, is_marked}
use Rattle.mg_pool.specs.Pool.{shown}
use Rattle.mg_pool.specs.declared.pool.Pool.{Pool}
use Rattle.mg_records.specs.Crashing.{LeavesQuietly}
use Rattle.mg_records.specs.Keeping.{CommitsStay, Keeps, Reads, WalksStay}
use Rattle.mg_space.specs.View.{KeepsStore}
use Rattle.mg_space.specs.declared.links.FireLinks.{FireLinks}
use Rattle.mg_engine_step_laws.specs.standing.Standing.{Standing, Stands}
use Rattle.mg_txlist.specs.TxList.{said}
use Rattle.mg_core.specs.declared.parts.Core.{Core}
use Rattle.mg_engine_meaning_laws.specs.KnownRecords.{KnowsIts}
use Rattle.mg_engine_meaning_laws.specs.FrameLaws.{commits_of, keeps_of, quiet_of, tables_of}
use Rattle.mg_engine_meaning_laws.specs.Frames.{MayAnswer, StoreGoesOn}
use Rattle.mg_engine_meaning_laws.specs.PlainTables.{HasPlainTables}
use Rattle.mg_engine_meaning_laws.specs.LawfulLaws.{legal_of, left_of, opening_of}
use Rattle.mg_engine_meaning_laws.specs.Meaning.{AreNext, ComesTo, Places, means, place_at}
use Rattle.mg_engine_meaning_laws.specs.Standings.{HasTips, KeepsIt, ShowsIt, StandsFor, StandsWhile, asked_in, sessions_in, standing_of}
use Rattle.mg_engine_meaning_laws.specs.StepLaws.{as_standing}

pub reads_go : {D L : Type 0} (m : Meaning D) (old new : Pool D L) → KeepsStore m old new
    → StoreGoesOn m old new
reads_go m old new keeps = record {
  time = record {
    tells = keeps.disk.tells;
    most_writes = keeps.disk.most_writes;
    never_falls = keeps.disk.never_falls;
    failed_writes = keeps.disk.failed_writes;
    later = λ told. (keeps.disk.time told).later;
    keeps = λ told. (keeps.disk.time told).keeps;
  };
  geometry = keeps.geometry;
  size = ap (λ (d : DirtyPages). d.size) keeps.dirty;
}

module _ {D P : Type 0} (m : Meaning D) (places : Places P) (begin : OpeningsBegin)
    (last : ReadsLast D FireLinks m packed_form) (old : Core D) (store : Pool D FireLinks)
    (keeps : KeepsStore m old.store store) (damage shortages : ℕ) where
  abbrev now : Core D
  now = record old { store = store; damage = damage; shortages = shortages }

  -- the pages, which are known
  reads_shows : (o : Opening) (h : Entries) (stands : StandsFor m old o h)
      → ShowsIt m old o h (standing_of old stands.numbers stands.tables)
      → ShowsIt m (record old { store = store; damage = damage; shortages = shortages }) o h
      (standing_of old stands.numbers stands.tables)
  reads_shows o h stands shows = record {
    image = shows.image;
    held = keeps.disk.held ∙ shows.held;
    stands = subst (λ (g : Geometry). Stands packed_form g.size o h
        (standing_of old stands.numbers stands.tables) (Some (shown store.dirty shows.image)))
        (sym keeps.geometry) (subst (λ (d : DirtyPages). Stands packed_form old.store.geometry.size o h
        (standing_of old stands.numbers stands.tables) (Some (shown d shows.image))) (sym keeps.dirty)
        shows.stands);
    lasts = (last o h old.store store (asked_in old.works) (sessions_in old.works)
        (begin o shows.stands.opening) shows.stands.legal stands.tells keeps shows.lasts).0;
    tips = subst (λ (g : Geometry). HasTips old.list g.size (shown store.dirty shows.image))
        (sym keeps.geometry) (subst (λ (d : DirtyPages). HasTips old.list old.store.geometry.size
        (shown d shows.image)) (sym keeps.dirty) shows.tips);
    catalog = subst (λ (d : DirtyPages). old.catalog.pointer.0
        ≡ (header_of (shown d shows.image)).catalog.0) (sym keeps.dirty) shows.catalog;
    plain_tables = subst (λ (g : Geometry). HasPlainTables g.size (said old.list) (shown store.dirty shows.image))
        (sym keeps.geometry) (subst (λ (d : DirtyPages). HasPlainTables old.store.geometry.size (said old.list)
        (shown d shows.image)) (sym keeps.dirty) shows.plain_tables);
    no_directory = shows.no_directory;
    known = subst (λ (g : Geometry). KnowsIts o.next.0 g.size (said old.list) (shown store.dirty shows.image)
        old.directories) (sym keeps.geometry) (subst (λ (d : DirtyPages). KnowsIts o.next.0 old.store.geometry.size
        (said old.list) (shown d shows.image) old.directories) (sym keeps.dirty) shows.known);
  }

  -- once a page write has failed
  reads_left : (o : Opening) (h : Entries) → ((c : Image) → MayLeave m old.store.disk c
      → HoldsAcknowledged packed_form old.store.dirty.size o h c) → m.tells old.store.disk ≡ true
      → (c : Image) → MayLeave m store.disk c
      → HoldsAcknowledged packed_form old.store.dirty.size o h c
  reads_left o h left told c may = left c (keeps.disk.crash told c may)

  pub reads_stand : (o : Opening) (h : Entries) → StandsFor m old o h
      → StandsFor m (record old { store = store; damage = damage; shortages = shortages }) o h
  reads_stand o h stands = record {
    tells = keeps.disk.tells ∙ stands.tells;
    grows = stands.grows;
    bases = stands.bases;
    numbers = stands.numbers;
    tables = stands.tables;
    given = stands.given;
    kept = stands.kept;
    stands = subst (λ (off : Option ℕ). StandsWhile m
        (record old { store = store; damage = damage; shortages = shortages }) o h
        (standing_of old stands.numbers stands.tables) off) (sym keeps.offline)
        (by old.store.offline stands.stands);
  }
    where
      by : (off : Option ℕ)
          → StandsWhile m old o h (standing_of old stands.numbers stands.tables) off
          → StandsWhile m (record old { store = store; damage = damage; shortages = shortages }) o h
          (standing_of old stands.numbers stands.tables) off
      by None shows = reads_shows o h stands shows
      by (Some faults) kept = record {
        stands = subst (λ (g : Geometry). Stands packed_form g.size o h
            (standing_of old stands.numbers stands.tables) None) (sym keeps.geometry) kept.stands;
        left = λ c may. subst (λ (d : DirtyPages). HoldsAcknowledged packed_form d.size o h c)
            (sym keeps.dirty) (reads_left o h kept.left stands.tells c may);
      }

  pub reads_quiet : LeavesQuietly (means m places) old
      (record old { store = store; damage = damage; shortages = shortages })
  reads_quiet = quiet_of m places old (record old { store = store; damage = damage; shortages = shortages })
      (λ o h stands told. record {
        since = goes_on m old.store.disk old.store.disk store.disk
            (HoldsAcknowledged packed_form old.store.dirty.size o h)
            (started m old.store.disk (HoldsAcknowledged packed_form old.store.dirty.size o h)
            (left_of m old o h stands)) (keeps.disk.time told)
            (reads_left o h (left_of m old o h stands) told);
        left = reads_left o h (left_of m old o h stands) told;
      }) (ap (λ (d : DirtyPages). d.size) keeps.dirty)

  next_on : (s s_now : Standing) (u : ℕ) (table : Table) (after : Option WalkPlace) (rows : KeyedRows)
      (off : Option ℕ) → s.state ≡ s_now.state → s.live ≡ s_now.live
      → AreNext m old s u table after rows off
      → AreNext m (record old { store = store; damage = damage; shortages = shortages }) s_now u table after rows off
  next_on s s_now u table after rows None state bases (i, held, next) = (
    i,
    keeps.disk.held ∙ held,
    subst (λ (g : Geometry). AreToCome g.size s_now (shown store.dirty i) u table after rows)
        (sym keeps.geometry) (subst (λ (d : DirtyPages). AreToCome old.store.geometry.size s_now (shown d i) u
        table after rows) (sym keeps.dirty) (as_standing old.store.geometry.size s s_now
        (shown old.store.dirty i) u table after rows state bases next)),
  )
  next_on s s_now u table after rows (Some faults) state bases next = tt

  pub reads_walks : (who : Option ℕ) → WalksStay (means m places) old
      (record old { store = store; damage = damage; shortages = shortages }) who
  reads_walks who u table after rows not_ comes =
      let stands_now : StandsFor m (record old { store = store; damage = damage; shortages = shortages })
      comes.opening comes.entries = reads_stand comes.opening comes.entries comes.stands in record {
        opening = comes.opening;
        entries = comes.entries;
        stands = stands_now;
        active = comes.active;
        seen = comes.seen;
        next = subst (λ (off : Option ℕ). AreNext m
            (record old { store = store; damage = damage; shortages = shortages })
            (standing_of (record old { store = store; damage = damage; shortages = shortages })
            stands_now.numbers stands_now.tables) u table (place_at places after) rows off) (sym keeps.offline)
            (next_on (standing_of old comes.stands.numbers comes.stands.tables)
            (standing_of (record old { store = store; damage = damage; shortages = shortages })
            stands_now.numbers stands_now.tables) u table (place_at places after) rows old.store.offline refl refl
            comes.next);
      }

  -- a call that only read, and adds no entry
  pub reads_all : (refusal : Option Refusal) (walks : Option ℕ) → old.damage ≤ damage
      → old.shortages ≤ shortages
      → MayAnswer m places old (record old { store = store; damage = damage; shortages = shortages }) refusal
      → Reads (means m places) old (record old { store = store; damage = damage; shortages = shortages }) refusal
      walks
  reads_all refusal walks damaged short may = record {
    stays = reads_stand;
    keeps = keeps_of m places old (record old { store = store; damage = damage; shortages = shortages }) refusal
        (reads_go m old.store store keeps) damaged short may;
    tables = tables_of m places old (record old { store = store; damage = damage; shortages = shortages }) None
        (λ u name not_. refl);
    walks_stay = reads_walks walks;
    commits = commits_of m places old (record old { store = store; damage = damage; shortages = shortages }) walks
        (λ u not_. refl) (λ u not_. refl)
        (λ u page not_ was none. ap (λ (d : DirtyPages). is_marked d page (sessions_in old.works u)) keeps.dirty
        ∙ none);
  }
