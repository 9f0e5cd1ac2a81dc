-- Since a call of a transaction began an entry was laid: the engine stands for the history, a crash leaves it, and all
-- others walk on.
use Rattle.std.proofs.Common.{◌≡◌, ◌≢◌, ◌∙◌, refl, sym, ap, subst, ℕ, List, Option, None, Some, true}
use Rattle.mg_base.specs.Disk.{Meaning}
use Rattle.mg_base.specs.Image.{Image}
use Rattle.mg_base.specs.Moments.{joined}
use Rattle.mg_base.specs.declared.geometry.Geometry.{Geometry}
use Rattle.mg_core.specs.Cores.{IsCore}
use Rattle.mg_core.specs.declared.parts.Core.{Core}
use Rattle.mg_directory.specs.Candidates.{by_table}
use Rattle.mg_engine_meaning_laws.specs.KnownRecords.{KnowsIts}
use Rattle.mg_engine_meaning_laws.specs.Standings.{ShowsIt, StandsFor, StandsWhile, asked_in, sessions_in, standing_of}
use Rattle.mg_engine_meaning_laws.specs.StepLaws.{as_standing}
use Rattle.mg_engine_step_laws.specs.standing.Standing.{Standing}
use Rattle.mg_engine_step_laws.specs.reads.Walking.{AreToCome}
use Rattle.mg_image.specs.Form.{packed_form}
use Rattle.mg_lasting_laws.specs.Crashes.{HoldsAcknowledged, LeavesSince}
use Rattle.mg_model.specs.History.{Entries}
use Rattle.mg_model.specs.declared.opening.Opening.{Opening}
use Rattle.mg_model.specs.declared.table.Index.{Index}
use Rattle.mg_node.specs.declared.entry.Entry.{Entry}
use Rattle.mg_pool.specs.Pool.{IsPool, shown}
use Rattle.mg_pool.specs.declared.pool.Pool.{Pool}
use Rattle.mg_space.specs.declared.links.FireLinks.{FireLinks}
use Rattle.mg_txlist.specs.TxList.{said}
use Rattle.mg_engine_change_laws.specs.entries.EntryStages.{StaysEntered}
use Rattle.mg_engine_change_laws.specs.rows.Laid.{StaysOver, bare_standing}
use Rattle.mg_engine_change_laws.specs.rows.Walks.{WalkInto}

-- So it is, and these pages show the history.
pub record StandsOver {D : Type 0} (m : Meaning D) (old : Core D) (store : Pool D FireLinks) (o : Opening) (h : Entries)
    (t : ℕ) : Type 0 where
  pub over : StaysOver m old store o h t
  pub shows : ShowsIt m (record old { store = store }) o h
      (standing_of (record old { store = store }) over.stands.numbers over.stands.tables)

module _ {D : Type 0} (m : Meaning D) (old : Core D) (core : IsCore m old) (a b : Pool D FireLinks) (o : Opening)
    (h : Entries) (t : ℕ) (it : StandsOver m old a o h t) (pool : IsPool m a)
    (from_old : a.geometry ≡ old.store.geometry) (indexes : List Index) (root : ℕ) (e : Entry)
    (laid : StaysEntered m o h (standing_of (record old { store = a }) it.over.stands.numbers it.over.stands.tables)
    old.list a b (shown a.dirty it.shows.image) it.shows.stands.shows.layout it.shows.stands.shows.reading
    it.shows.stands.shows.versions.speaker indexes (asked_in old.works) (sessions_in old.works) t root e) (told : m.tells b.disk ≡ true) (up : b.offline ≡ None)
    (geometry : b.geometry ≡ a.geometry) where
  abbrev s : Standing
  s = standing_of (record old { store = a }) it.over.stands.numbers it.over.stands.tables

  abbrev shows_now : ShowsIt m (record old { store = b }) o h
      (standing_of (record old { store = b }) it.over.stands.numbers it.over.stands.tables)
  shows_now = record {
    image = laid.image;
    held = laid.held;
    stands = laid.left.stands;
    lasts = laid.lasts;
    tips = laid.left.tips;
    catalog = it.shows.catalog ∙ sym laid.keeps.catalog;
    plain_tables = laid.left.plain;
    no_directory = it.shows.no_directory;
    known = subst (λ (g : Geometry). KnowsIts o.next.0 g.size (said old.list) (shown b.dirty laid.image) old.directories)
        (sym geometry) (laid.known o.next.0 (by_table old.directories.dirs) it.shows.known);
  }

  abbrev stands_now : StandsFor m (record old { store = b }) o h
  stands_now = record {
    tells = told;
    grows = it.over.stands.grows;
    bases = it.over.stands.bases;
    numbers = it.over.stands.numbers;
    tables = it.over.stands.tables;
    given = it.over.stands.given;
    kept = it.over.stands.kept;
    stands = subst (λ (off : Option ℕ). StandsWhile m (record old { store = b }) o h
        (standing_of (record old { store = b }) it.over.stands.numbers it.over.stands.tables) off) (sym up) shows_now;
  }

  pub leaves_now : LeavesSince m old.store.disk b.disk (HoldsAcknowledged packed_form old.store.dirty.size o h)
  leaves_now = record {
    since = joined m old.store.disk a.disk b.disk (HoldsAcknowledged packed_form old.store.dirty.size o h)
        it.over.leaves.since since_a.since;
    left = since_a.left;
  }
    where
      same_size : a.dirty.size ≡ old.store.dirty.size
      same_size = pool.page_size ∙ (ap (λ (g : Geometry). g.size) from_old ∙ sym core.pool.page_size)

      since_a : LeavesSince m a.disk b.disk (HoldsAcknowledged packed_form old.store.dirty.size o h)
      since_a = subst (λ (n : ℕ). LeavesSince m a.disk b.disk (HoldsAcknowledged packed_form n o h)) same_size
          laid.leaves

  one_image : (k : Image) → m.held a.disk ≡ Some k → k ≡ it.shows.image
  one_image k held = let both : Some k ≡ Some it.shows.image = sym held ∙ it.shows.held in cc

  pub walks_now : (i : Image) → m.held old.store.disk ≡ Some i → WalkInto m old.store.geometry.size (bare_standing old)
      (shown old.store.dirty i) b (bare_standing old) t
  walks_now i held u ne also x from rows next =
      let (k, held_k, then_) = it.over.walks i held u ne also x from rows next in (
        laid.image,
        laid.held,
        as_standing b.geometry.size s (bare_standing old) (shown b.dirty laid.image) u x from rows refl refl
            (subst (λ (g : Geometry). AreToCome g.size s (shown b.dirty laid.image) u x from rows) (sym geometry)
            (laid.others u ne also x from rows (as_standing a.geometry.size (bare_standing old) s
            (shown a.dirty it.shows.image) u x from rows refl refl
            (subst (λ (j : Image). AreToCome a.geometry.size (bare_standing old) (shown a.dirty j) u x from rows)
            (one_image k held_k) then_)))),
      )

  abbrev pub entry_over : StandsOver m old b o h t
  entry_over = record {
    over = record { stands = stands_now; leaves = leaves_now; walks = walks_now };
    shows = shows_now;
  }
