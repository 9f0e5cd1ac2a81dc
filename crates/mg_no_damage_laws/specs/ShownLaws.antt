-- An engine that stands for a history, and whose pages are known, shows lawful tables over a sound image.
use Rattle.std.proofs.Common.{◌≡◌, true, sym, subst}
use Rattle.mg_base.specs.Disk.{Meaning}
use Rattle.mg_base.specs.Image.{Image}
use Rattle.mg_base.specs.declared.geometry.Geometry.{Geometry}
use Rattle.mg_model.specs.History.{Entries}
use Rattle.mg_model.specs.Openings.{everyone}
use Rattle.mg_model.specs.declared.opening.Opening.{Opening}
use Rattle.mg_model.specs.declared.table.Table.{Table}
use Rattle.mg_image.specs.RecordRules.{Facts}
use Rattle.mg_image.specs.Records.{Reading}
use Rattle.mg_image.specs.Sound.{facts_by}
use Rattle.mg_image.specs.Tables.{Stand}
use Rattle.mg_overlay_laws.specs.Overlays.{left_state}
use Rattle.mg_pool.specs.Dirty.{DirtyPages}
use Rattle.mg_pool.specs.Pool.{shown}
use Rattle.mg_pool.specs.declared.pool.Pool.{Pool}
use Rattle.mg_space.specs.View.{KeepsStore, Tells}
use Rattle.mg_space.specs.ViewLaws.{tells_on}
use Rattle.mg_space.specs.declared.links.FireLinks.{FireLinks}
use Rattle.mg_core.specs.declared.parts.Core.{Core}
use Rattle.mg_core.specs.Cores.{IsCore}
use Rattle.mg_engine_meaning_laws.specs.KeepLaws.{catalog_shown}
use Rattle.mg_engine_meaning_laws.specs.Standings.{ShowsIt}
use Rattle.mg_engine_step_laws.specs.standing.Known.{IsShown, catalog_is_shown}
use Rattle.mg_engine_step_laws.specs.standing.Standing.{Standing}
use Rattle.mg_no_damage_laws.specs.CoreReads.{ShowsTable}
use Rattle.mg_no_damage_laws.specs.Sees.{AreLawful, StandsOn, no_batch}
use Rattle.mg_no_damage_laws.specs.Sound.{SoundRecordsAreLawful, SoundTablesStand}
use Rattle.mg_no_damage_laws.specs.Tables.{SeesTable}
use Rattle.mg_no_damage_laws.specs.Batches.{ShowsSound}

module _ (records : SoundRecordsAreLawful) (stand : SoundTablesStand) {D : Type 0} (m : Meaning D) (core : Core D)
    (o : Opening) (h : Entries) (s : Standing) (shows : ShowsIt m core o h s)
    (told : m.tells core.store.disk ≡ true) where
  its_tells : Tells m core.store.disk shows.image
  its_tells = record { told = told; held = shows.held }

  -- a table that is shown
  pub shown_table : (table : Table) → IsShown shows.stands.shows.layout table
      → ShowsTable m core shows.image table
  shown_table table is = record {
    facts = facts_by (left_state everyone s.state) (shown core.store.dirty shows.image) shows.stands.shows.layout;
    reading = shows.stands.shows.reading;
    stand = is.stands.stand;
    sees = record {
      sees = record {
        tells = its_tells;
        lawful = records core.store.geometry.size (left_state everyone s.state)
            (shown core.store.dirty shows.image) shows.stands.shows.layout shows.stands.shows.reading
            shows.stands.shows.sound;
      };
      stands = stand core.store.geometry.size (left_state everyone s.state) (shown core.store.dirty shows.image)
          shows.stands.shows.layout shows.stands.shows.reading shows.stands.shows.sound is.its table is.stands
          is.same;
    };
  }

  -- the catalog
  pub catalog_there : IsCore m core → IsShown shows.stands.shows.layout core.catalog
  catalog_there is = subst (IsShown shows.stands.shows.layout) (sym (catalog_shown m core o h s is shows))
      (catalog_is_shown shows.stands.shows.layout)

  -- the image
  pub sound_shown : IsCore m core → ShowsSound m core.store shows.image (left_state everyone s.state)
      shows.stands.shows.layout shows.stands.shows.reading
  sound_shown is = record { tells = its_tells; geometry = is.geometry; sound = shows.stands.shows.sound }

-- ---- since pages were only read

module _ {D : Type 0} (m : Meaning D) (a b : Pool D FireLinks) (image : Image) (keeps : KeepsStore m a b) where
  pub sees_on : (f : Facts) (r : Reading) (stand : Stand) (table : Table)
      → SeesTable m a image no_batch f r stand table → SeesTable m b image no_batch f r stand table
  sees_on f r stand table it = record {
    sees = record {
      tells = tells_on m a b image keeps it.sees.tells;
      lawful = subst (λ (g : Geometry). AreLawful g.size (shown b.dirty image) f r) (sym keeps.geometry)
          (subst (λ (d : DirtyPages). AreLawful a.geometry.size (shown d image) f r) (sym keeps.dirty)
          it.sees.lawful);
    };
    stands = subst (λ (g : Geometry). StandsOn g.size (shown b.dirty image) f stand table) (sym keeps.geometry)
        (subst (λ (d : DirtyPages). StandsOn a.geometry.size (shown d image) f stand table) (sym keeps.dirty)
        it.stands);
  }

  pub table_on : (old new : Core D) (table : Table) → old.store ≡ a → new.store ≡ b
      → ShowsTable m old image table → ShowsTable m new image table
  table_on old new table from to it = record {
    facts = it.facts;
    reading = it.reading;
    stand = it.stand;
    sees = subst (λ (p : Pool D FireLinks). SeesTable m p image no_batch it.facts it.reading it.stand table)
        (sym to) (sees_on it.facts it.reading it.stand table
        (subst (λ (p : Pool D FireLinks). SeesTable m p image no_batch it.facts it.reading it.stand table) from
        it.sees));
  }
