-- Where an engine stands for a history, the trees of a table that was given to a transaction stand: before the entries of a row
-- are laid, between any two of them, and behind the last one.
use Rattle.std.proofs.Common.{◌≡◌, ◌⊎◌, ◌∙◌, inr, sym, subst, None, Some}
use Rattle.mg_base.specs.Disk.{Meaning}
use Rattle.mg_base.specs.Image.{Image}
use Rattle.mg_base.specs.declared.numbers.RecId.{RecId}
use Rattle.mg_base.specs.declared.numbers.TxNo.{TxNo}
use Rattle.mg_base.specs.declared.transaction.TxState.TheVariants.{Active}
use Rattle.mg_core.specs.Cores.{Continues, IsCore}
use Rattle.mg_core.specs.declared.parts.Core.{Core}
use Rattle.mg_core.specs.declared.scanning.Place.{Place}
use Rattle.mg_engine_change_laws.specs.rows.Laid.{DeadsStay, EntriesStayOver, HasNoted, PlacesStay, ReadyStays, StaysOver}
use Rattle.mg_engine_change_laws.specs.rows.MadeLaws.{all_on}
use Rattle.mg_engine_change_laws.specs.memory.Notes.{HasRead}
use Rattle.mg_engine_change_laws.specs.rows.RefusalLaws.{free_read}
use Rattle.mg_engine_change_laws.specs.rows.Refusals.{IsReady}
use Rattle.mg_engine_change_laws.specs.rows.StopLaws.{reads_on}
use Rattle.mg_engine_meaning_laws.specs.Meaning.{Places}
use Rattle.mg_engine_meaning_laws.specs.Standings.{ShowsIt, StandsFor, standing_of}
use Rattle.mg_engine_meaning_laws.specs.StepLaws.{shows_of}
use Rattle.mg_entry_step_laws.specs.EntryBatchLaws.{HasTree, table_tree}
use Rattle.mg_image.specs.Form.{Row, packed_form}
use Rattle.mg_image_overlay_laws.specs.tables.Growing.{IsTableOf}
use Rattle.mg_image_overlay_laws.specs.tables.OneTable.{stands_in}
use Rattle.mg_index_overlay_laws.specs.SoundLaws.{tree_inventory}
use Rattle.mg_model.specs.History.{Entries}
use Rattle.mg_model.specs.Openings.{everyone}
use Rattle.mg_model.specs.declared.opening.Opening.{Opening}
use Rattle.mg_model.specs.declared.table.Table.{Table}
use Rattle.mg_overlay_laws.specs.Overlays.{left_state}
use Rattle.mg_pool.specs.Pool.{IsPool, shown}
use Rattle.mg_pool.specs.declared.pool.Pool.{Pool}
use Rattle.mg_records.specs.Writing.{FitsShape}
use Rattle.mg_records.specs.declared.write.Write.{Write}
use Rattle.mg_row_writes.specs.Changing.{TakesNewestOut, TakesPlace}
use Rattle.mg_row_writes.specs.declared.before.Before.{Before}
use Rattle.mg_row_writes.specs.declared.before.Way.{Way}
use Rattle.mg_row_writes.specs.declared.before.Way.TheVariants as ways
use Rattle.mg_space.specs.ViewLaws.{CountsNow}
use Rattle.mg_space.specs.declared.links.FireLinks.{FireLinks}
use Rattle.mg_txlist.specs.TxList.{said}
use Rattle.mg_version.specs.declared.cell.Version.{Version}
use Rattle.mg_works.specs.Works.{given_to}
use Rattle.mg_no_damage_laws.specs.EntryCalls.{HasTreeAt, TreesStand, TreesStandAlong}

-- where the entries of a write's row may be laid first: where pages were read, once a place was taken, or once a dead
-- transaction's version was taken out
pub record StandsAtStarts {D : Type 0} (m : Meaning D) (read : Pool D FireLinks) (table : Table) (way : Way) : Type 0 where
  pub at_read : (rec : RecId) → (way ≡ ways.Push rec) ⊎ (way ≡ ways.Replace rec) → (row : Row)
      → TreesStandAlong m read table.indexes rec row
  pub at_placed : way ≡ ways.Make → (placed : Pool D FireLinks) (at : RecId)
      → TakesPlace m read placed table.pointer.0 at → (row : Row) → TreesStandAlong m placed table.indexes at row
  pub at_cleared : (rec : RecId) → way ≡ ways.PushOverDead rec → (cleared : Pool D FireLinks)
      → TakesNewestOut m read cleared rec → (row : Row) → TreesStandAlong m cleared table.indexes rec row

-- wherever an engine has read all that a write asks for
abbrev pub TreesAtStarts : {D : Type 0} → Meaning D → Core D → TxNo → Table → Write → Type 0
TreesAtStarts {D} m old t table write = (read : Core D) (before : Before) (version : Version)
    → IsReady m old read t table write before version → StandsAtStarts m read.store table before.way

module _ {D : Type 0} (m : Meaning D) (old : Core D) (o : Opening) (h : Entries) (t : TxNo)
    (active : said old.list t.0 ≡ Active) (table : Table) (given : given_to old.works t.0 table.name ≡ Some table) where
  -- the trees stand where the engine does
  pub trees_of_standing : (store : Pool D FireLinks) → store.offline ≡ None → StandsFor m (record old { store = store }) o h
      → TreesStand m store table.indexes
  trees_of_standing store up stands image tells root has =
      subst (λ (k : Image). HasTreeAt store.geometry.size (shown store.dirty k) root) same (record {
        owner = table.pointer.0;
        levels = tree.levels;
        tree = tree.tree;
        no_inventory = tree_inventory store.geometry.size (shown store.dirty shows.image)
            (record { owner = table.pointer.0; root = root; levels = tree.levels }) shows.stands.shows.sound.inventory
            tree.tree;
      })
    where
      shows : ShowsIt m (record old { store = store }) o h
          (standing_of (record old { store = store }) stands.numbers stands.tables)
      shows = shows_of m (record old { store = store }) o h stands up

      same : shows.image ≡ image
      same = let both : Some shows.image ≡ Some image = sym shows.held ∙ tells.held in cc

      its : IsTableOf shows.stands.shows.layout table
      its = stands_in shows.stands.shows.layout table (inr ((shows.stands.shows.tables t.0 active).seen table.name table
          (stands.given t.0 table.name table given)))

      tree : HasTree store.geometry.size (shown store.dirty shows.image) table.pointer.0 root
      tree = table_tree packed_form store.geometry.size (left_state everyone (said old.list))
          (shown store.dirty shows.image) shows.stands.shows.layout shows.stands.shows.reading shows.stands.shows.sound
          table its root has

-- What is known of the batches before a version: after each of them the engine stands for its history.
pub record KnowsBatches {D : Type 0} (m : Meaning D) : Type 0 where
  pub ready_stays : ReadyStays D Place m
  pub entries_stay : EntriesStayOver D Place m
  pub places_stay : PlacesStay D Place m
  pub deads_stay : DeadsStay D Place m
  pub counts_now : CountsNow m

-- places that nobody walks to
pub no_places : Places Place
no_places = record { rec = λ x. record { page = record { 0 = 0 }; slot = 0 }; sequence = λ x. 0; rank = λ x. 0 }

module _ {D : Type 0} (m : Meaning D) (knows : KnowsBatches m) (old : Core D) (t : TxNo) (table : Table) (write : Write)
    (o : Opening) (h : Entries) (core : IsCore m old) (given : given_to old.works t.0 table.name ≡ Some table)
    (noted : HasNoted old.works t.0 table) (fits : FitsShape table.shape write)
    (stands : StandsFor m old o h) where
  module _ (read : Core D) (before : Before) (version : Version) (ready : IsReady m old read t table write before version)
    where
      since : HasRead m old read t.0
      since = reads_on m knows.counts_now old ready.free read t.0
          (free_read m knows.counts_now old core t table write ready.free ready.wait ready.rec ready.is_free) ready.has.reads

      continues : Continues old t.0
      continues = ready.is_free.has_found.has_passed.has_begun.continues

      -- from a store over which the engine stands
      along : (start : Pool D FireLinks) → IsPool m start → start.offline ≡ None → start.geometry ≡ old.store.geometry
          → StaysOver m old start o h t.0 → (rec : RecId) (row : Row) → TreesStandAlong m start table.indexes rec row
      along start pool online geometry over rec row first later store parts laid = trees_of_standing m old o h t continues.1
          table given store (all_on m first rec row start store online laid).online
          (knows.entries_stay no_places old read t table write before version start store first later rec row o h core given
          noted fits ready stands over pool online geometry parts laid).stands

      stands_at : StandsAtStarts m read.store table before.way
      stands_at = record {
        at_read = λ rec way row. along read.store since.keeps.pool (since.keeps.offline ∙ continues.0) since.keeps.geometry
            (knows.ready_stays no_places old read t table write before version o h core given noted fits ready
            stands) rec row;
        at_placed = λ way placed at takes row. along placed takes.changed.pool takes.changed.online.1
            (takes.changed.geometry ∙ (takes.keeps.geometry ∙ since.keeps.geometry)) (knows.places_stay no_places old read t
            table write before version placed at o h core given noted fits ready way takes stands) at row;
        at_cleared = λ rec way cleared takes row. along cleared takes.changed.pool takes.changed.online.1
            (takes.changed.geometry ∙ (takes.keeps.geometry ∙ since.keeps.geometry)) (knows.deads_stay no_places old read t
            table write before version cleared rec o h core given noted fits ready way takes stands) rec row;
      }

  pub stands_at_starts : TreesAtStarts m old t table write
  stands_at_starts read before version ready = stands_at read before version ready
