-- What a write finds at its key is read.
use Rattle.std.proofs.Common.{◌≡◌, ℕ, List, None, Some}
use Rattle.mg_base.specs.Disk.{Meaning}
use Rattle.mg_base.specs.Image.{Image}
use Rattle.mg_base.specs.declared.numbers.RecId.{RecId}
use Rattle.mg_base.specs.declared.transaction.TxState.{TxState}
use Rattle.mg_heap.specs.Stands.{TablesAreWalked, WalksMeetNoDamage}
use Rattle.mg_image.specs.RecordRules.{Facts, table_in}
use Rattle.mg_image.specs.Records.{Reading}
use Rattle.mg_image.specs.Tables.{Stand}
use Rattle.mg_model.specs.declared.table.Table.{Table}
use Rattle.mg_pool.specs.Pool.{shown}
use Rattle.mg_pool.specs.declared.pool.Pool.{Pool}
use Rattle.mg_rle.specs.Runs.{BreaksAt, StandsFor}
use Rattle.mg_row_writes.specs.Finding.{row_unread, row_unspoken, way_unread, way_unspoken}
use Rattle.mg_seek.specs.Readings.{PlacesOfReadings}
use Rattle.mg_seek.specs.Speaking.{IsSpeaker}
use Rattle.mg_seek.specs.Versions.{wants}
use Rattle.mg_seek.specs.declared.whose.Wanted.TheVariants.{Living, SeenBy}
use Rattle.mg_snap.specs.Live.{State}
use Rattle.mg_space.specs.declared.links.FireLinks.{FireLinks}
use Rattle.mg_value.specs.declared.value.Value.{Value}
use Rattle.mg_no_damage_laws.specs.Keys.{KeysAreRead, ObstaclesAreRead, SpeakersAreRead, WaysAreRead}
use Rattle.mg_no_damage_laws.specs.Sees.{no_batch}
use Rattle.mg_no_damage_laws.specs.Tables.{SeesTable}
use Rattle.mg_no_damage_laws.proofs.ChainLemmas.{chain_whole}
use Rattle.mg_no_damage_laws.proofs.RowLemmas.{row_read}
use Rattle.mg_no_damage_laws.proofs.TableLemmas.{among_listed, tables_are_read}

module _ {D : Type 0} (m : Meaning D) (walks : WalksMeetNoDamage m) (tables : TablesAreWalked)
    (places : PlacesOfReadings)
    (one_plain : (packed first second : List ℕ) → StandsFor packed first → StandsFor packed second
    → first ≡ second)
    (accepted : (packed plain : List ℕ) (at : ℕ) → StandsFor packed plain → BreaksAt packed at → ⊥) where
  module _ (store : Pool D FireLinks) (image : Image) (f : Facts) (r : Reading) (stand : Stand)
      (table : Table) (it : SeesTable m store image no_batch f r stand table) (state : ℕ → TxState) (live : State) (key : Value) where
    -- a record that speaks for a key is the table's
    its_record : (rec : RecId) → IsSpeaker state live (shown store.dirty image) table key (Some rec)
        → table_in f rec ≡ Some stand.table
    its_record rec spoken = it.stands.its rec.page.0 (among_listed m walks tables store image no_batch f r stand table it
        spoken.records spoken.of_table rec spoken.speaks.0)

  pub ways_are_read : WaysAreRead m
  ways_are_read store image f r stand table it state live key None spoken damage refused = refused
  ways_are_read store image f r stand table it state live key (Some rec) spoken damage refused =
      chain_whole m walks store image no_batch f r it.sees rec stand.table
      (its_record store image f r stand table it state live key rec spoken) damage refused

  pub speakers_are_read : SpeakersAreRead m
  speakers_are_read store image f r stand table it state live key None spoken takes damage refused = refused
  speakers_are_read store image f r stand table it state live key (Some rec) spoken takes damage refused =
      row_read one_plain accepted m walks places store image no_batch f r it.sees takes rec
      stand.table table (its_record store image f r stand table it state live key rec spoken)
      it.stands.same.shape damage refused

  pub obstacles_are_read : ObstaclesAreRead m
  obstacles_are_read store image f r stand table it state live key damage (way_unspoken refused) =
      tables_are_read m walks tables places one_plain accepted store image no_batch f r stand table it
      (wants state live Living) damage refused
  obstacles_are_read store image f r stand table it state live key damage (way_unread rec spoken refused) =
      ways_are_read store image f r stand table it state live key rec spoken damage refused

  pub keys_are_read : KeysAreRead m
  keys_are_read store image f r stand table it state live t key damage (row_unspoken refused) =
      tables_are_read m walks tables places one_plain accepted store image no_batch f r stand table it
      (wants state live Living) damage refused
  keys_are_read store image f r stand table it state live t key damage (row_unread rec spoken refused) =
      speakers_are_read store image f r stand table it state live key rec spoken (wants state live (SeenBy t)) damage refused
