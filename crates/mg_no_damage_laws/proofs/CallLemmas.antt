-- Rows are changed without damage: a batch is filled, and it is lawful.
use Rattle.std.proofs.Common.{ℕ, refl}
use Rattle.mg_base.specs.Disk.{Meaning}
use Rattle.mg_base.specs.Image.{Image}
use Rattle.mg_base.specs.declared.transaction.TxState.{TxState}
use Rattle.mg_tie_laws.specs.Rows.{table_of_page}
use Rattle.mg_image.specs.Records.{Reading}
use Rattle.mg_image.specs.Tables.{Layout}
use Rattle.mg_no_damage_laws.specs.Records.{VersionsAreThere}
use Rattle.mg_no_damage_laws.specs.Sees.{no_batch}
use Rattle.mg_no_damage_laws.specs.Sound.{SoundRecordsAreLawful}
use Rattle.mg_pool.specs.declared.pool.Pool.{Pool}
use Rattle.mg_space.specs.View.{KeepsStore}
use Rattle.mg_space.specs.ViewLaws.{tells_on}
use Rattle.mg_space.specs.declared.links.FireLinks.{FireLinks}
use Rattle.mg_no_damage_laws.specs.Batches.{PlacesAreTaken, PlacesHaveRoom, RecordsAreMade, ShowsSound, VersionsArePushed, VersionsAreReplaced, VersionsAreTakenOut}
use Rattle.mg_no_damage_laws.specs.Writes.{SeesSound}
use Rattle.mg_no_damage_laws.specs.OwnLaws.{own}
use Rattle.mg_no_damage_laws.proofs.WriteBackLemmas.{outs, replacements}
use Rattle.mg_no_damage_laws.specs.FirstLaws.{record_made, spot_room}
use Rattle.mg_no_damage_laws.specs.LaidLaws.{push_lawful, record_lawful, replace_lawful, spot_lawful, takes_out_lawful}
use Rattle.mg_no_damage_laws.specs.PushLaws.{pushed}
use Rattle.mg_no_damage_laws.specs.Reading.{Reads}
use Rattle.mg_no_damage_laws.specs.RoomLaws.{spot_given}

module _ {D : Type 0} (m : Meaning D) (laws : Reads m) where
  -- a call that was refused, and has only read, began over what the cache shows
  began : (before after : Pool D FireLinks) (image : Image) {state : ℕ → TxState} {layout : Layout} {r : Reading}
      → ShowsSound m before image state layout r → KeepsStore m before after
      → SeesSound m before after image state layout r
  began before after image shows keeps = record {
    tells = shows.tells;
    keeps = keeps;
    geometry = shows.geometry;
    sound = shows.sound;
  }

  pub places_are_taken : PlacesAreTaken m
  places_are_taken before after image state layout r shows table its it fails = own m before after _ _ it image
      shows.tells (λ keeps refused. spot_given m laws before after image keeps.dirty
      (tells_on m before after image keeps shows.tells) shows.geometry no_batch state layout r shows.sound table its it
      refused) (λ batch filled. spot_lawful m laws before image shows.tells shows.geometry state layout r shows.sound
      table its batch filled.0 filled.1) fails

  pub places_have_room : PlacesHaveRoom m
  places_have_room store image state layout r shows table its batch at spot = spot_room m laws store store image refl
      shows.tells shows.geometry no_batch state layout r shows.sound table its batch at spot

  pub records_are_made : RecordsAreMade m
  records_are_made before after image state layout r shows table its rec of place v short it fails =
      own m before after _ _ it image shows.tells (λ keeps refused. record_made m laws before after image keeps.dirty
      (tells_on m before after image keeps shows.tells) shows.geometry no_batch state layout r shows.sound table its
      rec of place v short it refused) (λ batch filled. record_lawful m laws before image shows.tells shows.geometry
      state layout r shows.sound table its batch rec v of filled) fails

  pub versions_are_pushed : VersionsArePushed m
  versions_are_pushed before after image state layout r shows rec table its v short it fails =
      own m before after _ _ it image shows.tells (λ keeps refused. pushed m laws image state layout r before after
      (began before after image shows keeps) rec table its v short it refused) (λ batch filled. push_lawful m laws before
      image shows.tells shows.geometry state layout r shows.sound table (table_of_page layout rec.page.0 table its.of)
      rec its batch v filled) fails

  module _ (versions : VersionsAreThere m) (lawful_of : SoundRecordsAreLawful) where
    pub versions_are_replaced : VersionsAreReplaced m
    versions_are_replaced before after image state layout r shows rec table its v own_ short it fails =
        own m before after _ _ it image shows.tells (λ keeps refused. replacements m laws versions lawful_of image state
        layout r before after (began before after image shows keeps) rec table its v own_ short it refused)
        (λ batch filled. replace_lawful m laws before image shows.tells shows.geometry state layout r shows.sound table
        (table_of_page layout rec.page.0 table its.of) rec its batch v filled) fails

    pub versions_are_taken_out : VersionsAreTakenOut m
    versions_are_taken_out before after image state layout r shows rec table its it fails =
        own m before after _ _ it image shows.tells (λ keeps refused. outs m laws versions lawful_of image state layout r
        before after (began before after image shows keeps) rec table its it refused)
        (λ batch filled. takes_out_lawful m laws before image shows.tells shows.geometry state layout r shows.sound table
        (table_of_page layout rec.page.0 table its.of) rec its batch filled) fails
