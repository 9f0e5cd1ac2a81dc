-- The laws that a write asks for.
use Rattle.mg_no_damage_laws.specs.Inventory.{PagesAreTaken}
use Rattle.mg_entry_tie_laws.specs.Laws.{InsertionsAreLawful, InsertionsMeetNone}
use Rattle.mg_engine_change_laws.specs.rows.Starts.{EntriesEnter, RowsEnter, StartsStand}
use Rattle.mg_core.specs.declared.scanning.Place.{Place}
use Rattle.mg_engine_change_laws.specs.memory.Directories.{DirectoriesTell}
use Rattle.mg_base.specs.Disk.{Meaning}
use Rattle.mg_engine_step_laws.specs.reads.AnswersLaws.{NothingAtKeys, ObstaclesAtKeys, RowsAtKeys, SpeakersAreTold}
use Rattle.mg_engine_step_laws.specs.commits.ListShows.{ListsStay}
use Rattle.mg_engine_step_laws.specs.commits.Unasked.{UnaskingLasts}
use Rattle.mg_engine_change_laws.specs.rows.Befores.{BeforesAreTold}
use Rattle.mg_engine_change_laws.specs.rows.Codes.{StoredRowsAreCoded}
use Rattle.mg_engine_change_laws.specs.rows.Kept.{MadeWritesFollow}
use Rattle.mg_engine_change_laws.specs.rows.Owners.{SeenMayBeWritten}
use Rattle.mg_image.specs.Form.{packed_form}
use Rattle.mg_model.specs.Laws.{OpeningsBegin}
use Rattle.mg_no_damage_laws.specs.Sound.{SoundRecordsAreLawful, SoundTablesStand}
use Rattle.mg_no_damage_laws.specs.Batches.{PlacesAreTaken, PlacesHaveRoom, RecordsAreMade, VersionsArePushed, VersionsAreReplaced, VersionsAreTakenOut}
use Rattle.mg_seek.specs.Readings.{PlacesOfReadings}
use Rattle.mg_space.specs.ViewLaws.{CountsNow}
use Rattle.mg_space.specs.declared.links.FireLinks.{FireLinks}
use Rattle.mg_waits.specs.Machine.{NobodyWaits, VerdictsAreTheMachines}

-- What is known of engines that stand for a history, of their caches and batches.
pub record WriteParts {D : Type 0} (m : Meaning D) : Type 0 where
  pub speakers : SpeakersAreTold
  pub obstacles : ObstaclesAtKeys
  pub rows : RowsAtKeys
  pub nothing : NothingAtKeys
  pub begin : OpeningsBegin
  pub verdicts : VerdictsAreTheMachines
  pub nobody : NobodyWaits
  pub befores : BeforesAreTold
  pub follow : MadeWritesFollow
  pub may_write : SeenMayBeWritten
  pub coded : StoredRowsAreCoded
  pub lists : ListsStay
  pub dirs : DirectoriesTell
  pub counts_now : CountsNow m
  pub unask : UnaskingLasts packed_form D FireLinks m
  -- entries
  pub starts : StartsStand D Place m
  pub all : EntriesEnter D Place m
  pub rows_enter : RowsEnter D Place m
  pub entries_lawful : InsertionsAreLawful
  pub entries_none : InsertionsMeetNone
  pub taken : PagesAreTaken
  -- what is read
  pub places_of : PlacesOfReadings
  pub records : SoundRecordsAreLawful
  pub stand : SoundTablesStand
  -- batches
  pub placed : PlacesAreTaken m
  pub room : PlacesHaveRoom m
  pub made : RecordsAreMade m
  pub pushed : VersionsArePushed m
  pub replaced : VersionsAreReplaced m
  pub out : VersionsAreTakenOut m
