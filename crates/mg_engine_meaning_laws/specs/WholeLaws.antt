-- A disk is opened, or not.
use Rattle.std.proofs.Common.{Ok, Err}
use Rattle.mg_base.specs.Disk.{Meaning}
use Rattle.mg_heap.specs.Stands.{WalksMeetNoDamage}
use Rattle.mg_lasting_laws.specs.StartingLaws.{StartsOn}
use Rattle.mg_model.specs.Laws.{OpeningsBegin}
use Rattle.mg_space.specs.ViewLaws.{CountsNow}
use Rattle.mg_space.specs.declared.links.FireLinks.{FireLinks}
use Rattle.mg_engine_step_laws.specs.standing.StartLaws.{StandsFirst}
use Rattle.mg_txlist.specs.Laws.{LoadedSays}
use Rattle.mg_new_database_laws.specs.Readable.{NewAreReadable}
use Rattle.mg_image.specs.Form.{packed_coding, packed_form}
use Rattle.mg_image.specs.ReadingLaws.{RowsAreOne}
use Rattle.mg_engine_step_laws.specs.tables.ChosenTables.{ChosenTablesStand}
use Rattle.mg_engine_meaning_laws.specs.AgreeLaws.{histories_agree}
use Rattle.mg_engine_meaning_laws.specs.CallLaws.{OpeningsStand}
use Rattle.mg_engine_meaning_laws.specs.NewBegins.{NewBegin}
use Rattle.mg_engine_meaning_laws.specs.OpenedLaws.{opened_over}
use Rattle.mg_engine_meaning_laws.specs.RefusalLaws.{AreCounted}
use Rattle.mg_engine_meaning_laws.specs.OpeningsRefusedLaws.{refuses_opening}

pub openings_stand_by : (D : Type 0) (m : Meaning D) → CountsNow m → AreCounted m → WalksMeetNoDamage m → NewAreReadable
    → StandsFirst packed_form → StartsOn D FireLinks m packed_form → LoadedSays → OpeningsBegin → RowsAreOne packed_coding
    → ChosenTablesStand → NewBegin → OpeningsStand D m
openings_stand_by D m counts counted walks new_reads stands_first starts loaded begin one stand new_begins disk limit
    (Ok core) opens =
    opened_over m counts stands_first starts loaded begin (histories_agree one stand) new_begins disk limit core opens
openings_stand_by D m counts counted walks new_reads stands_first starts loaded begin one stand new_begins disk limit
    (Err both) refuses =
    refuses_opening m counts counted walks new_reads disk both.0 limit both.1 refuses
