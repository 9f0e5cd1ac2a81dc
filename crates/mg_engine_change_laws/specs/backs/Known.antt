-- The laws on which a transaction that is taken back stands.
use Rattle.mg_base.specs.Disk.{Meaning}
use Rattle.mg_engine_meaning_laws.specs.Ends.{RollbacksGo}
use Rattle.mg_engine_step_laws.specs.standing.Following.{StandsOn}
use Rattle.mg_engine_step_laws.specs.commits.Idle.{IdleGoesOn}
use Rattle.mg_engine_step_laws.specs.commits.ListShows.{ListsStay}
use Rattle.mg_engine_step_laws.specs.reads.Alike.{OthersTakeAlike}
use Rattle.mg_engine_change_laws.specs.backs.EngineBacks.{EnginesGoBackTo, OthersWalkOnBack}
use Rattle.mg_engine_change_laws.specs.backs.Given.{UndoListsGiveKeys}
use Rattle.mg_engine_change_laws.specs.keys.Keys.{CoresEnterSome, CoresTakeAll}
use Rattle.mg_engine_change_laws.specs.keys.BackLists.{KeysKeepLists}
use Rattle.mg_engine_change_laws.specs.keys.BackPages.{KeysKeepPages}
use Rattle.mg_engine_change_laws.specs.given_up.BackStops.{StopsAreGivenUp, WritesFailMidway}
use Rattle.mg_engine_change_laws.specs.keys.BackWalks.{GivenUpWalksGoOn}
use Rattle.mg_engine_change_laws.specs.backs.ToTake.{KeysAreTaken, SinceAreTaken}
use Rattle.mg_engine_step_laws.specs.backs.Midway.{MidwaysBegin}
use Rattle.mg_engine_step_laws.specs.backs.Shown.{ShowsFirst}
use Rattle.mg_engine_step_laws.specs.commits.Unasked.{UnaskingLasts}
use Rattle.mg_image.specs.Form.{packed_coding, packed_form}
use Rattle.mg_lasting_laws.specs.Changing.{QuietHolds}
use Rattle.mg_lasting_laws.specs.PoolLaws.{HoldsOne}
use Rattle.mg_model.specs.Laws.{OpeningsBegin}
use Rattle.mg_space.specs.ViewLaws.{CountsNow}
use Rattle.mg_space.specs.declared.links.FireLinks.{FireLinks}
use Rattle.mg_image.specs.ReadingLaws.{RowsAreOne}
use Rattle.mg_image_overlay_laws.specs.tables.OneLayout.{StandsOneWay}
use Rattle.mg_taking_back.specs.Taking.{ComesToEnd, GivesOn}
use Rattle.mg_undo.specs.Machine.{GivesWhatWas, NotesDeeds}

-- What is known where a transaction is taken back.
pub record KnownOfBacks (D P : Type 0) (m : Meaning D) : Type 0 where
  pub counts_now : CountsNow m
  pub holds : HoldsOne D m
  pub openings : OpeningsBegin
  pub unask : UnaskingLasts packed_form D FireLinks m
  pub lists : ListsStay
  pub notes : NotesDeeds
  pub gives_on : GivesOn
  pub to_end : ComesToEnd
  pub keys : KeysAreTaken
  pub what_was : GivesWhatWas
  pub since : SinceAreTaken
  pub begin : MidwaysBegin packed_form D FireLinks m
  pub first_shows : ShowsFirst packed_form
  pub undo_gives : UndoListsGiveKeys
  pub takes_all : CoresTakeAll D m
  pub enters : CoresEnterSome D m
  pub keep_lists : KeysKeepLists D FireLinks m
  pub keep_pages : KeysKeepPages D FireLinks m
  pub given_up : StopsAreGivenUp D FireLinks m
  pub failed : WritesFailMidway D FireLinks m
  pub walks : GivenUpWalksGoOn
  pub rows_one : RowsAreOne packed_coding
  pub one_way : StandsOneWay packed_form
  pub take : OthersTakeAlike
  pub on : StandsOn packed_form
  pub quiet : QuietHolds packed_form
  pub idle_goes : IdleGoesOn D FireLinks m packed_form
  pub rolls : RollbacksGo D P m
  pub goes_back : EnginesGoBackTo D m
  pub walk_back : OthersWalkOnBack D m
