use Rattle.mg_image.specs.Form.{packed_form}
use Rattle.mg_noted_laws.specs.EndedLaws.{chosen_has}
use Rattle.mg_noted_laws.specs.WrittenLaws.{written_has}
use Rattle.mg_noted_laws.proofs.laws.directories_stay_complete.Goals as goal

pub returns-clause-writes : goal.returns-clause-writes
returns-clause-writes c = λ size o h e s new pages later shows t name key row p n older table states_same same_or written.
    written_has packed_form c.sound_images_stand_one_way.ensures size o h e s new pages later shows t name key row p n
    older table states_same same_or written

pub returns-clause-ends : goal.returns-clause-ends
returns-clause-ends c = λ size state pages a r first chosen b s second still.
    chosen_has packed_form c.one_reading.ensures.packed_rows c.sound_images_stand_one_way.ensures size state pages a r
    first chosen b s second still
