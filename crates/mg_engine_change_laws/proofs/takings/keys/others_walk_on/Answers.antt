use Rattle.mg_engine_change_laws.specs.keys.BackWalksLaws.{back_walks_go_on, given_up_walks_go_on}
use Rattle.mg_engine_change_laws.proofs.takings.keys.others_walk_on.Goals as goal

pub returns-clause-back : goal.returns-clause-back
returns-clause-back c = back_walks_go_on c.sound_images_stand_one_way.ensures c.row_walks_go_on.ensures

pub returns-clause-given_up : goal.returns-clause-given_up
returns-clause-given_up c = given_up_walks_go_on c.one_reading.ensures.packed_rows c.sound_images_stand_one_way.ensures
    c.row_walks_go_on.ensures
