use Rattle.mg_engine_change_laws.specs.backs.BacksLaws.{backs_are_given_up, backs_go_on}
use Rattle.mg_engine_change_laws.proofs.takings.undoing.engines_take_back.Goals as goal

pub returns-clause-back : goal.returns-clause-back
returns-clause-back g c = backs_go_on g.row.D.Denot g.row.L.Denot g.D.Disk.meaning c.keys_are_taken.ensures.since
    c.keys_are_taken.ensures.keys c.changes_are_taken_back.ensures.begin
    c.pages_show_what_is_taken_back.ensures.first c.keys_go_on.ensures c.histories_go_on.ensures.begins
    c.tables_are_found_back.ensures c.backs_follow.ensures c.engines_go_back.ensures

pub returns-clause-given_up : goal.returns-clause-given_up
returns-clause-given_up g c = backs_are_given_up g.row.D.Denot g.row.L.Denot g.D.Disk.meaning
    c.keys_are_taken.ensures.since c.changes_are_taken_back.ensures.begin
    c.pages_show_what_is_taken_back.ensures.first c.keys_go_on.ensures c.histories_go_on.ensures.begins
    c.engines_give_up.ensures
