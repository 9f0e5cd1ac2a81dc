use Rattle.mg_engine_change_laws.specs.given_up.BackStopsLaws.{stops_are_given_up, writes_fail_midway}
use Rattle.mg_engine_change_laws.proofs.takings.keys.stops_go_on.Goals as goal

pub returns-clause-given_up : goal.returns-clause-given_up
returns-clause-given_up g c = stops_are_given_up g.row.D.Denot g.row.L.Denot g.D.Disk.meaning
    c.keys_are_taken.ensures.since c.changes_are_taken_back.ensures.begin
    c.pages_show_what_is_taken_back.ensures.first c.keys_go_on.ensures c.batches_last.ensures.reads
    c.histories_go_on.ensures.begins c.engines_give_up.ensures
    c.changes_are_taken_back.ensures.given_up c.page_writes_go_on.ensures.otherwise

pub returns-clause-failed : goal.returns-clause-failed
returns-clause-failed g c = writes_fail_midway g.row.D.Denot g.row.L.Denot g.D.Disk.meaning
    c.keys_are_taken.ensures.since c.changes_are_taken_back.ensures.begin
    c.pages_show_what_is_taken_back.ensures.first c.keys_go_on.ensures c.batches_last.ensures.reads
    c.histories_go_on.ensures.begins c.pools_last.ensures.leaves c.crashes_hold.ensures.quiet
    c.standings_go_on.ensures
