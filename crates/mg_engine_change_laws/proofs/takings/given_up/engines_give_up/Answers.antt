use Rattle.mg_engine_change_laws.specs.given_up.EngineGivenUp.{engines_give_up}
use Rattle.mg_engine_change_laws.proofs.takings.given_up.engines_give_up.Goals as goal

pub returns : goal.returns
returns g c = engines_give_up g.row.D.Denot g.row.L.Denot g.D.Disk.meaning c.given_up_is_shown.ensures.pages
    c.histories_go_on.ensures.begins c.standings_go_on.ensures c.batches_last.ensures.pool
    c.changes_are_taken_back.ensures.given_up c.page_writes_go_on.ensures.otherwise
