use Rattle.mg_engine_meaning_laws.specs.AskLaws.{ask_goes}
use Rattle.mg_engine_meaning_laws.specs.StepLaws.{step_goes}
use Rattle.mg_engine_meaning_laws.proofs.page_calls.steps_go_on.Goals as goal

pub returns-clause-asks : goal.returns-clause-asks
returns-clause-asks g c = λ places old new t result apart asks. ask_goes g.D.Disk.meaning places
    c.page_writes_go_on.ensures.asking old new t result apart asks

pub returns-clause-steps : goal.returns-clause-steps
returns-clause-steps g c = λ places old new t result core asked steps. step_goes g.D.Disk.meaning places
    g.met.D.Disk.holds c.page_writes_go_on.ensures.writes c.page_writes_go_on.ensures.failed old new t core asked
    result steps
