use Rattle.mg_engine_meaning_laws.specs.NextPageLaws.{next_goes}
use Rattle.mg_engine_meaning_laws.proofs.calls.next_pages_go_on.Goals as goal

pub returns : goal.returns
returns g c = λ places old new result core wrote. next_goes g.D.Disk.meaning places g.met.D.Disk.holds
    c.page_writes_go_on.ensures.writes c.page_writes_go_on.ensures.failed old new core result wrote
