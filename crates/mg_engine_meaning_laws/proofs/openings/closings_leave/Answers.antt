use Rattle.mg_engine_meaning_laws.specs.ClosingLaws.{closes_engine}
use Rattle.mg_engine_meaning_laws.proofs.openings.closings_leave.Goals as goal

pub returns : goal.returns
returns g c = λ old disk result core closes. closes_engine g.D.Disk.meaning g.met.D.Disk.counts_now
    g.met.D.Disk.holds c.pools_last.ensures.writes c.pools_last.ensures.leaves c.histories_go_on.ensures.begins old core
    disk result closes
