use Rattle.mg_pool.proofs.LawLemmas.{starts_careful, safe, writes_stay_careful, changes_stay_careful, quiet}
use Rattle.mg_pool.proofs.CauseLemmas.{writes_for_cause}
use Rattle.mg_pool.proofs.RunLemmas.{run_then}
use Rattle.mg_pool.proofs.law.stays_careful.Goals as goal

pub returns-clause-starts : goal.returns-clause-starts
returns-clause-starts g c = starts_careful g.row.D.Denot g.row.L.Denot g.L.Links.demands_of g.L.Links.meets_of

pub returns-clause-safe : goal.returns-clause-safe
returns-clause-safe g c = safe g.row.D.Denot g.row.L.Denot g.D.Disk.meaning g.L.Links.demands_of g.L.Links.meets_of c.careful_write.ensures.overlays

pub returns-clause-writes : goal.returns-clause-writes
returns-clause-writes g c = writes_stay_careful g.row.D.Denot g.row.L.Denot g.D.Disk.meaning g.L.Links.demands_of g.L.Links.meets_of c.careful_write.ensures.writes

pub returns-clause-batch : goal.returns-clause-batch
returns-clause-batch g c = changes_stay_careful g.row.D.Denot g.row.L.Denot g.D.Disk.meaning g.L.Links.demands_of g.L.Links.meets_of c.careful_write.ensures.batch

pub returns-clause-causes : goal.returns-clause-causes
returns-clause-causes g c = writes_for_cause g.row.D.Denot g.row.L.Denot g.D.Disk.meaning g.met.D.Disk.holds g.met.D.Disk.counts_now

pub returns-clause-joins : goal.returns-clause-joins
returns-clause-joins g c = λ one two three first next. run_then g.D.Disk.meaning g.met.D.Disk.holds g.met.D.Disk.counts_now one two three first next

pub returns-clause-quiet : goal.returns-clause-quiet
returns-clause-quiet g c = quiet g.row.D.Denot g.row.L.Denot g.D.Disk.meaning
