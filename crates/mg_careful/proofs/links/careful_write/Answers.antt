use Rattle.mg_careful.proofs.CarefulWriteLemmas.{law}
use Rattle.mg_careful.proofs.CarefulStepLemmas.{stays_careful, batch_stays_careful}
use Rattle.mg_careful.proofs.ListedLemmas.{lists_are_sets}
use Rattle.mg_careful.proofs.links.careful_write.Goals as goal

pub returns-clause-overlays : goal.returns-clause-overlays
returns-clause-overlays g c = law g.L.Links.demands_of g.L.Links.meets_of

pub returns-clause-writes : goal.returns-clause-writes
returns-clause-writes g c = stays_careful g.L.Links.demands_of g.L.Links.meets_of

pub returns-clause-batch : goal.returns-clause-batch
returns-clause-batch g c = batch_stays_careful g.L.Links.demands_of g.L.Links.meets_of

pub returns-clause-lists : goal.returns-clause-lists
returns-clause-lists g c = lists_are_sets
