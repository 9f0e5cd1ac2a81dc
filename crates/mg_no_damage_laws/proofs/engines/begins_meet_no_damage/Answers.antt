use Rattle.mg_no_damage_laws.proofs.BeginLemmas.{begins}
use Rattle.mg_no_damage_laws.proofs.engines.begins_meet_no_damage.Goals as goal

pub returns : goal.returns
returns g c = begins g.D.Disk.meaning c.numbers_are_drawn.ensures
