use Rattle.mg_no_damage_laws.proofs.DrawLemmas.{numbers_are_drawn}
use Rattle.mg_no_damage_laws.proofs.writes.numbers_are_drawn.Goals as goal

pub returns : goal.returns
returns g c = numbers_are_drawn g.D.Disk.meaning g.met.D.Disk.counted c.pages_are_taken.ensures.taken
