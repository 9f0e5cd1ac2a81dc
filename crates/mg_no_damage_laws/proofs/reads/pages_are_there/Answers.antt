use Rattle.mg_no_damage_laws.proofs.PageLemmas.{page_there}
use Rattle.mg_no_damage_laws.proofs.reads.pages_are_there.Goals as goal

pub returns : goal.returns
returns g c = page_there g.D.Disk.meaning c.walks_of_layouts_meet_no_damage.ensures
