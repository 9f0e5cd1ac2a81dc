use Rattle.mg_heap.proofs.StandLemmas.{meets_no_damage}
use Rattle.mg_heap.proofs.laws.walks_of_layouts_meet_no_damage.Goals as goal

pub returns : goal.returns
returns g c = meets_no_damage g.D.Disk.meaning g.met.D.Disk.counted
