use Rattle.mg_heap.proofs.GrowthLemmas.{has_room}
use Rattle.mg_heap.proofs.growth.has_entry_room.Goals as goal

pub returns : goal.returns
returns c = has_room c.args.b.now c.get_u16.result c.get_u16.ensures
