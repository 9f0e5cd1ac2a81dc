use Rattle.mg_slots.specs.Room.{need_of, room_of}
use Rattle.mg_heap.proofs.AddingLemmas.{room_told}
use Rattle.mg_heap.proofs.adding.put_least.Goals as goal

pub returns-in-Err-clause-damage : goal.returns-in-Err-clause-damage
returns-in-Err-clause-damage c = room_told c.args.page (need_of c.args.cell.now) (room_of c.args.b.now)
    c.in-Err.lack c.no_room.result c.no_room.ensures c.in-Err.ensures.no_room
