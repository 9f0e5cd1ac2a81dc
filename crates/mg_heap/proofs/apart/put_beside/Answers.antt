use Rattle.mg_heap.proofs.apart.put_beside.Goals as goal

pub returns-in-Err-clause-no_room : goal.returns-in-Err-clause-no_room
returns-in-Err-clause-no_room c = (c.in-Err.lack, c.in-Err.ensures.no_room, c.no_room.ensures)
