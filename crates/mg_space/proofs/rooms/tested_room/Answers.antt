use Rattle.std.proofs.Common.{subst, sym}
use Rattle.mg_slots.specs.DataPage.{IsDataPage}
use Rattle.mg_space.proofs.RoomsLemmas.{tested_data}
use Rattle.mg_space.proofs.rooms.tested_room.Goals as goal

pub room-requires : goal.room-requires
room-requires c = subst IsDataPage (sym c.as_slice.ensures)
    (tested_data c.args.page.0 c.args.content.now c.passes.result c.if-passes.true c.passes.ensures)
