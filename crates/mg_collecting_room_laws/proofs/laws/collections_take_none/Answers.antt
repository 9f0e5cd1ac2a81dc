use Rattle.mg_free_page_laws.specs.BatchLawsHold.{batch_laws}
use Rattle.mg_collecting_room_laws.specs.Room.{collections_take_none}
use Rattle.mg_collecting_room_laws.proofs.laws.collections_take_none.Goals as goal

pub returns : goal.returns
returns g c = collections_take_none g.row.D.Denot g.D.Disk.meaning g.met.D.Disk.holds
    (batch_laws g.D.Disk.meaning c.pages_are_taken.ensures.kept)
