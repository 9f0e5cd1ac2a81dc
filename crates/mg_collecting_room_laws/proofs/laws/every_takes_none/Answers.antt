use Rattle.mg_free_page_laws.specs.BatchLawsHold.{batch_laws}
use Rattle.mg_collecting_room_laws.specs.EveryRoom.{every_takes_none}
use Rattle.mg_collecting_room_laws.proofs.laws.every_takes_none.Goals as goal

pub returns : goal.returns
returns g c = every_takes_none g.row.D.Denot g.D.Disk.meaning g.met.D.Disk.holds
    (batch_laws g.D.Disk.meaning c.pages_are_taken.ensures.kept)
