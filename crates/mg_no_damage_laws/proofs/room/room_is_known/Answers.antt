use Rattle.mg_free_page_laws.specs.BatchLawsHold.{batch_laws}
use Rattle.mg_no_damage_laws.proofs.room.room_is_known.Goals as goal

pub returns : goal.returns
returns g c = record {
  holds = g.met.D.Disk.holds;
  batches = batch_laws g.D.Disk.meaning c.pages_are_taken.ensures.kept;
  counts_now = g.met.D.Disk.counts_now;
  eighteen = c.insertions_take_few.ensures.eighteen c.pages_are_taken.ensures.kept;
  there = c.insertions_meet_none.ensures.there c.pages_are_taken.ensures.kept;
}
