use Rattle.mg_no_damage_laws.proofs.CallLemmas.{versions_are_pushed, versions_are_replaced, versions_are_taken_out}
use Rattle.mg_no_damage_laws.proofs.writes.records_change.Goals as goal

pub returns-clause-pushed : goal.returns-clause-pushed
returns-clause-pushed g c = versions_are_pushed g.D.Disk.meaning (record {
  there = c.stands_are_read.ensures.there;
  walked = c.stands_are_read.ensures.walked;
  reached = c.stands_are_read.ensures.reached;
  lasts = c.stands_are_read.ensures.lasts;
  taken = c.pages_are_taken.ensures.taken;
  kept = c.pages_are_taken.ensures.kept;
  one = c.one_reading.ensures.packed_rows;
})

pub returns-clause-replaced : goal.returns-clause-replaced
returns-clause-replaced g c = versions_are_replaced g.D.Disk.meaning (record {
  there = c.stands_are_read.ensures.there;
  walked = c.stands_are_read.ensures.walked;
  reached = c.stands_are_read.ensures.reached;
  lasts = c.stands_are_read.ensures.lasts;
  taken = c.pages_are_taken.ensures.taken;
  kept = c.pages_are_taken.ensures.kept;
  one = c.one_reading.ensures.packed_rows;
}) c.lawful_records_are_read.ensures.versions
    c.sound_images_are_lawful.ensures.records

pub returns-clause-out : goal.returns-clause-out
returns-clause-out g c = versions_are_taken_out g.D.Disk.meaning (record {
  there = c.stands_are_read.ensures.there;
  walked = c.stands_are_read.ensures.walked;
  reached = c.stands_are_read.ensures.reached;
  lasts = c.stands_are_read.ensures.lasts;
  taken = c.pages_are_taken.ensures.taken;
  kept = c.pages_are_taken.ensures.kept;
  one = c.one_reading.ensures.packed_rows;
}) c.lawful_records_are_read.ensures.versions
    c.sound_images_are_lawful.ensures.records
