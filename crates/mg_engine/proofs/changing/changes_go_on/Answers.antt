use Rattle.mg_engine.proofs.ChangingLemmas.{changes_go_on}
use Rattle.mg_engine.proofs.changing.changes_go_on.Goals as goal

pub returns : goal.returns
returns g c = changes_go_on g.D.Disk.meaning (record {
  reads = c.reads_go_on.ensures;
  notes = c.notes_go_on.ensures;
  noted = c.reads_meet_no_damage.ensures.noted;
  records = c.sound_images_are_lawful.ensures.records;
  stand = c.sound_images_are_lawful.ensures.tables;
  unread = c.unread_writes_give.ensures;
  writes = c.noted_writes_give.ensures.writes;
  fails = c.noted_writes_give.ensures.fails;
  writes_apart = c.noted_writes_keep_apart.ensures.writes;
  fails_apart = c.noted_writes_keep_apart.ensures.fails;
  told = c.changes_tell_faults.ensures.writes;
  whole = c.writes_meet_no_damage.ensures;
  few = c.writes_take_few.ensures;
})
