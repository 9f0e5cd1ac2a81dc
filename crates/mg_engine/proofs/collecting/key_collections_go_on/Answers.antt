use Rattle.mg_engine.proofs.KeyCollectLemmas.{key_collections_go_on}
use Rattle.mg_engine.proofs.collecting.key_collections_go_on.Goals as goal

pub returns : goal.returns
returns g c = key_collections_go_on g.D.Disk.meaning (record {
  keys = c.keys_go_on.ensures;
  nobodys = c.collections_are_nobodys.ensures;
  leave = c.collections_leave.ensures;
  tell = c.collections_tell_faults.ensures;
  none = c.collections_take_none.ensures;
  meet = c.collections_meet_no_damage.ensures.damage;
  miss = c.collections_meet_no_damage.ensures.pages;
  walked = c.tables_of_layouts_are_walked.ensures;
  speaks = c.records_are_those_of_every_reading.ensures.speakers;
})
