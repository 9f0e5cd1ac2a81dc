use Rattle.mg_no_damage_laws.proofs.room.counts_are_known.Goals as goal

pub returns : goal.returns
returns c = record {
  notes = c.the_list_follows_the_machine.ensures.kept;
  what_was = c.what_was_is_given.ensures;
  keys = c.keys_are_taken.ensures.keys;
  gives_on = c.steps_come_to_an_end.ensures.go;
  to_end = c.steps_come_to_an_end.ensures.end;
}
