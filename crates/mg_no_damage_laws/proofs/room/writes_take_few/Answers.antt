use Rattle.mg_no_damage_laws.specs.WriteRoom.{writes_take_few}
use Rattle.mg_no_damage_laws.proofs.room.writes_take_few.Goals as goal

pub returns : goal.returns
returns g c = writes_take_few g.D.Disk.meaning c.room_is_known.ensures (record {
  works_stay = c.noted_tables_are_quiet.ensures.works;
  kept = c.noted_tables_are_quiet.ensures.kept;
  notes_stay = c.noted_tables_are_quiet.ensures.stands;
  batches = record {
    ready_stays = c.first_batches_stay.ensures.reads;
    entries_stay = c.first_batches_stay.ensures.entries;
    places_stay = c.first_batches_stay.ensures.places;
    deads_stay = c.first_batches_stay.ensures.deads;
    counts_now = g.met.D.Disk.counts_now;
  };
})
