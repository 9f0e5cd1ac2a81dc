use Rattle.mg_engine_change_laws.specs.keys.KeyLaws.{cores_take_keys}
use Rattle.mg_engine_change_laws.proofs.takings.takings.cores_take_keys.Goals as goal

pub returns : goal.returns
returns g c = cores_take_keys g.D.Disk.meaning g.met.D.Disk.holds c.one_reading.ensures.packed_rows
    c.sound_images_stand_one_way.ensures c.batches_last.ensures.reads c.entries_stay_midway.ensures
    c.stored_rows_are_coded.ensures c.its_records_are_found.ensures.found c.its_tables_may_be_written.ensures
    c.kept_tables_stand.ensures.named c.key_steps_are_taken.ensures
