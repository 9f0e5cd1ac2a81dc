use Rattle.mg_engine_change_laws.specs.entries.BackEntryLaws.{keys_enter_midway}
use Rattle.mg_engine_change_laws.proofs.takings.takings.keys_enter_midway.Goals as goal

pub returns : goal.returns
returns g c = keys_enter_midway g.D.Disk.meaning g.met.D.Disk.holds c.one_reading.ensures.packed_rows
    c.sound_images_stand_one_way.ensures c.batches_last.ensures.reads c.entries_stay_midway.ensures
    c.its_records_are_found.ensures.found c.its_tables_may_be_written.ensures
