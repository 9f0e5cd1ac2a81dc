use Rattle.mg_engine_change_laws.specs.rows.LaidLaws.{pushed, replaced}
use Rattle.mg_engine_change_laws.specs.rows.WriteWays.{ready_of}
use Rattle.mg_engine_change_laws.proofs.row_writes.writes.rows_go_on.Goals as goal

pub returns-clause-pushed : goal.returns-clause-pushed
returns-clause-pushed g c = λ places old new t table write rec o h core given noted fits written way stands.
    pushed c.keys_are_answered.ensures.speakers c.keys_are_answered.ensures.obstacles c.keys_are_answered.ensures.rows
    c.keys_are_answered.ensures.nothing c.histories_go_on.ensures.begins c.verdicts_are_the_machines.ensures
    c.notes_follow_the_machine.ensures.none c.befores_are_told.ensures c.made_writes_follow.ensures
    c.seen_may_be_written.ensures c.stored_rows_are_coded.ensures c.lists_go_on.ensures.stay
    c.one_reading.ensures.packed_rows c.tips_stay.ensures.on c.tips_stay.ensures.behind c.writes_keep_plain.ensures
    c.ways_are_free.ensures (record {
      one_way = c.sound_images_stand_one_way.ensures;
      walked = c.tables_of_layouts_are_walked.ensures;
      speakers = c.records_are_those_of_every_reading.ensures.speakers;
    }) g.D.Disk.meaning places g.met.D.Disk.counts_now g.met.D.Disk.holds
    c.unasking_lasts.ensures c.batches_last.ensures.reads c.writes_go_on.ensures c.pushes_go_on.ensures
    c.replacements_go_on.ensures old t table write core given noted fits o h written.puts.read written.puts.before
    written.puts.version (ready_of g.D.Disk.meaning old new t table write written) stands c.entries_stay.ensures
    new written.puts.laid written.puts.noted rec way

pub returns-clause-replaced : goal.returns-clause-replaced
returns-clause-replaced g c = λ places old new t table write rec o h core given noted fits written way stands.
    replaced c.keys_are_answered.ensures.speakers c.keys_are_answered.ensures.obstacles c.keys_are_answered.ensures.rows
    c.keys_are_answered.ensures.nothing c.histories_go_on.ensures.begins c.verdicts_are_the_machines.ensures
    c.notes_follow_the_machine.ensures.none c.befores_are_told.ensures c.made_writes_follow.ensures
    c.seen_may_be_written.ensures c.stored_rows_are_coded.ensures c.lists_go_on.ensures.stay
    c.one_reading.ensures.packed_rows c.tips_stay.ensures.on c.tips_stay.ensures.behind c.writes_keep_plain.ensures
    c.ways_are_free.ensures (record {
      one_way = c.sound_images_stand_one_way.ensures;
      walked = c.tables_of_layouts_are_walked.ensures;
      speakers = c.records_are_those_of_every_reading.ensures.speakers;
    }) g.D.Disk.meaning places g.met.D.Disk.counts_now g.met.D.Disk.holds
    c.unasking_lasts.ensures c.batches_last.ensures.reads c.writes_go_on.ensures c.pushes_go_on.ensures
    c.replacements_go_on.ensures old t table write core given noted fits o h written.puts.read written.puts.before
    written.puts.version (ready_of g.D.Disk.meaning old new t table write written) stands c.entries_stay.ensures
    new written.puts.laid written.puts.noted rec way
