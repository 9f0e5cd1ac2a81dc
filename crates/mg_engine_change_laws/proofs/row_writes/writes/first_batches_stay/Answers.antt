use Rattle.mg_engine_change_laws.specs.rows.LaidLaws.{all_laid, dead_stays, entries_over, place_stays, read_stays, row_laid, starts_over}
use Rattle.mg_engine_change_laws.proofs.row_writes.writes.first_batches_stay.Goals as goal

pub returns-clause-reads : goal.returns-clause-reads
returns-clause-reads g c = λ places old read t table write before version o h core given noted fits ready
    stands.
    read_stays c.keys_are_answered.ensures.speakers c.keys_are_answered.ensures.obstacles c.keys_are_answered.ensures.rows
    c.keys_are_answered.ensures.nothing c.histories_go_on.ensures.begins c.verdicts_are_the_machines.ensures
    c.notes_follow_the_machine.ensures.none c.befores_are_told.ensures c.made_writes_follow.ensures
    c.seen_may_be_written.ensures c.stored_rows_are_coded.ensures c.lists_go_on.ensures.stay
    c.one_reading.ensures.packed_rows c.tips_stay.ensures.on c.tips_stay.ensures.behind c.writes_keep_plain.ensures
    c.ways_are_free.ensures (record {
      one_way = c.sound_images_stand_one_way.ensures;
      walked = c.tables_of_layouts_are_walked.ensures;
      speakers = c.records_are_those_of_every_reading.ensures.speakers;
    }) g.D.Disk.meaning places g.met.D.Disk.counts_now g.met.D.Disk.holds
    c.unasking_lasts.ensures c.batches_last.ensures.reads c.writes_go_on.ensures c.pushes_go_on.ensures
    c.replacements_go_on.ensures old t table write core given noted fits o h read before version ready stands

pub returns-clause-entries : goal.returns-clause-entries
returns-clause-entries g c = λ places old read t table write before version a b indexes later p row o h core given noted fits
    ready stands over pool up from_old parts laid.
    entries_over c.keys_are_answered.ensures.speakers c.keys_are_answered.ensures.obstacles c.keys_are_answered.ensures.rows
    c.keys_are_answered.ensures.nothing c.histories_go_on.ensures.begins c.verdicts_are_the_machines.ensures
    c.notes_follow_the_machine.ensures.none c.befores_are_told.ensures c.made_writes_follow.ensures
    c.seen_may_be_written.ensures c.stored_rows_are_coded.ensures c.lists_go_on.ensures.stay
    c.one_reading.ensures.packed_rows c.tips_stay.ensures.on c.tips_stay.ensures.behind c.writes_keep_plain.ensures
    c.ways_are_free.ensures (record {
      one_way = c.sound_images_stand_one_way.ensures;
      walked = c.tables_of_layouts_are_walked.ensures;
      speakers = c.records_are_those_of_every_reading.ensures.speakers;
    }) g.D.Disk.meaning places g.met.D.Disk.counts_now g.met.D.Disk.holds
    c.unasking_lasts.ensures c.batches_last.ensures.reads c.writes_go_on.ensures c.pushes_go_on.ensures
    c.replacements_go_on.ensures old t table write core given noted fits o h read before version ready stands
    c.entries_stay.ensures a b over pool up from_old indexes later parts p row laid

pub returns-clause-places : goal.returns-clause-places
returns-clause-places g c = λ places old read t table write before version store at o h core given noted fits ready way
    takes stands.
    place_stays c.keys_are_answered.ensures.speakers c.keys_are_answered.ensures.obstacles c.keys_are_answered.ensures.rows
    c.keys_are_answered.ensures.nothing c.histories_go_on.ensures.begins c.verdicts_are_the_machines.ensures
    c.notes_follow_the_machine.ensures.none c.befores_are_told.ensures c.made_writes_follow.ensures
    c.seen_may_be_written.ensures c.stored_rows_are_coded.ensures c.lists_go_on.ensures.stay
    c.one_reading.ensures.packed_rows c.tips_stay.ensures.on c.tips_stay.ensures.behind c.writes_keep_plain.ensures
    c.ways_are_free.ensures (record {
      one_way = c.sound_images_stand_one_way.ensures;
      walked = c.tables_of_layouts_are_walked.ensures;
      speakers = c.records_are_those_of_every_reading.ensures.speakers;
    }) g.D.Disk.meaning places g.met.D.Disk.counts_now g.met.D.Disk.holds
    c.unasking_lasts.ensures c.batches_last.ensures.reads c.writes_go_on.ensures c.pushes_go_on.ensures
    c.replacements_go_on.ensures old t table write core given noted fits o h read before version ready stands
    c.batches_last.ensures.still way store at takes

pub returns-clause-deads : goal.returns-clause-deads
returns-clause-deads g c = λ places old read t table write before version store rec o h core given noted fits ready way
    takes stands.
    dead_stays c.keys_are_answered.ensures.speakers c.keys_are_answered.ensures.obstacles c.keys_are_answered.ensures.rows
    c.keys_are_answered.ensures.nothing c.histories_go_on.ensures.begins c.verdicts_are_the_machines.ensures
    c.notes_follow_the_machine.ensures.none c.befores_are_told.ensures c.made_writes_follow.ensures
    c.seen_may_be_written.ensures c.stored_rows_are_coded.ensures c.lists_go_on.ensures.stay
    c.one_reading.ensures.packed_rows c.tips_stay.ensures.on c.tips_stay.ensures.behind c.writes_keep_plain.ensures
    c.ways_are_free.ensures (record {
      one_way = c.sound_images_stand_one_way.ensures;
      walked = c.tables_of_layouts_are_walked.ensures;
      speakers = c.records_are_those_of_every_reading.ensures.speakers;
    }) g.D.Disk.meaning places g.met.D.Disk.counts_now g.met.D.Disk.holds
    c.unasking_lasts.ensures c.batches_last.ensures.reads c.writes_go_on.ensures c.pushes_go_on.ensures
    c.replacements_go_on.ensures old t table write core given noted fits o h read before version ready stands
    c.records_are_those_of_every_reading.ensures.speakers c.deads_go.ensures rec way store takes

pub returns-clause-starts : goal.returns-clause-starts
returns-clause-starts g c = λ places old read t table write before version o h core given noted fits ready
    stands.
    starts_over c.keys_are_answered.ensures.speakers c.keys_are_answered.ensures.obstacles c.keys_are_answered.ensures.rows
    c.keys_are_answered.ensures.nothing c.histories_go_on.ensures.begins c.verdicts_are_the_machines.ensures
    c.notes_follow_the_machine.ensures.none c.befores_are_told.ensures c.made_writes_follow.ensures
    c.seen_may_be_written.ensures c.stored_rows_are_coded.ensures c.lists_go_on.ensures.stay
    c.one_reading.ensures.packed_rows c.tips_stay.ensures.on c.tips_stay.ensures.behind c.writes_keep_plain.ensures
    c.ways_are_free.ensures (record {
      one_way = c.sound_images_stand_one_way.ensures;
      walked = c.tables_of_layouts_are_walked.ensures;
      speakers = c.records_are_those_of_every_reading.ensures.speakers;
    }) g.D.Disk.meaning places g.met.D.Disk.counts_now g.met.D.Disk.holds
    c.unasking_lasts.ensures c.batches_last.ensures.reads c.writes_go_on.ensures c.pushes_go_on.ensures
    c.replacements_go_on.ensures old t table write core given noted fits o h read before version ready stands
    c.batches_last.ensures.still c.records_are_those_of_every_reading.ensures.speakers c.deads_go.ensures

pub returns-clause-all : goal.returns-clause-all
returns-clause-all g c = λ places old read t table write before version o h core given noted fits ready
    stands a b it pool up from_old indexes later parts p row laid.
    all_laid c.keys_are_answered.ensures.speakers c.keys_are_answered.ensures.obstacles c.keys_are_answered.ensures.rows
    c.keys_are_answered.ensures.nothing c.histories_go_on.ensures.begins c.verdicts_are_the_machines.ensures
    c.notes_follow_the_machine.ensures.none c.befores_are_told.ensures c.made_writes_follow.ensures
    c.seen_may_be_written.ensures c.stored_rows_are_coded.ensures c.lists_go_on.ensures.stay
    c.one_reading.ensures.packed_rows c.tips_stay.ensures.on c.tips_stay.ensures.behind c.writes_keep_plain.ensures
    c.ways_are_free.ensures (record {
      one_way = c.sound_images_stand_one_way.ensures;
      walked = c.tables_of_layouts_are_walked.ensures;
      speakers = c.records_are_those_of_every_reading.ensures.speakers;
    }) g.D.Disk.meaning places g.met.D.Disk.counts_now g.met.D.Disk.holds
    c.unasking_lasts.ensures c.batches_last.ensures.reads c.writes_go_on.ensures c.pushes_go_on.ensures
    c.replacements_go_on.ensures old t table write core given noted fits o h read before version ready stands
    c.entries_stay.ensures a it pool up from_old indexes later parts p row b laid

pub returns-clause-rows : goal.returns-clause-rows
returns-clause-rows g c = λ places old read t table write before version o h core given noted fits ready
    stands a b it pool up from_old rec enters.
    row_laid c.keys_are_answered.ensures.speakers c.keys_are_answered.ensures.obstacles c.keys_are_answered.ensures.rows
    c.keys_are_answered.ensures.nothing c.histories_go_on.ensures.begins c.verdicts_are_the_machines.ensures
    c.notes_follow_the_machine.ensures.none c.befores_are_told.ensures c.made_writes_follow.ensures
    c.seen_may_be_written.ensures c.stored_rows_are_coded.ensures c.lists_go_on.ensures.stay
    c.one_reading.ensures.packed_rows c.tips_stay.ensures.on c.tips_stay.ensures.behind c.writes_keep_plain.ensures
    c.ways_are_free.ensures (record {
      one_way = c.sound_images_stand_one_way.ensures;
      walked = c.tables_of_layouts_are_walked.ensures;
      speakers = c.records_are_those_of_every_reading.ensures.speakers;
    }) g.D.Disk.meaning places g.met.D.Disk.counts_now g.met.D.Disk.holds
    c.unasking_lasts.ensures c.batches_last.ensures.reads c.writes_go_on.ensures c.pushes_go_on.ensures
    c.replacements_go_on.ensures old t table write core given noted fits o h read before version ready stands
    c.entries_stay.ensures a it pool up from_old rec b enters
