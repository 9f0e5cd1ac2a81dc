use Rattle.mg_engine_change_laws.specs.rows.RefusalStages.{refusals}
use Rattle.mg_engine_change_laws.proofs.row_writes.writes.refusals_go_on.Goals as goal

pub returns : goal.returns
returns g c = λ places old new t table write refusal core fits given fails.
    refusals c.keys_are_answered.ensures.speakers c.keys_are_answered.ensures.obstacles
    c.keys_are_answered.ensures.rows c.keys_are_answered.ensures.nothing c.histories_go_on.ensures.begins
    c.verdicts_are_the_machines.ensures c.notes_follow_the_machine.ensures.none (record {
      one_way = c.sound_images_stand_one_way.ensures;
      walked = c.tables_of_layouts_are_walked.ensures;
      speakers = c.records_are_those_of_every_reading.ensures.speakers;
    }) g.D.Disk.meaning places
    g.met.D.Disk.counts_now c.entries_go_on.ensures.idle c.standings_go_on.ensures c.crashes_hold.ensures.quiet
    c.batches_last.ensures.reads old new core fits t table write given refusal fails
