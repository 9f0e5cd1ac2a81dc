use Rattle.mg_engine_change_laws.specs.tables.MakingLaws.{tables_are_made}
use Rattle.mg_engine_change_laws.specs.tables.StepLaws.{tables_are_refused}
use Rattle.mg_engine_change_laws.proofs.makings.creating.tables_are_made.Goals as goal

pub returns-clause-made : goal.returns-clause-made
returns-clause-made g c = tables_are_made g.D.Disk.meaning (record {
  one = c.one_reading.ensures.packed_rows;
  one_way = c.sound_images_stand_one_way.ensures;
  begins = c.histories_go_on.ensures.begins;
  behind = c.tips_stay.ensures.behind;
  apart = c.owners_keep_stands_apart.ensures;
  say = c.new_rows_say_a_table.ensures;
  follow = c.made_rows_follow.ensures;
  seen = c.made_tables_are_seen.ensures;
  remembered = c.made_rows_are_remembered.ensures;
  lists = c.lists_go_on.ensures.stay;
  keep = c.made_tables_keep.ensures;
  batches = c.batches_last.ensures.batches;
  quiet = c.crashes_hold.ensures.quiet;
  unask = c.unasking_lasts.ensures;
  holds = g.met.D.Disk.holds;
  counts_now = g.met.D.Disk.counts_now;
  speakers = c.keys_are_answered.ensures.speakers;
  reads = c.batches_last.ensures.reads;
  grow = c.growths_stay.ensures;
})

pub returns-clause-refused : goal.returns-clause-refused
returns-clause-refused g c = tables_are_refused g.D.Disk.meaning (record {
  one = c.one_reading.ensures.packed_rows;
  one_way = c.sound_images_stand_one_way.ensures;
  begins = c.histories_go_on.ensures.begins;
  behind = c.tips_stay.ensures.behind;
  apart = c.owners_keep_stands_apart.ensures;
  say = c.new_rows_say_a_table.ensures;
  follow = c.made_rows_follow.ensures;
  seen = c.made_tables_are_seen.ensures;
  remembered = c.made_rows_are_remembered.ensures;
  lists = c.lists_go_on.ensures.stay;
  keep = c.made_tables_keep.ensures;
  batches = c.batches_last.ensures.batches;
  quiet = c.crashes_hold.ensures.quiet;
  unask = c.unasking_lasts.ensures;
  holds = g.met.D.Disk.holds;
  counts_now = g.met.D.Disk.counts_now;
  speakers = c.keys_are_answered.ensures.speakers;
  reads = c.batches_last.ensures.reads;
  grow = c.growths_stay.ensures;
}) c.a_retracted_change_was_not_kept.ensures c.entries_go_on.ensures.idle
    c.standings_go_on.ensures c.page_writes_go_on.ensures.failed c.creations_are_refused.ensures
