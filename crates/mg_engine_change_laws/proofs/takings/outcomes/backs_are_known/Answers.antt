use Rattle.mg_engine_change_laws.proofs.takings.outcomes.backs_are_known.Goals as goal

pub returns : goal.returns
returns g c = record {
  counts_now = g.met.D.Disk.counts_now;
  holds = g.met.D.Disk.holds;
  openings = c.histories_go_on.ensures.begins;
  unask = c.unasking_lasts.ensures;
  lists = c.lists_go_on.ensures.stay;
  notes = c.the_list_follows_the_machine.ensures.kept;
  gives_on = c.steps_come_to_an_end.ensures.go;
  to_end = c.steps_come_to_an_end.ensures.end;
  keys = c.keys_are_taken.ensures.keys;
  what_was = c.what_was_is_given.ensures;
  since = c.keys_are_taken.ensures.since;
  begin = c.changes_are_taken_back.ensures.begin;
  first_shows = c.pages_show_what_is_taken_back.ensures.first;
  undo_gives = c.undo_lists_give_keys.ensures;
  takes_all = c.cores_take_all.ensures;
  enters = c.cores_enter_some.ensures;
  keep_lists = c.keys_keep_lists.ensures;
  keep_pages = c.keys_keep_pages.ensures;
  given_up = c.stops_go_on.ensures.given_up;
  failed = c.stops_go_on.ensures.failed;
  walks = c.others_walk_on.ensures.given_up;
  rows_one = c.one_reading.ensures.packed_rows;
  one_way = c.sound_images_stand_one_way.ensures;
  take = c.others_take_alike.ensures;
  on = c.standings_go_on.ensures;
  quiet = c.crashes_hold.ensures.quiet;
  idle_goes = c.entries_go_on.ensures.idle;
  rolls = c.rollbacks_go.ensures;
  goes_back = c.engines_go_back_to.ensures.stands;
  walk_back = c.engines_go_back_to.ensures.walks;
}
