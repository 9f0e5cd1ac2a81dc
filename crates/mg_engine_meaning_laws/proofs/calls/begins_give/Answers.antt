use Rattle.mg_engine_meaning_laws.specs.BeginGives.{begin_gives}
use Rattle.mg_engine_meaning_laws.proofs.calls.begins_give.Goals as goal

pub returns : goal.returns
returns g c = λ places old new session mode result core new_core counts low free begins. begin_gives g.D.Disk.meaning
    places (record {
      holds = g.met.D.Disk.holds;
      rows = c.one_reading.ensures.packed_rows;
      openings = c.histories_go_on.ensures.begins;
      begins = c.begins_go_on.ensures;
      sound = c.draws_stay_sound.ensures;
      list = c.lists_go_on.ensures.drawn;
      has_tables = c.bases_have_tables.ensures.begin;
      databases = c.databases_are_lawful.ensures;
      finds = c.tables_are_found.ensures.begin;
      one_way = c.sound_images_stand_one_way.ensures;
      takes = c.others_take_alike.ensures;
      walks = c.walks_go_alike.ensures.over;
    }) (record {
      idle = c.entries_go_on.ensures.idle;
      on = c.standings_go_on.ensures;
      quiet = c.crashes_hold.ensures.quiet;
      reads = c.batches_last.ensures.reads;
      failing = c.page_writes_go_on.ensures.failed;
    }) old session mode core new result new_core counts low free begins
