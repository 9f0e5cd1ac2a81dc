use Rattle.mg_core.specs.Noting.{WhyNotMade}
use Rattle.mg_engine_change_laws.specs.rows.UnreadLaws.{unread_gives}
use Rattle.mg_engine_change_laws.proofs.row_writes.writes.unread_writes_give.Goals as goal

pub returns : goal.returns
returns g c = λ places old new t table write refusal core fits is.
    unread_gives g.D.Disk.meaning places g.met.D.Disk.counts_now c.entries_go_on.ensures.idle c.standings_go_on.ensures
    c.crashes_hold.ensures.quiet c.histories_go_on.ensures.begins c.batches_last.ensures.reads old new t refusal
    (WhyNotMade g.D.Disk.meaning old table) core fits is table write
