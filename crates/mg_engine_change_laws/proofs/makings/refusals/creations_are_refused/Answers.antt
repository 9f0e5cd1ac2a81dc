use Rattle.mg_engine_change_laws.specs.tables.MakingRefusalLaws.{creations_are_refused}
use Rattle.mg_engine_change_laws.proofs.makings.refusals.creations_are_refused.Goals as goal

pub returns : goal.returns
returns g c = λ places old new t name shape refusal core fits fails.
    creations_are_refused _ _ g.D.Disk.meaning c.keys_are_answered.ensures.speakers
    c.keys_are_answered.ensures.obstacles c.keys_are_answered.ensures.rows c.keys_are_answered.ensures.nothing
    c.histories_go_on.ensures.begins c.verdicts_are_the_machines.ensures c.notes_follow_the_machine.ensures.none
    g.met.D.Disk.counts_now c.entries_go_on.ensures.idle c.standings_go_on.ensures c.crashes_hold.ensures.quiet
    c.batches_last.ensures.reads places old new t name shape refusal core fits fails
