use Rattle.std.proofs.Common.{List, [], ap}
use Rattle.std.specs.Option.{option_copied}
use Rattle.mg_image.specs.Form.{Pages}
use Rattle.mg_pool.specs.Pool.{shown}
use Rattle.mg_pool.specs.declared.batch.BatchPage.{BatchPage}
use Rattle.mg_seek.specs.CandidateLaws.{answer_is_told}
use Rattle.mg_seek.specs.Candidates.{FoundAmong, RefusesCandidates}
use Rattle.mg_seek.specs.Speaking.{IsSpeaker, RefusesTableRows}
use Rattle.mg_seek.specs.Versions.{wants}
use Rattle.mg_seek.specs.declared.whose.Wanted.TheVariants.{Living}
use Rattle.mg_row_writes.proofs.FindLemmas.{are_enough, through_empty}
use Rattle.mg_row_writes.proofs.finding.speaker_at.Goals as goal

pub returns-in-None-clause-gives : goal.returns-in-None-clause-gives
returns-in-None-clause-gives g c = λ image tells may. through_empty c.args.store.now image c.new-batch.result
    c.speaker.result
    (λ (view : Pages). IsSpeaker (g.S.States.state_of c.args.states.now) c.args.live.now view c.args.table.now
    c.args.key.now)
    (λ (pages : List BatchPage). λ (view : Pages). RefusesTableRows g.D.Disk.meaning c.speaker.new.store pages
    view (wants (g.S.States.state_of c.args.states.now) c.args.live.now Living)
    c.args.table.now) c.new-batch.ensures.pages (c.speaker.ensures.gives image tells)

pub returns-in-None-clause-keeps : goal.returns-in-None-clause-keeps
returns-in-None-clause-keeps g c = c.speaker.ensures.keeps

pub returns-in-None-clause-fault : goal.returns-in-None-clause-fault
returns-in-None-clause-fault g c = c.speaker.ensures.fault

pub returns-in-None-clause-own : goal.returns-in-None-clause-own
returns-in-None-clause-own g c = c.speaker.ensures.own

pub returns-clause-gives : goal.returns-clause-gives
returns-clause-gives g c = λ image tells may. answer_is_told
    (g.S.States.state_of c.args.states.now) c.args.live.now (shown c.args.store.now.dirty image)
    c.args.table.now c.args.key.now c.in-Some.recs.now
    (are_enough (g.S.States.state_of c.args.states.now) c.args.live.now (shown c.args.store.now.dirty image)
    c.args.table.now c.args.key.now (option_copied c.args.candidates) c.in-Some.recs.now
    (ap option_copied c.in-Some.is) may)
    g.D.Disk.meaning c.speaker_among_candidates.new.store []
    (wants (g.S.States.state_of c.args.states.now) c.args.live.now Living) c.speaker_among_candidates.result
    (through_empty c.args.store.now image c.new-batch.result c.speaker_among_candidates.result
    (λ (view : Pages). FoundAmong (g.S.States.state_of c.args.states.now) c.args.live.now view c.args.table.now
    c.args.key.now c.in-Some.recs.now)
    (λ (pages : List BatchPage). λ (view : Pages). RefusesCandidates g.D.Disk.meaning
    c.speaker_among_candidates.new.store pages view
    (wants (g.S.States.state_of c.args.states.now) c.args.live.now Living) c.args.table.now
    c.in-Some.recs.now) c.new-batch.ensures.pages (c.speaker_among_candidates.ensures.gives image tells))

pub returns-clause-keeps : goal.returns-clause-keeps
returns-clause-keeps g c = c.speaker_among_candidates.ensures.keeps

pub returns-clause-fault : goal.returns-clause-fault
returns-clause-fault g c = c.speaker_among_candidates.ensures.fault

pub returns-clause-own : goal.returns-clause-own
returns-clause-own g c = c.speaker_among_candidates.ensures.own
