use Rattle.std.proofs.Common.{List}
use Rattle.mg_image.specs.Form.{Pages}
use Rattle.mg_pool.specs.declared.batch.BatchPage.{BatchPage}
use Rattle.mg_seek.specs.Speaking.{IsSpeaker, RefusesTableRows}
use Rattle.mg_seek.specs.Versions.{wants}
use Rattle.mg_seek.specs.declared.whose.Wanted.TheVariants.{Living}
use Rattle.mg_taking_back.proofs.ReadLemmas.{through_empty}
use Rattle.mg_taking_back.proofs.keys.speaker_at.Goals as goal

pub returns-clause-gives : goal.returns-clause-gives
returns-clause-gives g c = λ image tells. through_empty c.args.store.now image c.new-batch.result c.speaker.result
    (λ (view : Pages). IsSpeaker (g.S.States.state_of c.args.states.now) c.args.live.now view c.args.table.now c.args.key.now)
    (λ (pages : List BatchPage). λ (view : Pages). RefusesTableRows g.D.Disk.meaning c.speaker.new.store pages
    view (wants (g.S.States.state_of c.args.states.now) c.args.live.now Living)
    c.args.table.now) c.new-batch.ensures.pages (c.speaker.ensures.gives image tells)
