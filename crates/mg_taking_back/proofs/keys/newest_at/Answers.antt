use Rattle.std.proofs.Common.{List}
use Rattle.mg_chain.specs.Refusals.{RefusesChain}
use Rattle.mg_image.specs.Form.{Pages}
use Rattle.mg_pool.specs.declared.batch.BatchPage.{BatchPage}
use Rattle.mg_seek.specs.Versions.{IsFirst, wants}
use Rattle.mg_seek.specs.declared.whose.Wanted.TheVariants.{Any}
use Rattle.mg_taking_back.proofs.ReadLemmas.{through_empty}
use Rattle.mg_taking_back.proofs.keys.newest_at.Goals as goal

pub returns-clause-gives : goal.returns-clause-gives
returns-clause-gives g c = λ image tells. through_empty c.args.store.now image c.new-batch.result c.first_version.result
    (λ (view : Pages). IsFirst view (wants (g.S.States.state_of c.args.states.now) c.args.live.now Any) c.args.rec)
    (λ (pages : List BatchPage). λ (view : Pages). RefusesChain g.D.Disk.meaning c.first_version.new.store pages
    view c.args.rec) c.new-batch.ensures.pages (c.first_version.ensures.gives image tells)
