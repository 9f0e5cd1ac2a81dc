use Rattle.std.proofs.Common.{◌≡◌, List}
use Rattle.std.specs.Prelude.{MatchResult}
use Rattle.mg_chain.specs.Chains.{newest_link as link_of}
use Rattle.mg_chain.specs.Refusals.{RefusesCellAt}
use Rattle.mg_image.specs.Form.{Pages}
use Rattle.mg_pool.specs.declared.batch.BatchPage.{BatchPage}
use Rattle.mg_core_collecting.proofs.LookLemmas.{at_empty}
use Rattle.mg_core_collecting.proofs.settled.newest.Goals as goal

pub returns-clause-gives : goal.returns-clause-gives
returns-clause-gives g c = λ image tells. at_empty c.args.store.now image c.new-batch.result c.new-batch.ensures.pages
    (λ (pages : List BatchPage). λ (view : Pages). MatchResult c.newest_link.result
    (λ found. found ≡ link_of view c.args.rec)
    (RefusesCellAt g.D.Disk.meaning c.newest_link.new.store pages view c.args.rec))
    (c.newest_link.ensures.gives image tells)
