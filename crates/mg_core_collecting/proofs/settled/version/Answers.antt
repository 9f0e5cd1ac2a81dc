use Rattle.std.proofs.Common.{List}
use Rattle.std.specs.Prelude.{MatchResult}
use Rattle.mg_chain.specs.Chains.{Meets}
use Rattle.mg_chain.specs.Refusals.{RefusesVersion}
use Rattle.mg_image.specs.Form.{Pages}
use Rattle.mg_image.specs.Records.{cells_of}
use Rattle.mg_pool.specs.declared.batch.BatchPage.{BatchPage}
use Rattle.mg_core_collecting.proofs.LookLemmas.{at_empty}
use Rattle.mg_core_collecting.proofs.settled.version.Goals as goal

pub returns-clause-gives : goal.returns-clause-gives
returns-clause-gives g c = λ image tells. at_empty c.args.store.now image c.new-batch.result c.new-batch.ensures.pages
    (λ (pages : List BatchPage). λ (view : Pages). MatchResult c.version_at.result (Meets (cells_of view) c.args.link)
    (RefusesVersion g.D.Disk.meaning c.version_at.new.store pages view c.args.holder.0 c.args.link))
    (c.version_at.ensures.gives image tells)
