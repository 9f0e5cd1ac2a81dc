use Rattle.std.proofs.Common.{List}
use Rattle.std.specs.Prelude.{MatchResult}
use Rattle.mg_image.specs.Form.{Pages}
use Rattle.mg_pool.specs.declared.batch.BatchPage.{BatchPage}
use Rattle.mg_heap.specs.Walk.{GivesNext, RefusesNext}
use Rattle.mg_heap.proofs.WalkLemmas.{sees_shown}
use Rattle.mg_heap.proofs.walk.next.Goals as goal

pub returns-clause-gives : goal.returns-clause-gives
returns-clause-gives g c = λ image tells. sees_shown c.args.store.now image c.new-batch.result
    (λ (batch : List BatchPage). λ (pages : Pages). MatchResult c.next_in.result
    (GivesNext pages c.args.owner.0 c.args.after)
    (RefusesNext g.D.Disk.meaning c.next_in.new.store batch pages c.args.owner.0 c.args.after))
    c.new-batch.ensures.pages (c.next_in.ensures.gives image tells)
