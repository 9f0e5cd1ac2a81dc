use Rattle.std.proofs.Common.{List}
use Rattle.std.specs.Prelude.{MatchResult}
use Rattle.mg_heap.specs.declared.table.TablePages.{TablePages}
use Rattle.mg_image.specs.Form.{Pages}
use Rattle.mg_pool.specs.declared.batch.BatchPage.{BatchPage}
use Rattle.mg_database.specs.Tested.{IsTested, RefusesTested}
use Rattle.mg_database.proofs.TestedLemmas.{sees_shown}
use Rattle.mg_database.proofs.tested.check_table.Goals as goal

pub returns-clause-tests : goal.returns-clause-tests
returns-clause-tests g c = λ image tells. sees_shown c.args.store.now image c.new-batch.result
    (λ (batch : List BatchPage). λ (pages : Pages). MatchResult c.check_pages.result
    (λ (table : TablePages). IsTested pages c.args.owner.0 table.pointers.items table.data_pages.items)
    (RefusesTested g.D.Disk.meaning c.check_pages.new.store batch pages c.args.owner.0))
    c.new-batch.ensures.pages (c.check_pages.ensures.tests image tells)
