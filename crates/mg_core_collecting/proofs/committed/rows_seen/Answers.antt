use Rattle.std.proofs.Common.{List}
use Rattle.std.specs.Prelude.{MatchResult}
use Rattle.mg_image.specs.Form.{Pages}
use Rattle.mg_pool.specs.declared.batch.BatchPage.{BatchPage}
use Rattle.mg_seek.specs.Speaking.{RefusesTableRows}
use Rattle.mg_seek.specs.TableRows.{AreRowsSeen}
use Rattle.mg_seek.specs.Versions.{wants}
use Rattle.mg_seek.specs.declared.whose.Wanted.TheVariants.{SeenBy}
use Rattle.mg_core_collecting.specs.Every.{the_system}
use Rattle.mg_core_collecting.proofs.LookLemmas.{at_empty}
use Rattle.mg_core_collecting.proofs.committed.rows_seen.Goals as goal

pub returns-clause-gives : goal.returns-clause-gives
returns-clause-gives g c = λ image tells. at_empty c.args.store.now image c.new-batch.result c.new-batch.ensures.pages
    (λ (pages : List BatchPage). λ (view : Pages). MatchResult c.rows_in_view.result
    (λ rows. AreRowsSeen (g.S.States.state_of c.args.states.now) c.args.view.now the_system view c.args.catalog.now
    rows.items)
    (RefusesTableRows g.D.Disk.meaning c.rows_in_view.new.store pages view
    (wants (g.S.States.state_of c.args.states.now) c.args.view.now (SeenBy the_system)) c.args.catalog.now))
    (c.rows_in_view.ensures.gives image tells)
