use Rattle.std.proofs.Common.{◌≡◌, List, Some, None, subst, sym}
use Rattle.mg_base.specs.declared.geometry.Geometry.{Geometry}
use Rattle.mg_btree.specs.BelowLaws.{put_below, taken_whole}
use Rattle.mg_pool.specs.Batch.{AreBelow}
use Rattle.mg_pool.specs.declared.batch.BatchPage.{BatchPage}
use Rattle.mg_space.specs.BelowLaws.{all_below, taken_below}
use Rattle.mg_space.specs.View.{AreWhole}
use Rattle.mg_order_runs.proofs.deeds.plant.Goals as goal

pub change_batch-requires-clause-below : goal.change_batch-requires-clause-below
change_batch-requires-clause-below c =
    let puts = c.in_ok-tree.ensures.puts in
    let none : AreWhole c.args.store.now.geometry c.new-batch.result.pages =
    subst (λ (pages : List BatchPage). AreWhole c.args.store.now.geometry pages) (sym c.new-batch.ensures.pages)
    (λ page bytes is. absurd (let some : None ≡ Some bytes = is in cc)) in
    subst (λ (g : Geometry). AreBelow g.limit c.put.new.self.pages) (sym c.in_ok-tree.ensures.keeps.geometry)
    (put_below c.args.store.now.geometry.limit c.take_page.new.batch c.put.new.self c.in_ok-tree.tree.0 _
    (all_below c.args.store.now.geometry c.take_page.new.batch.pages
    (taken_whole c.args.store.now.geometry c.new-batch.result c.take_page.new.batch c.in_ok-tree.tree.0 none puts))
    (taken_below c.args.store.now.geometry c.in_ok-tree.tree.0 puts.below) c.in_ok-put.ensures.puts)
