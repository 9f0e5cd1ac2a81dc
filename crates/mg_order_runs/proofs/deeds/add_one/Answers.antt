use Rattle.mg_space.specs.BelowLaws.{below_kept}
use Rattle.mg_order_runs.proofs.deeds.add_one.Goals as goal

pub change_batch-requires-clause-below : goal.change_batch-requires-clause-below
change_batch-requires-clause-below c = below_kept c.args.store.now.geometry c.add.new.store.geometry
    c.add.new.batch.pages c.add.ensures.keeps.geometry c.add.ensures.whole
