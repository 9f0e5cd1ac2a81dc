use Rattle.mg_space.specs.BelowLaws.{below_kept}
use Rattle.mg_order_runs.proofs.deeds.put_entry.Goals as goal

pub change_batch-requires-clause-below : goal.change_batch-requires-clause-below
change_batch-requires-clause-below c = below_kept c.args.store.now.geometry c.insert.new.store.geometry
    c.insert.new.batch.pages c.in_ok-insert.ensures.reads.keeps.geometry c.in_ok-insert.ensures.whole
