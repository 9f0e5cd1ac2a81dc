use Rattle.mg_cache_tests.proofs.BatchLemmas.{two_below, two_lawful}
use Rattle.mg_cache_tests.proofs.tests.pool.put_in_order.Goals as goal

pub change-requires-clause-lawful : goal.change-requires-clause-lawful
change-requires-clause-lawful g c = two_lawful c.args.pool.now.geometry.size c.args.order c.args.bytes.now c.new-batch.result c.put.new.self c.put-2.new.self c.order.new.self c.new-batch.ensures.pages c.new-batch.ensures.orders c.in_ok-put.ensures.puts c.in_ok-put-2.ensures.puts c.order.ensures.pages c.in_ok-order.ensures.orders c.requires.apart c.requires.whole

pub change-requires-clause-below : goal.change-requires-clause-below
change-requires-clause-below g c = two_below c.args.pool.now.geometry.limit c.args.order c.args.bytes.now
    c.new-batch.result c.put.new.self c.put-2.new.self c.order.new.self c.new-batch.ensures.pages
    c.in_ok-put.ensures.puts c.in_ok-put-2.ensures.puts c.order.ensures.pages c.requires.first c.requires.later
