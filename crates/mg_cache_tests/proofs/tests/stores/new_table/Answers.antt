use Rattle.mg_cache_tests.proofs.WholeLemmas.{whole_below}
use Rattle.mg_cache_tests.proofs.tests.stores.new_table.Goals as goal

pub returns-clause-whole : goal.returns-clause-whole
returns-clause-whole c = whole_below 5 c.args.limit c.in_ok-store.store.geometry c.in_ok-batch.batch.pages c.in_ok-batch.ensures.whole c.in_ok-store.ensures.size c.in_ok-store.ensures.limit c.requires.limit
