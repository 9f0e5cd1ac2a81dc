use Rattle.mg_cache_tests.proofs.WholeLemmas.{ready_moved, where_true}
use Rattle.mg_cache_tests.proofs.tests.btree.TreeBench.does.Goals as goal

pub returns-in-Range : goal.returns-in-Range
returns-in-Range c = where_true c.eq.result (ready_moved c.args.self.now.store c.slot_behind.new.store c.args.self.now.batch.pages c.slot_behind.ensures.pool c.slot_behind.ensures.geometry c.requires.1 c.requires.2 c.requires.3)

pub returns-in-Walk : goal.returns-in-Walk
returns-in-Walk c = where_true c.eq-in-Walk.result (ready_moved c.args.self.now.store c.passes.new.store c.args.self.now.batch.pages c.passes.ensures.pool c.passes.ensures.geometry c.requires.1 c.requires.2 c.requires.3)
