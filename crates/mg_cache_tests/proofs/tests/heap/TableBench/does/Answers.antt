use Rattle.mg_cache_tests.proofs.WholeLemmas.{ready_moved, where_true}
use Rattle.mg_cache_tests.proofs.tests.heap.TableBench.does.Goals as goal

pub returns-in-Change : goal.returns-in-Change
returns-in-Change c = where_true c.eq-in-Change.result (ready_moved c.args.self.now.store c.change_page.new.store c.args.self.now.batch.pages c.change_page.ensures.pool c.change_page.ensures.geometry c.requires.1 c.requires.2 c.requires.3)

pub returns-in-Walks : goal.returns-in-Walks
returns-in-Walks c = where_true c.eq-in-Walks.result (ready_moved c.args.self.now.store c.walks.new.store c.args.self.now.batch.pages c.walks.ensures.pool c.walks.ensures.geometry c.requires.1 c.requires.2 c.requires.3)
