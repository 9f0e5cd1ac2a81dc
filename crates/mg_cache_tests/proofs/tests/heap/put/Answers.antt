use Rattle.mg_space.specs.WholeLaws.{whole_kept}
use Rattle.mg_base.specs.MemDisk.{mem_meaning}
use Rattle.mg_cache_tests.proofs.tests.heap.put.Goals as goal

pub returns-clause-whole : goal.returns-clause-whole
returns-clause-whole c = whole_kept mem_meaning c.args.store.now c.add.new.store c.add.new.batch.pages c.add.ensures.keeps c.add.ensures.whole
