use Rattle.mg_space.specs.WholeLaws.{whole_kept}
use Rattle.mg_base.specs.MemDisk.{mem_meaning}
use Rattle.mg_cache_tests.proofs.tests.btree.take_entry.Goals as goal

pub returns-clause-whole : goal.returns-clause-whole
returns-clause-whole c = whole_kept mem_meaning c.args.store.now c.remove.new.store c.remove.new.batch.pages c.remove.ensures.reads.keeps c.remove.ensures.whole
