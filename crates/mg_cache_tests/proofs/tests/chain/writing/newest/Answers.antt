use Rattle.mg_space.specs.WholeLaws.{whole_kept}
use Rattle.mg_base.specs.MemDisk.{mem_meaning}
use Rattle.mg_cache_tests.proofs.tests.chain.writing.newest.Goals as goal

pub told_of-requires-clause-whole : goal.told_of-requires-clause-whole
told_of-requires-clause-whole c = whole_kept mem_meaning c.args.store.now c.newest_link.new.store c.args.batch.now.pages c.in_ok-link.ensures.keeps c.requires.whole
