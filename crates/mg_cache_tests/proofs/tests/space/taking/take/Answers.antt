use Rattle.mg_space.specs.WholeLaws.{whole_kept}
use Rattle.mg_base.specs.MemDisk.{mem_meaning}
use Rattle.mg_cache_tests.proofs.WholeLemmas.{whole_taking}
use Rattle.mg_cache_tests.proofs.tests.space.taking.take.Goals as goal

pub returns-clause-whole : goal.returns-clause-whole
returns-clause-whole c = whole_kept mem_meaning c.args.store.now c.take_page.new.store c.take_page.new.batch.pages c.take_page.ensures.keeps (whole_taking c.args.store.now.geometry c.args.batch.now c.take_page.new.batch c.take_page.result c.requires.whole c.take_page.ensures.puts c.take_page.ensures.same)
