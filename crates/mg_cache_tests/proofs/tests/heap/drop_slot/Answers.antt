use Rattle.mg_space.specs.WholeLaws.{whole_kept}
use Rattle.mg_base.specs.MemDisk.{mem_meaning}
use Rattle.mg_heap.specs.ChangingLaws.{whole_at_most}
use Rattle.mg_cache_tests.proofs.tests.heap.drop_slot.Goals as goal

pub returns-in-Ok-clause-whole : goal.returns-in-Ok-clause-whole
returns-in-Ok-clause-whole c = whole_kept mem_meaning c.args.store.now c.free.new.store c.free.new.batch.pages c.in-Ok.ensures.keeps (whole_at_most c.args.store.now.geometry c.args.batch.now c.free.new.batch c.args.at.page.0 c.requires.whole c.in-Ok.ensures.below c.in-Ok.ensures.changes)
