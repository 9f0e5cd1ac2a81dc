use Rattle.mg_space.specs.WholeLaws.{whole_kept}
use Rattle.mg_base.specs.MemDisk.{mem_meaning}
use Rattle.mg_cache_tests.proofs.tests.chain.writing.make.Goals as goal

pub returns-in_err-at-clause-whole : goal.returns-in_err-at-clause-whole
returns-in_err-at-clause-whole c = whole_kept mem_meaning c.args.store.now c.spot.new.store c.spot.new.batch.pages c.in_err-at.ensures.keeps c.in_err-at.ensures.whole

pub first-requires-clause-whole : goal.first-requires-clause-whole
first-requires-clause-whole c = whole_kept mem_meaning c.args.store.now c.spot.new.store c.spot.new.batch.pages c.in_ok-at.ensures.keeps c.in_ok-at.ensures.whole

pub returns-in_err-first-clause-whole : goal.returns-in_err-first-clause-whole
returns-in_err-first-clause-whole c = whole_kept mem_meaning c.spot.new.store c.first.new.store c.first.new.batch.pages c.in_err-first.ensures.keeps c.in_err-first.ensures.whole

pub returns-clause-whole : goal.returns-clause-whole
returns-clause-whole c = whole_kept mem_meaning c.spot.new.store c.first.new.store c.first.new.batch.pages c.in_ok-first.ensures.keeps c.in_ok-first.ensures.whole
