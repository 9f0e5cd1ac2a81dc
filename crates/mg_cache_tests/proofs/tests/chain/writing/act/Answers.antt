use Rattle.mg_space.specs.WholeLaws.{whole_kept}
use Rattle.mg_base.specs.MemDisk.{mem_meaning}
use Rattle.mg_cache_tests.proofs.tests.chain.writing.act.Goals as goal

pub returns-in-Push-clause-whole : goal.returns-in-Push-clause-whole
returns-in-Push-clause-whole c = whole_kept mem_meaning c.args.store.now c.push.new.store c.push.new.batch.pages c.push.ensures.keeps c.push.ensures.whole

pub returns-in-Replace-clause-whole : goal.returns-in-Replace-clause-whole
returns-in-Replace-clause-whole c = whole_kept mem_meaning c.args.store.now c.replace_own.new.store c.replace_own.new.batch.pages c.replace_own.ensures.keeps c.replace_own.ensures.whole

pub returns-in-BackOut-clause-whole : goal.returns-in-BackOut-clause-whole
returns-in-BackOut-clause-whole c = whole_kept mem_meaning c.args.store.now c.back_out.new.store c.back_out.new.batch.pages c.back_out.ensures.keeps c.back_out.ensures.whole
