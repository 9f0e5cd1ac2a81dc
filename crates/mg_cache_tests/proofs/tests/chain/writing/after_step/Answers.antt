use Rattle.std.proofs.Common.{sym}
use Rattle.mg_space.specs.WholeLaws.{whole_as}
use Rattle.mg_cache_tests.proofs.tests.chain.writing.after_step.Goals as goal

pub returns-clause-whole : goal.returns-clause-whole
returns-clause-whole c = whole_as c.do_step.new.store.geometry c.newest.new.store.geometry
    c.do_step.new.batch.pages (sym c.newest.ensures.geometry) c.in_ok-do_step.ensures.whole
