use Rattle.mg_base.specs.Image.{page_at}
use Rattle.mg_orphans.proofs.OrphanLemmas.{reached_none, unused_none, used_one}
use Rattle.mg_orphans.proofs.orphans.is_orphan.Goals as goal

pub returns-then-is_reached : goal.returns-then-is_reached
returns-then-is_reached c = reached_none c.args.size (page_at c.args.size c.args.pages.now)
    c.args.reached.now c.args.n c.is_reached.result c.is_reached.ensures c.if-is_reached.true

pub returns-in-Ok : goal.returns-in-Ok
returns-in-Ok c = used_one c.args.size (page_at c.args.size c.args.pages.now) c.args.reached.now
    c.args.n c.is_reached.result c.check_bit.result c.is_reached.ensures c.if-is_reached.false
    c.check_bit.ensures c.in-Ok.is
