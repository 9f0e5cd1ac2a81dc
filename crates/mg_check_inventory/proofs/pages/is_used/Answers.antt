use Rattle.mg_check_inventory.proofs.UsedLemmas.{used_absent, used_there}
use Rattle.mg_check_inventory.proofs.pages.is_used.Goals as goal

pub returns-in-None : goal.returns-in-None
returns-in-None c = used_absent c.args.size c.args.n c.bits_of-bits.result c.args.pages.now
    c.bits_of-bits.ensures.bits c.in-None.ensures.page

pub returns-in-Some : goal.returns-in-Some
returns-in-Some c = used_there c.args.size c.args.n c.bits_of-bits.result c.args.pages.now
    c.in-Some.page.now c.is_used.result c.bits_of-bits.ensures.bits
    (c.in-Some.ensures.page c.args.size) c.is_used.ensures
