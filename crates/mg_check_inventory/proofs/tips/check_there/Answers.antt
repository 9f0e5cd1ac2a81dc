use Rattle.std.proofs.Common.{length}
use Rattle.mg_base.specs.Image.{page_at}
use Rattle.mg_check_inventory.specs.TransactionRung.{IsPageFinding}
use Rattle.mg_check_inventory.specs.TestLaws.{absent_found, there_found}
use Rattle.mg_check_inventory.proofs.tips.check_there.Goals as goal

pub returns-in-None-clause-found : goal.returns-in-None-clause-found
returns-in-None-clause-found c = absent_found
    (IsPageFinding c.args.size (page_at c.args.size c.args.pages.now) c.args.n c.args.sequence
    c.args.from) (length c.args.pages.now) c.args.n c.check_presence.result c.in-None.ensures.page
    c.check_presence.ensures.test c.check_presence.ensures.there

pub returns-in-Some-clause-found : goal.returns-in-Some-clause-found
returns-in-Some-clause-found c = there_found
    (IsPageFinding c.args.size (page_at c.args.size c.args.pages.now) c.args.n c.args.sequence
    c.args.from) (length c.args.pages.now) c.args.n c.check_page.result c.in-Some.ensures.there
    c.check_page.ensures
