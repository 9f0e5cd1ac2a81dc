use Rattle.std.proofs.Common.{length}
use Rattle.mg_base.specs.Image.{page_at}
use Rattle.mg_check_data.specs.DataRung.{IsPageFinding}
use Rattle.mg_check_inventory.specs.TestLaws.{absent_found}
use Rattle.mg_check_data.proofs.data.check_there.Goals as goal

pub returns-in-None-clause-found : goal.returns-in-None-clause-found
returns-in-None-clause-found c = absent_found
    (IsPageFinding c.args.size (page_at c.args.size c.args.pages.now) c.args.seat)
    (length c.args.pages.now) c.args.seat.page c.check_presence.result c.in-None.ensures.page
    c.check_presence.ensures.test c.check_presence.ensures.there
