use Rattle.std.proofs.Common.{false}
use Rattle.mg_node.specs.NodePage.{entry_at}
use Rattle.mg_btree.specs.OnPageLaws.{is_before_from}
use Rattle.mg_btree.proofs.on_page.is_before.Goals as goal

pub returns : goal.returns
returns c = is_before_from c.args.e.now (entry_at false c.args.page.now c.args.at) c.order_with.result
    c.eq.result c.order_with.ensures c.eq.ensures
