use Rattle.mg_node.specs.NodePage.{node_checks}
use Rattle.mg_btree.specs.ReadingLaws.{tells_passes}
use Rattle.mg_btree.proofs.node.check_part.Goals as goal

pub returns : goal.returns
returns c = tells_passes c.args.page (node_checks c.args.b.now c.args.page.0 c.args.owner)
    c.check_node_common.result c.check_node_common.ensures
