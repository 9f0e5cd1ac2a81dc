use Rattle.mg_node.specs.NodePage.{node_checks}
use Rattle.mg_reading.specs.ImageView.{pages_in}
use Rattle.mg_trees.proofs.PageLemmas.{wanted_where_ok}
use Rattle.mg_trees.proofs.page.is_node.Goals as goal

pub returns-then-is_taken : goal.returns-then-is_taken
returns-then-is_taken c = rw c.is_ok.ensures.value
    (wanted_where_ok c.args.image.now.size (pages_in c.args.image.now) c.args.n
    (record { 0 = c.args.n })
    (node_checks (pages_in c.args.image.now c.args.n) c.args.n c.args.owner)
    c.check_node_common.result (rw c.page-page.ensures.page at c.check_node_common.ensures)
    (c.is_taken.ensures.below c.if-is_taken.true) (c.is_taken.ensures.used c.if-is_taken.true))
