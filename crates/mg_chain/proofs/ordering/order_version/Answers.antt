use Rattle.std.proofs.Common.{[], ◌∷◌}
use Rattle.mg_chain.specs.Orders.{before_page, unchanged_page}
use Rattle.mg_chain.proofs.OrderLemmas.{orders_then, unchanged_as}
use Rattle.mg_chain.proofs.ordering.order_version.Goals as goal

pub returns-clause-adds : goal.returns-clause-adds
returns-clause-adds c = orders_then c.args.batch.now c.order_one.new.batch c.order_unchanged.new.batch
    (before_page (0 ∷ []) c.args.page.0)
    (before_page (unchanged_page c.args.batch.now.pages c.args.back) c.args.page.0)
    c.in_ok-order_one.ensures.adds
    (unchanged_as c.order_one.new.batch c.order_unchanged.new.batch c.args.batch.now.pages c.args.back
    c.args.page.0 c.in_ok-order_one.ensures.pages c.in_ok-order_unchanged.ensures.adds)
