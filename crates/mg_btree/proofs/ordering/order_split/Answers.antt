use Rattle.std.proofs.Common.{[], ◌∷◌}
use Rattle.mg_btree.specs.OrderLaws.{widens_on, widens_orders}
use Rattle.mg_btree.specs.Ordering.{before}
use Rattle.mg_btree.proofs.ordering.order_split.Goals as goal

pub returns-clause-widens : goal.returns-clause-widens
returns-clause-widens c = widens_on c.args.size c.args.batch.now c.order_to-2.new.batch
    c.order.new.self (widens_on c.args.size c.args.batch.now c.order_to.new.batch
    c.order_to-2.new.batch (widens_on c.args.size c.args.batch.now c.order_names.new.batch
    c.order_to.new.batch c.in_ok-order_names.ensures.widens c.in_ok-order_to.ensures.widens)
    c.in_ok-order_to-2.ensures.widens)
    (widens_orders c.args.size c.order_to-2.new.batch c.order.new.self
    (before c.args.at.left.0 c.args.at.above.0 ∷ []) c.in_ok-order.ensures.pages
    c.in_ok-order.ensures.orders)
