use Rattle.std.proofs.Common.{[], ◌∷◌}
use Rattle.mg_btree.specs.OrderLaws.{widens_on, widens_orders, widens_same}
use Rattle.mg_btree.specs.Ordering.{before}
use Rattle.mg_btree.proofs.ordering.order_to.Goals as goal

pub returns-in_err-order-2-clause-widens : goal.returns-in_err-order-2-clause-widens
returns-in_err-order-2-clause-widens c = widens_on c.args.size c.args.batch.now c.order.new.self
    c.order-2.new.self (widens_orders c.args.size c.args.batch.now c.order.new.self
    (before c.inventory_page_of-bit.result.0 c.args.later.0 ∷ []) c.in_ok-order.ensures.pages
    c.in_ok-order.ensures.orders) (widens_same c.args.size c.order.new.self c.order-2.new.self
    c.in_err-order-2.ensures.same)

pub returns-clause-widens : goal.returns-clause-widens
returns-clause-widens c = widens_on c.args.size c.args.batch.now c.order.new.self
    c.order-2.new.self (widens_orders c.args.size c.args.batch.now c.order.new.self
    (before c.inventory_page_of-bit.result.0 c.args.later.0 ∷ []) c.in_ok-order.ensures.pages
    c.in_ok-order.ensures.orders) (widens_orders c.args.size c.order.new.self c.order-2.new.self
    (before c.args.n.0 c.args.later.0 ∷ []) c.in_ok-order-2.ensures.pages
    c.in_ok-order-2.ensures.orders)
