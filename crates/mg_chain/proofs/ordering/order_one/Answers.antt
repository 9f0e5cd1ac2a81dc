use Rattle.std.proofs.Common.{[], ◌∷◌}
use Rattle.mg_chain.specs.Orders.{before_page}
use Rattle.mg_chain.proofs.OrderLemmas.{itself, no_orders, one_order}
use Rattle.mg_chain.proofs.ordering.order_one.Goals as goal

pub returns-then-first-later-clause-adds : goal.returns-then-first-later-clause-adds
returns-then-first-later-clause-adds c = no_orders c.args.batch.now (before_page (c.args.first ∷ []) c.args.later.0)
    (itself c.args.first c.args.later.0 c.if-first-later.true)

pub returns-clause-adds : goal.returns-clause-adds
returns-clause-adds c = one_order c.args.batch.now c.order.new.self c.args.first c.args.later.0
    c.if-first-later.false c.in_ok-order.ensures.pages c.in_ok-order.ensures.orders
