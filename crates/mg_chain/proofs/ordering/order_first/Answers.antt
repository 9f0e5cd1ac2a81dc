use Rattle.std.proofs.Common.{None}
use Rattle.mg_chain.specs.Orders.{before_page, push_orders}
use Rattle.mg_chain.proofs.OrderLemmas.{orders_then}
use Rattle.mg_chain.proofs.ordering.order_first.Goals as goal

pub returns-clause-adds : goal.returns-clause-adds
returns-clause-adds c = orders_then c.args.batch.now c.order_push.new.batch c.order_before.new.batch
    (push_orders c.args.batch.now.pages c.args.page.0 c.args.slot_page.0 None c.args.pointers.now)
    (before_page c.args.slot_pointers.now c.args.slot_page.0)
    c.in_ok-order_push.ensures.adds c.in_ok-order_before.ensures.adds
