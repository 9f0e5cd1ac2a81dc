use Rattle.mg_chain.specs.Orders.{slot_orders, version_orders}
use Rattle.mg_chain.proofs.OrderLemmas.{orders_then}
use Rattle.mg_chain.proofs.ordering.order_push.Goals as goal

pub returns-clause-adds : goal.returns-clause-adds
returns-clause-adds c = orders_then c.args.batch.now c.order_version.new.batch c.order_slot.new.batch
    (version_orders c.args.batch.now.pages c.args.page.0 c.args.back)
    (slot_orders c.args.page.0 c.args.slot_page.0 c.args.pointers.now)
    c.in_ok-order_version.ensures.adds c.in_ok-order_slot.ensures.adds
