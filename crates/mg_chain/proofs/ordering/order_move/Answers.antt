use Rattle.std.proofs.Common.{◌++◌, [], ◌∷◌}
use Rattle.mg_chain.specs.Orders.{before_page, push_orders}
use Rattle.mg_chain.proofs.OrderLemmas.{orders_then}
use Rattle.mg_chain.proofs.ordering.order_move.Goals as goal

pub returns-clause-adds : goal.returns-clause-adds
returns-clause-adds c =
    let first = push_orders c.args.batch.now.pages c.args.page.0 c.args.slot_page.0 c.args.back
    c.args.pointers.now in
    let second = before_page c.args.slot_pointers.now c.args.slot_page.0 in
    orders_then c.args.batch.now c.order_before.new.batch c.order_one.new.batch (first ++ second)
    (before_page (c.args.slot_page.0 ∷ []) c.args.freed.0)
    (orders_then c.args.batch.now c.order_push.new.batch c.order_before.new.batch first second
    c.in_ok-order_push.ensures.adds c.in_ok-order_before.ensures.adds) c.in_ok-order_one.ensures.adds
