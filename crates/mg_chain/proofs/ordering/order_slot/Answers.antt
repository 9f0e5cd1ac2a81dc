use Rattle.std.proofs.Common.{[], ◌∷◌}
use Rattle.mg_chain.specs.Orders.{before_page}
use Rattle.mg_chain.proofs.OrderLemmas.{orders_then}
use Rattle.mg_chain.proofs.ordering.order_slot.Goals as goal

pub returns-clause-adds : goal.returns-clause-adds
returns-clause-adds c = orders_then c.args.batch.now c.order_before.new.batch c.order_before-2.new.batch
    (before_page (0 ∷ c.args.page.0 ∷ []) c.args.slot_page.0)
    (before_page c.args.pointers.now c.args.slot_page.0) c.in_ok-order_before.ensures.adds
    c.in_ok-order_before-2.ensures.adds
