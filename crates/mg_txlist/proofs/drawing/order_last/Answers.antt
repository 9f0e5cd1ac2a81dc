use Rattle.std.proofs.Common.{◌∙◌, sym}
use Rattle.mg_txlist.proofs.DrawLemmas.{with_last, without_last}
use Rattle.mg_txlist.proofs.drawing.order_last.Goals as goal

pub returns-then-not-may_precede-clause-orders : goal.returns-then-not-may_precede-clause-orders
returns-then-not-may_precede-clause-orders c = without_last c.args.size c.args.page.0 c.args.last.0
    c.args.batch.now.orders (sym c.may_precede.ensures.is ∙ c.if-not-may_precede.true)

pub returns-clause-orders : goal.returns-clause-orders
returns-clause-orders c = with_last c.args.size c.args.page.0 c.args.last.0 c.inventory_page_of.result.0
    c.args.batch.now.orders c.order.new.self.orders c.order-2.new.self.orders c.in_ok-order.ensures.orders
    c.in_ok-order-2.ensures.orders c.inventory_page_of.ensures
    (sym c.may_precede.ensures.is ∙ c.if-not-may_precede.false)
