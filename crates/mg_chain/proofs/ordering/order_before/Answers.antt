use Rattle.std.proofs.Common.{◌++◌, ◌∙◌}
use Rattle.mg_chain.specs.Orders.{before_page}
use Rattle.mg_chain.proofs.OrderLemmas.{before_done, before_further, empty_list}
use Rattle.mg_chain.proofs.ordering.order_before.Goals as goal

pub loop-first-preserved : goal.loop-first-preserved
loop-first-preserved c = record {
  pages = c.in_ok-order_one.ensures.pages ∙ c.loop-first.invariant.pages;
  orders = before_further c.loop-first.batch c.order_one.new.batch c.args.firsts.now c.args.firsts.now
      c.loop-first.rest.now c.in-Some.more.now
      (c.args.batch.now.orders ++ before_page c.args.firsts.now c.args.later.0) c.in-Some.first.now
      c.args.later.0 c.in-Some.ensures.cases.0 c.loop-first.invariant.orders c.in_ok-order_one.ensures.adds;
}

pub returns-clause-adds : goal.returns-clause-adds
returns-clause-adds c = before_done c.args.batch.now c.loop-first.batch c.args.firsts.now
    c.loop-first.rest.now c.args.later.0 (empty_list c.loop-first.rest.now c.in_default.ensures.cases)
    c.loop-first.invariant.pages c.loop-first.invariant.orders
