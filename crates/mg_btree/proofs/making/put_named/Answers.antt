use Rattle.std.proofs.Common.{List, subst}
use Rattle.mg_base.specs.declared.numbers.PageNo.{PageNo}
use Rattle.mg_btree.specs.Ordering.{AddsOrders, split_orders}
use Rattle.mg_btree.specs.OrderLaws.{widens_on, widens_sized}
use Rattle.mg_btree.proofs.PutLemmas.{on_ok_as}
use Rattle.mg_btree.proofs.making.put_named.Goals as goal

pub returns-in_err-put_three-clause-widens : goal.returns-in_err-put_three-clause-widens
returns-in_err-put_three-clause-widens c = widens_sized c.args.size c.args.batch.now
    c.put_three.new.batch _ c.requires.right c.in_err-put_three.ensures.widens

pub returns-clause-puts : goal.returns-clause-puts
returns-clause-puts c = on_ok_as c.order_split.result c.order_split.ensures.adds (λ adds. record {
  put = c.put_three.new.batch;
  puts = c.in_ok-put_three.ensures.puts;
  orders = subst (λ (ns : List PageNo). AddsOrders c.put_three.new.batch c.order_split.new.batch
      (split_orders c.args.size ns c.args.halves.now.left.page.0 c.args.halves.now.right.page.0
      c.args.named.now.page.0)) c.deref.ensures.value adds;
})

pub returns-clause-widens : goal.returns-clause-widens
returns-clause-widens c = widens_on c.args.size c.args.batch.now c.put_three.new.batch
    c.order_split.new.batch
    (widens_sized c.args.size c.args.batch.now c.put_three.new.batch _ c.requires.right
    c.in_ok-put_three.ensures.widens) c.order_split.ensures.widens
