use Rattle.std.proofs.Common.{◌<◌, length, arith}
use Rattle.mg_pool.proofs.ChangeLemmas.{enters_more, enters_open}
use Rattle.mg_pool.proofs.OrderLemmas.{apart_read, later_dirty}
use Rattle.mg_pool.proofs.pool.Pool.enter_orders.Goals as goal

pub enter_order-requires-clause-apart : goal.enter_order-requires-clause-apart
enter_order-requires-clause-apart g c =
    let inside : c.loop-place.place < length c.args.orders.now.items = omega arith in
    apart_read c.args.orders.now.items c.loop-place.place c.first_of.result c.later_of.result inside c.requires.acyclic c.first_of.ensures c.later_of.ensures

pub enter_order-requires-clause-open : goal.enter_order-requires-clause-open
enter_order-requires-clause-open g c =
    let inside : c.loop-place.place < length c.args.orders.now.items = omega arith in
    λ chain. enters_open g.D.Disk.meaning c.args.self.now c.loop-place.self c.args.orders.now.items c.loop-place.place c.loop-place.invariant (c.requires.open c.loop-place.place inside) c.first_of.result c.later_of.result c.first_of.ensures c.later_of.ensures chain

pub enter_order-requires-clause-later : goal.enter_order-requires-clause-later
enter_order-requires-clause-later g c =
    let inside : c.loop-place.place < length c.args.orders.now.items = omega arith in
    later_dirty c.args.self.now.dirty c.loop-place.self.dirty c.args.orders.now.items c.loop-place.place c.later_of.result inside c.loop-place.invariant.dirty c.requires.later c.later_of.ensures

pub loop-place-preserved : goal.loop-place-preserved
loop-place-preserved g c =
    let inside : c.loop-place.place < length c.args.orders.now.items = omega arith in
    enters_more g.D.Disk.meaning c.args.self.now c.loop-place.self c.enter_order.new.self c.args.orders.now.items c.loop-place.place c.first_of.result c.later_of.result inside c.first_of.ensures c.later_of.ensures c.loop-place.invariant c.enter_order.ensures
