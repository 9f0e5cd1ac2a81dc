use Rattle.std.proofs.Common.{subst, List, inl}
use Rattle.mg_careful.specs.declared.graph.Order.{Order}
use Rattle.mg_pool.specs.declared.batch.BatchPage.{BatchPage}
use Rattle.mg_pool.specs.Change.{Changes}
use Rattle.mg_pool.proofs.ChangeLemmas.{frame, change_crash, open_put}
use Rattle.mg_pool.proofs.OrderLemmas.{open_still}
use Rattle.mg_pool.proofs.RefusalLemmas.{fails_then, fails_kept, fails_crash, fails_fault, fails_own, fails_refused}
use Rattle.mg_pool.proofs.RunLemmas.{run_then, on_err}
use Rattle.mg_pool.proofs.pool.Pool.change.Goals as goal

pub returns-in_err-settle_orders-clause-pool : goal.returns-in_err-settle_orders-clause-pool
returns-in_err-settle_orders-clause-pool g c =
    let m = g.D.Disk.meaning in
    let fails = c.in_err-settle_orders.ensures.settles in
    fails.fails.pool

pub returns-in_err-settle_orders-clause-fault : goal.returns-in_err-settle_orders-clause-fault
returns-in_err-settle_orders-clause-fault g c =
    let m = g.D.Disk.meaning in
    let fails = c.in_err-settle_orders.ensures.settles in
    fails_fault m g.met.D.Disk.holds g.met.D.Disk.counts_now c.args.self.now c.settle_orders.new.self c.in_err-settle_orders.field-0.0 fails c.from_residual-in_err-settle_orders.result c.from_residual-in_err-settle_orders.ensures.1 c.in_ok-online.ensures.fault.0

pub returns-in_err-settle_orders-clause-own : goal.returns-in_err-settle_orders-clause-own
returns-in_err-settle_orders-clause-own g c =
    let m = g.D.Disk.meaning in
    let fails = c.in_err-settle_orders.ensures.settles in
    inl (fails_own m g.met.D.Disk.holds g.met.D.Disk.counts_now c.args.self.now c.settle_orders.new.self c.in_err-settle_orders.field-0.0 fails c.from_residual-in_err-settle_orders.result c.from_residual-in_err-settle_orders.ensures.1)

pub returns-in_err-settle_orders-clause-geometry : goal.returns-in_err-settle_orders-clause-geometry
returns-in_err-settle_orders-clause-geometry g c =
    let m = g.D.Disk.meaning in
    let fails = c.in_err-settle_orders.ensures.settles in
    (fails_kept m g.met.D.Disk.holds g.met.D.Disk.counts_now c.args.self.now c.settle_orders.new.self c.in_err-settle_orders.field-0.0 fails).geometry

pub returns-in_err-settle_orders-clause-same : goal.returns-in_err-settle_orders-clause-same
returns-in_err-settle_orders-clause-same g c =
    let m = g.D.Disk.meaning in
    let fails = c.in_err-settle_orders.ensures.settles in
    on_err c.from_residual-in_err-settle_orders.result _ (fails_kept m g.met.D.Disk.holds g.met.D.Disk.counts_now c.args.self.now c.settle_orders.new.self c.in_err-settle_orders.field-0.0 fails)

pub returns-in_err-settle_orders-clause-refused : goal.returns-in_err-settle_orders-clause-refused
returns-in_err-settle_orders-clause-refused g c =
    let m = g.D.Disk.meaning in
    let fails = c.in_err-settle_orders.ensures.settles in
    fails_refused m g.met.D.Disk.holds g.met.D.Disk.counts_now c.args.self.now c.settle_orders.new.self c.in_err-settle_orders.field-0.0 fails c.from_residual-in_err-settle_orders.result c.from_residual-in_err-settle_orders.ensures.1

pub returns-in_err-settle_orders-clause-crash : goal.returns-in_err-settle_orders-clause-crash
returns-in_err-settle_orders-clause-crash g c =
    let m = g.D.Disk.meaning in
    let fails = c.in_err-settle_orders.ensures.settles in
    fails_crash m g.met.D.Disk.holds g.met.D.Disk.counts_now c.args.self.now c.settle_orders.new.self c.in_err-settle_orders.field-0.0 fails

pub returns-in_err-make_room-clause-pool : goal.returns-in_err-make_room-clause-pool
returns-in_err-make_room-clause-pool g c =
    let m = g.D.Disk.meaning in
    let fails = fails_then m g.met.D.Disk.holds g.met.D.Disk.counts_now c.args.self.now c.settle_orders.new.self c.make_room.new.self c.in_err-make_room.field-0.0 c.in_ok-settle_orders.ensures.run c.in_err-make_room.ensures.room in
    fails.fails.pool

pub returns-in_err-make_room-clause-fault : goal.returns-in_err-make_room-clause-fault
returns-in_err-make_room-clause-fault g c =
    let m = g.D.Disk.meaning in
    let fails = fails_then m g.met.D.Disk.holds g.met.D.Disk.counts_now c.args.self.now c.settle_orders.new.self c.make_room.new.self c.in_err-make_room.field-0.0 c.in_ok-settle_orders.ensures.run c.in_err-make_room.ensures.room in
    fails_fault m g.met.D.Disk.holds g.met.D.Disk.counts_now c.args.self.now c.make_room.new.self c.in_err-make_room.field-0.0 fails c.from_residual-in_err-make_room.result c.from_residual-in_err-make_room.ensures.1 c.in_ok-online.ensures.fault.0

pub returns-in_err-make_room-clause-own : goal.returns-in_err-make_room-clause-own
returns-in_err-make_room-clause-own g c =
    let m = g.D.Disk.meaning in
    let fails = fails_then m g.met.D.Disk.holds g.met.D.Disk.counts_now c.args.self.now c.settle_orders.new.self c.make_room.new.self c.in_err-make_room.field-0.0 c.in_ok-settle_orders.ensures.run c.in_err-make_room.ensures.room in
    inl (fails_own m g.met.D.Disk.holds g.met.D.Disk.counts_now c.args.self.now c.make_room.new.self c.in_err-make_room.field-0.0 fails c.from_residual-in_err-make_room.result c.from_residual-in_err-make_room.ensures.1)

pub returns-in_err-make_room-clause-geometry : goal.returns-in_err-make_room-clause-geometry
returns-in_err-make_room-clause-geometry g c =
    let m = g.D.Disk.meaning in
    let fails = fails_then m g.met.D.Disk.holds g.met.D.Disk.counts_now c.args.self.now c.settle_orders.new.self c.make_room.new.self c.in_err-make_room.field-0.0 c.in_ok-settle_orders.ensures.run c.in_err-make_room.ensures.room in
    (fails_kept m g.met.D.Disk.holds g.met.D.Disk.counts_now c.args.self.now c.make_room.new.self c.in_err-make_room.field-0.0 fails).geometry

pub returns-in_err-make_room-clause-same : goal.returns-in_err-make_room-clause-same
returns-in_err-make_room-clause-same g c =
    let m = g.D.Disk.meaning in
    let fails = fails_then m g.met.D.Disk.holds g.met.D.Disk.counts_now c.args.self.now c.settle_orders.new.self c.make_room.new.self c.in_err-make_room.field-0.0 c.in_ok-settle_orders.ensures.run c.in_err-make_room.ensures.room in
    on_err c.from_residual-in_err-make_room.result _ (fails_kept m g.met.D.Disk.holds g.met.D.Disk.counts_now c.args.self.now c.make_room.new.self c.in_err-make_room.field-0.0 fails)

pub returns-in_err-make_room-clause-refused : goal.returns-in_err-make_room-clause-refused
returns-in_err-make_room-clause-refused g c =
    let m = g.D.Disk.meaning in
    let fails = fails_then m g.met.D.Disk.holds g.met.D.Disk.counts_now c.args.self.now c.settle_orders.new.self c.make_room.new.self c.in_err-make_room.field-0.0 c.in_ok-settle_orders.ensures.run c.in_err-make_room.ensures.room in
    fails_refused m g.met.D.Disk.holds g.met.D.Disk.counts_now c.args.self.now c.make_room.new.self c.in_err-make_room.field-0.0 fails c.from_residual-in_err-make_room.result c.from_residual-in_err-make_room.ensures.1

pub returns-in_err-make_room-clause-crash : goal.returns-in_err-make_room-clause-crash
returns-in_err-make_room-clause-crash g c =
    let m = g.D.Disk.meaning in
    let fails = fails_then m g.met.D.Disk.holds g.met.D.Disk.counts_now c.args.self.now c.settle_orders.new.self c.make_room.new.self c.in_err-make_room.field-0.0 c.in_ok-settle_orders.ensures.run c.in_err-make_room.ensures.room in
    fails_crash m g.met.D.Disk.holds g.met.D.Disk.counts_now c.args.self.now c.make_room.new.self c.in_err-make_room.field-0.0 fails

pub enter_orders-requires-clause-open : goal.enter_orders-requires-clause-open
enter_orders-requires-clause-open g c = λ k inside.
    open_put c.make_room.new.self.graph c.put_pages.new.self.graph c.into_parts-pages.result.1.items k c.put_pages.ensures.ordered
    (open_still g.D.Disk.meaning c.settle_orders.new.self c.make_room.new.self c.in_ok-make_room.ensures.run c.into_parts-pages.result.1.items k (c.in_ok-settle_orders.ensures.open k inside))

pub returns-clause-changes : goal.returns-clause-changes
returns-clause-changes g c =
    let m = g.D.Disk.meaning in
    let parts : Changes m c.args.self.now c.enter_orders.new.self c.into_parts-pages.result.0.items c.into_parts-pages.result.1.items = record {
      settled = c.settle_orders.new.self;
      ready = c.make_room.new.self;
      for_orders = c.in_ok-settle_orders.ensures.settles;
      for_room = c.in_ok-make_room.ensures.room;
      fits = c.in_ok-make_room.ensures.fits;
      written = run_then m g.met.D.Disk.holds g.met.D.Disk.counts_now c.args.self.now c.settle_orders.new.self c.make_room.new.self c.in_ok-settle_orders.ensures.run c.in_ok-make_room.ensures.run;
      put = c.put_pages.new.self;
      puts = c.put_pages.ensures;
      enters = c.enter_orders.ensures;
    } in
    subst (λ (os : List Order). Changes m c.args.self.now c.enter_orders.new.self c.args.batch.pages os) c.into_parts-pages.ensures.orders
    (subst (λ (ps : List BatchPage). Changes m c.args.self.now c.enter_orders.new.self ps c.into_parts-pages.result.1.items) c.into_parts-pages.ensures.pages parts)

pub returns-clause-frame : goal.returns-clause-frame
returns-clause-frame g c = frame g.D.Disk.meaning c.args.self.now c.enter_orders.new.self c.args.batch.pages c.args.batch.orders (returns-clause-changes g c)

pub returns-clause-crash : goal.returns-clause-crash
returns-clause-crash g c = change_crash g.D.Disk.meaning c.args.self.now c.enter_orders.new.self c.args.batch.pages c.args.batch.orders (returns-clause-changes g c)
