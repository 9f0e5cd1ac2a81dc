use Rattle.std.proofs.Common.{◌∙◌, sym, [], ◌∷◌}
use Rattle.mg_careful.specs.PrecedenceLaws.{precedes_in}
use Rattle.mg_careful.specs.Graph.{is_ordered}
use Rattle.mg_pool.specs.Batch.{orders_of}
use Rattle.mg_pool.proofs.ChangeLemmas.{puts_one, room_one, frame, change_crash}
use Rattle.mg_pool.proofs.RefusalLemmas.{fails_then, fails_kept, fails_crash, fails_fault, fails_own, fails_refused}
use Rattle.mg_pool.proofs.RunLemmas.{run_then, run_precedes, on_err}
use Rattle.mg_pool.proofs.pool.Pool.change_one.Goals as goal

pub returns-in_err-settle_one-clause-pool : goal.returns-in_err-settle_one-clause-pool
returns-in_err-settle_one-clause-pool g c =
    let m = g.D.Disk.meaning in
    let fails = c.in_err-settle_one.ensures.settles in
    fails.fails.pool

pub returns-in_err-settle_one-clause-fault : goal.returns-in_err-settle_one-clause-fault
returns-in_err-settle_one-clause-fault g c =
    let m = g.D.Disk.meaning in
    let fails = c.in_err-settle_one.ensures.settles in
    fails_fault m g.met.D.Disk.holds g.met.D.Disk.counts_now c.args.self.now c.settle_one.new.self c.in_err-settle_one.field-0.0 fails c.from_residual-in_err-settle_one.result c.from_residual-in_err-settle_one.ensures.1 c.in_ok-online.ensures.fault.0

pub returns-in_err-settle_one-clause-own : goal.returns-in_err-settle_one-clause-own
returns-in_err-settle_one-clause-own g c =
    let m = g.D.Disk.meaning in
    let fails = c.in_err-settle_one.ensures.settles in
    fails_own m g.met.D.Disk.holds g.met.D.Disk.counts_now c.args.self.now c.settle_one.new.self c.in_err-settle_one.field-0.0 fails c.from_residual-in_err-settle_one.result c.from_residual-in_err-settle_one.ensures.1

pub returns-in_err-settle_one-clause-geometry : goal.returns-in_err-settle_one-clause-geometry
returns-in_err-settle_one-clause-geometry g c =
    let m = g.D.Disk.meaning in
    let fails = c.in_err-settle_one.ensures.settles in
    (fails_kept m g.met.D.Disk.holds g.met.D.Disk.counts_now c.args.self.now c.settle_one.new.self c.in_err-settle_one.field-0.0 fails).geometry

pub returns-in_err-settle_one-clause-same : goal.returns-in_err-settle_one-clause-same
returns-in_err-settle_one-clause-same g c =
    let m = g.D.Disk.meaning in
    let fails = c.in_err-settle_one.ensures.settles in
    on_err c.from_residual-in_err-settle_one.result _ (fails_kept m g.met.D.Disk.holds g.met.D.Disk.counts_now c.args.self.now c.settle_one.new.self c.in_err-settle_one.field-0.0 fails)

pub returns-in_err-settle_one-clause-refused : goal.returns-in_err-settle_one-clause-refused
returns-in_err-settle_one-clause-refused g c =
    let m = g.D.Disk.meaning in
    let fails = c.in_err-settle_one.ensures.settles in
    fails_refused m g.met.D.Disk.holds g.met.D.Disk.counts_now c.args.self.now c.settle_one.new.self c.in_err-settle_one.field-0.0 fails c.from_residual-in_err-settle_one.result c.from_residual-in_err-settle_one.ensures.1

pub returns-in_err-settle_one-clause-crash : goal.returns-in_err-settle_one-clause-crash
returns-in_err-settle_one-clause-crash g c =
    let m = g.D.Disk.meaning in
    let fails = c.in_err-settle_one.ensures.settles in
    fails_crash m g.met.D.Disk.holds g.met.D.Disk.counts_now c.args.self.now c.settle_one.new.self c.in_err-settle_one.field-0.0 fails

pub returns-in_err-make_room_for_one-clause-pool : goal.returns-in_err-make_room_for_one-clause-pool
returns-in_err-make_room_for_one-clause-pool g c =
    let m = g.D.Disk.meaning in
    let fails = fails_then m g.met.D.Disk.holds g.met.D.Disk.counts_now c.args.self.now c.settle_one.new.self c.make_room_for_one.new.self c.in_err-make_room_for_one.field-0.0 c.in_ok-settle_one.ensures.run c.in_err-make_room_for_one.ensures.room in
    fails.fails.pool

pub returns-in_err-make_room_for_one-clause-fault : goal.returns-in_err-make_room_for_one-clause-fault
returns-in_err-make_room_for_one-clause-fault g c =
    let m = g.D.Disk.meaning in
    let fails = fails_then m g.met.D.Disk.holds g.met.D.Disk.counts_now c.args.self.now c.settle_one.new.self c.make_room_for_one.new.self c.in_err-make_room_for_one.field-0.0 c.in_ok-settle_one.ensures.run c.in_err-make_room_for_one.ensures.room in
    fails_fault m g.met.D.Disk.holds g.met.D.Disk.counts_now c.args.self.now c.make_room_for_one.new.self c.in_err-make_room_for_one.field-0.0 fails c.from_residual-in_err-make_room_for_one.result c.from_residual-in_err-make_room_for_one.ensures.1 c.in_ok-online.ensures.fault.0

pub returns-in_err-make_room_for_one-clause-own : goal.returns-in_err-make_room_for_one-clause-own
returns-in_err-make_room_for_one-clause-own g c =
    let m = g.D.Disk.meaning in
    let fails = fails_then m g.met.D.Disk.holds g.met.D.Disk.counts_now c.args.self.now c.settle_one.new.self c.make_room_for_one.new.self c.in_err-make_room_for_one.field-0.0 c.in_ok-settle_one.ensures.run c.in_err-make_room_for_one.ensures.room in
    fails_own m g.met.D.Disk.holds g.met.D.Disk.counts_now c.args.self.now c.make_room_for_one.new.self c.in_err-make_room_for_one.field-0.0 fails c.from_residual-in_err-make_room_for_one.result c.from_residual-in_err-make_room_for_one.ensures.1

pub returns-in_err-make_room_for_one-clause-geometry : goal.returns-in_err-make_room_for_one-clause-geometry
returns-in_err-make_room_for_one-clause-geometry g c =
    let m = g.D.Disk.meaning in
    let fails = fails_then m g.met.D.Disk.holds g.met.D.Disk.counts_now c.args.self.now c.settle_one.new.self c.make_room_for_one.new.self c.in_err-make_room_for_one.field-0.0 c.in_ok-settle_one.ensures.run c.in_err-make_room_for_one.ensures.room in
    (fails_kept m g.met.D.Disk.holds g.met.D.Disk.counts_now c.args.self.now c.make_room_for_one.new.self c.in_err-make_room_for_one.field-0.0 fails).geometry

pub returns-in_err-make_room_for_one-clause-same : goal.returns-in_err-make_room_for_one-clause-same
returns-in_err-make_room_for_one-clause-same g c =
    let m = g.D.Disk.meaning in
    let fails = fails_then m g.met.D.Disk.holds g.met.D.Disk.counts_now c.args.self.now c.settle_one.new.self c.make_room_for_one.new.self c.in_err-make_room_for_one.field-0.0 c.in_ok-settle_one.ensures.run c.in_err-make_room_for_one.ensures.room in
    on_err c.from_residual-in_err-make_room_for_one.result _ (fails_kept m g.met.D.Disk.holds g.met.D.Disk.counts_now c.args.self.now c.make_room_for_one.new.self c.in_err-make_room_for_one.field-0.0 fails)

pub returns-in_err-make_room_for_one-clause-refused : goal.returns-in_err-make_room_for_one-clause-refused
returns-in_err-make_room_for_one-clause-refused g c =
    let m = g.D.Disk.meaning in
    let fails = fails_then m g.met.D.Disk.holds g.met.D.Disk.counts_now c.args.self.now c.settle_one.new.self c.make_room_for_one.new.self c.in_err-make_room_for_one.field-0.0 c.in_ok-settle_one.ensures.run c.in_err-make_room_for_one.ensures.room in
    fails_refused m g.met.D.Disk.holds g.met.D.Disk.counts_now c.args.self.now c.make_room_for_one.new.self c.in_err-make_room_for_one.field-0.0 fails c.from_residual-in_err-make_room_for_one.result c.from_residual-in_err-make_room_for_one.ensures.1

pub returns-in_err-make_room_for_one-clause-crash : goal.returns-in_err-make_room_for_one-clause-crash
returns-in_err-make_room_for_one-clause-crash g c =
    let m = g.D.Disk.meaning in
    let fails = fails_then m g.met.D.Disk.holds g.met.D.Disk.counts_now c.args.self.now c.settle_one.new.self c.make_room_for_one.new.self c.in_err-make_room_for_one.field-0.0 c.in_ok-settle_one.ensures.run c.in_err-make_room_for_one.ensures.room in
    fails_crash m g.met.D.Disk.holds g.met.D.Disk.counts_now c.args.self.now c.make_room_for_one.new.self c.in_err-make_room_for_one.field-0.0 fails

pub put_page-requires-clause-room : goal.put_page-requires-clause-room
put_page-requires-clause-room g c = room_one c.make_room_for_one.new.self.dirty c.args.page.0 c.args.bytes.now (c.in_ok-make_room_for_one.ensures.fits c.args.bytes.now)

pub enter_one-requires-clause-open : goal.enter_one-requires-clause-open
enter_one-requires-clause-open g c = λ x same chain.
    c.in_ok-settle_one.ensures.open x same (run_precedes g.D.Disk.meaning c.settle_one.new.self c.make_room_for_one.new.self c.in_ok-make_room_for_one.ensures.run c.args.page.0 x.0
    (precedes_in (is_ordered c.put_page.new.self.graph) (is_ordered c.make_room_for_one.new.self.graph) (λ a b o. sym (c.put_page.ensures.entered.ordered a b) ∙ o) c.args.page.0 x.0 chain))

pub returns-clause-changes : goal.returns-clause-changes
returns-clause-changes g c = record {
  settled = c.settle_one.new.self;
  ready = c.make_room_for_one.new.self;
  for_orders = c.in_ok-settle_one.ensures.settles;
  for_room = c.in_ok-make_room_for_one.ensures.room c.args.bytes.now;
  fits = c.in_ok-make_room_for_one.ensures.fits c.args.bytes.now;
  written = run_then g.D.Disk.meaning g.met.D.Disk.holds g.met.D.Disk.counts_now c.args.self.now c.settle_one.new.self c.make_room_for_one.new.self c.in_ok-settle_one.ensures.run c.in_ok-make_room_for_one.ensures.run;
  put = c.put_page.new.self;
  puts = puts_one g.D.Disk.meaning c.make_room_for_one.new.self c.put_page.new.self c.args.page.0 c.args.bytes.now c.put_page.ensures.pool c.put_page.ensures.content c.put_page.ensures.entered c.put_page.ensures.same;
  enters = c.enter_one.ensures;
}

pub returns-clause-frame : goal.returns-clause-frame
returns-clause-frame g c = frame g.D.Disk.meaning c.args.self.now c.enter_one.new.self (record { page = c.args.page.0; bytes = c.args.bytes.now } ∷ []) (orders_of c.args.first c.args.page) (returns-clause-changes g c)

pub returns-clause-crash : goal.returns-clause-crash
returns-clause-crash g c = change_crash g.D.Disk.meaning c.args.self.now c.enter_one.new.self (record { page = c.args.page.0; bytes = c.args.bytes.now } ∷ []) (orders_of c.args.first c.args.page) (returns-clause-changes g c)
