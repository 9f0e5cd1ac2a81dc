use Rattle.std.proofs.Common.{◌≡◌, ◌<◌, ◌∙◌, sym, false, length, get_or, arith, inl}
use Rattle.std.proofs.lemmas.List.{get_or_read}
use Rattle.mg_pool.proofs.OrderLemmas.{due_more, due_skip}
use Rattle.mg_pool.proofs.RefusalLemmas.{err_up, fails_then}
use Rattle.mg_pool.proofs.pool.Pool.write_due.Goals as goal
use Rattle.mg_pool.proofs.pool.Pool.write_due.Goals.{then-index+in_ok-write_with, else-index}

pub loop-place-init : goal.loop-place-init
loop-place-init g c = record {
  run = c.in_ok-write_predecessors.ensures.run;
  ready = c.in_ok-write_predecessors.ensures.ready;
  due_out = λ i low marked. absurd (omega arith);
  no_other = λ page out. inl (c.in_ok-write_predecessors.ensures.no_other page out);
}

pub loop-place-preserved : goal.loop-place-preserved
loop-place-preserved g c =
    let m = g.D.Disk.meaning in
    let inside : c.loop-place.place < length c.args.orders.now.items = omega arith in
    let inside_due : c.loop-place.place < length c.args.due.now.items = omega arith in
    let read : c.index.result.now ≡ get_or c.args.due.now.items c.loop-place.place false = get_or_read c.args.due.now.items c.loop-place.place c.index.result.now inside_due c.index.ensures false in
    elim c.if-index.branch [
      | then-index+in_ok-write_with w ↦ rw w.self-is (due_more m g.met.D.Disk.holds g.met.D.Disk.counts_now c.args.orders.now.items c.args.due.now.items c.args.goal c.args.self.now c.loop-place.self w.write_with.new.self c.loop-place.place w.first_of.result c.loop-place.invariant (sym read ∙ w.if-index.true) inside w.first_of.ensures w.in_ok-write_with.ensures.with)
      | else-index w ↦ rw w.self-is (due_skip m c.args.orders.now.items c.args.due.now.items c.args.goal c.args.self.now c.loop-place.self c.loop-place.place c.loop-place.invariant (sym read ∙ w.if-index.false))
    ]

pub returns-in_err-write_with : goal.returns-in_err-write_with
returns-in_err-write_with g c = err_up c.from_residual-in_err-write_with.result c.in_err-write_with.field-0.0 _ _ c.from_residual-in_err-write_with.ensures.1 (fails_then g.D.Disk.meaning g.met.D.Disk.holds g.met.D.Disk.counts_now c.args.self.now c.loop-place.self c.write_with.new.self _ c.loop-place.invariant.run c.in_err-write_with.ensures.with)
