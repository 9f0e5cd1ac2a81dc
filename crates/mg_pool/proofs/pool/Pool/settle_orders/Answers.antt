use Rattle.std.proofs.Common.{sym, subst, arith, ℕ, inl, inr}
use Rattle.std.proofs.lemmas.Bool.{cases_eq}
use Rattle.mg_pool.specs.Change.{IsOpen, no_order, one_more}
use Rattle.mg_pool.proofs.OrderLemmas.{open_still}
use Rattle.mg_pool.proofs.RefusalLemmas.{err_up, fails_then}
use Rattle.mg_pool.proofs.RunLemmas.{run_starts, run_then}
use Rattle.mg_pool.proofs.pool.Pool.settle_orders.Goals as goal

pub loop-place-init : goal.loop-place-init
loop-place-init g c = record {
  run = run_starts g.D.Disk.meaning c.args.self.now c.requires.pool;
  settles = no_order;
  open_ = λ k low. absurd (omega arith);
  due = c.requires.due;
}

pub loop-place-preserved : goal.loop-place-preserved
loop-place-preserved g c =
    let step = c.in_ok-settle_order.ensures in
    record {
      run = run_then g.D.Disk.meaning g.met.D.Disk.holds g.met.D.Disk.counts_now c.args.self.now c.loop-place.self c.settle_order.new.self c.loop-place.invariant.run step.settles.run;
      settles = one_more c.settle_order.new.self c.loop-place.invariant.settles step.settles;
      open_ = λ k low. elim (cases_eq k c.loop-place.place) [
        | inl e ↦ subst (λ (x : ℕ). IsOpen c.settle_order.new.self.graph c.args.orders.now.items x) (sym e) step.open
        | inr apart ↦ open_still g.D.Disk.meaning c.loop-place.self c.settle_order.new.self step.settles.run c.args.orders.now.items k (c.loop-place.invariant.open_ k (omega arith))
      ];
      due = step.due;
    }

pub returns-in_err-settle_order-clause-settles : goal.returns-in_err-settle_order-clause-settles
returns-in_err-settle_order-clause-settles g c = err_up c.from_residual.result c.in_err-settle_order.field-0.0 _ _ c.from_residual.ensures.1 (fails_then g.D.Disk.meaning g.met.D.Disk.holds g.met.D.Disk.counts_now c.args.self.now c.loop-place.self c.settle_order.new.self _ c.loop-place.invariant.run c.in_err-settle_order.ensures.settles)
