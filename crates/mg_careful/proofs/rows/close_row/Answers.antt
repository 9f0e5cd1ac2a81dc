use Rattle.mg_careful.proofs.ClosureLemmas.{closure_same, closure_more}
use Rattle.mg_careful.proofs.RowsLemmas.{until_skip, until_take, until_row}
use Rattle.std.proofs.Common.{◌≡◌, true, false, arith, subst, ℕ, refl}
use Rattle.mg_careful.specs.Rows.{bit, IsClosure, orders_until}
use Rattle.mg_careful.proofs.rows.close_row.Goals as goal
use Rattle.mg_careful.proofs.rows.close_row.Goals.{then-is_set, else-is_set}

pub loop-first-preserved : goal.loop-first-preserved
loop-first-preserved c =
    elim c.if-is_set.branch [
      | then-is_set w ↦
          let taken : bit c.args.before.now.items c.args.later c.loop-first.first ≡ true = cc in
          rw (w.after-is, w.row-is) (w.close.ensures.square, w.close.ensures.row, closure_more _ _ _ _ c.loop-first.first c.args.later c.loop-first.invariant.2 (until_take c.args.before.now.items c.args.later c.loop-first.first taken) w.close.ensures.bits)
      | else-is_set w ↦
          let skipped : bit c.args.before.now.items c.args.later c.loop-first.first ≡ false = cc in
          rw (w.after-is, w.row-is) (c.loop-first.invariant.0, c.loop-first.invariant.1, closure_same _ _ _ _ c.loop-first.invariant.2 (until_skip c.args.before.now.items c.args.later c.loop-first.first skipped) (λ a b. refl))
    ]

pub returns-clause-closure : goal.returns-clause-closure
returns-clause-closure c =
    let at_end : c.loop-first.first ≡ c.args.size = omega arith in
    let closed : IsClosure (orders_until c.args.before.now.items c.args.later c.args.size) (bit c.loop-first.after.items) = subst (λ (k : ℕ). IsClosure (orders_until c.args.before.now.items c.args.later k) (bit c.loop-first.after.items)) at_end c.loop-first.invariant.2 in
    closure_same _ _ _ _ closed (until_row c.args.size c.args.before.now.items c.requires.before c.args.later) (λ a b. refl)
