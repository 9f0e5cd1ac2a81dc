use Rattle.mg_careful.proofs.ClosureLemmas.{closure_same}
use Rattle.mg_careful.proofs.RowsLemmas.{until_none, until_all, closure_none}
use Rattle.std.proofs.Common.{◌≡◌, arith, subst, ℕ, refl}
use Rattle.mg_careful.specs.Rows.{bit, IsClosure, orders_until}
use Rattle.mg_careful.proofs.rows.close_all.Goals as goal

pub loop-later-init : goal.loop-later-init
loop-later-init c = (c.clear_all.ensures.square, c.requires.row, closure_none _ _ (until_none c.args.before.now.items) c.clear_all.ensures.bits)

pub returns-clause-closure : goal.returns-clause-closure
returns-clause-closure c =
    let at_end : c.loop-later.later ≡ c.args.size = omega arith in
    let closed : IsClosure (orders_until c.args.before.now.items c.args.size 0) (bit c.loop-later.after.items) = subst (λ (k : ℕ). IsClosure (orders_until c.args.before.now.items k 0) (bit c.loop-later.after.items)) at_end c.loop-later.invariant.2 in
    closure_same _ _ _ _ closed (until_all c.args.size c.args.before.now.items c.requires.before) (λ a b. refl)
