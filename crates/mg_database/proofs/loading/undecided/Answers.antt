use Rattle.std.proofs.Common.{arith, ap, ◌∙◌, ℕ, []}
use Rattle.mg_database.proofs.LoadingLemmas.{undecided_all, undecided_first}
use Rattle.mg_database.proofs.loading.undecided.Goals as goal

pub loop-from-init : goal.loop-from-init
loop-from-init c = (
  undecided_first c.args.list.now c.new-live.result
      (c.new-live.ensures ∙ ap (λ (n : ℕ). record { next = n; entered = [] }) c.next-next.ensures),
  omega arith,
  let some = c.requires.list.some in omega (arith, some),
)

pub returns : goal.returns
returns c = undecided_all c.args.list.now c.loop-from.from.0 c.loop-from.live c.requires.undrawn
    c.loop-from.invariant.1 (let past = c.loop-from-test.false in let next = c.next-next.ensures in
    omega (arith, past, next)) c.loop-from.invariant.0
