use Rattle.std.proofs.Common.{ℕ, ◌<◌, sym, subst, arith}
use mathlib.Core.Option.{none}
use Rattle.atomic_table.specs.Table.{step, Allows}
use Rattle.mg_turn.specs.Keeping.{Kept}
use Rattle.mg_turn.specs.Tells.{Looks}
use Rattle.mg_turn.proofs.StepsKeep.{looks}
use Rattle.mg_turn.proofs.steps.look.Goals as goal

pub load-requires : goal.load-requires
load-requires g c = let turn = c.args.turn.now in let key = turn.table.shared.key in let me = c.args.seat.now.me in (
  c.requires.table,
  subst (λ (n : ℕ). 1 < n) (sym turn.sized.0) (omega arith),
  subst (λ (n : ℕ). Allows (Kept g.V.Served.answers g.V.Served.ends key.value.value key.first) n c.args.seat.now.id me 1 (λ k. k) (Looks g.V.Served.answers g.V.Served.ends (step n 1 0 0 none) me)) (sym turn.sized.1)
      (looks g.V.Served.answers g.V.Served.ends key.value.value key.first c.args.seat.now.id me c.requires.waits.0 c.requires.waits.1),
)
