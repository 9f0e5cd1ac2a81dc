use Rattle.std.proofs.Common.{ℕ, ◌<◌, sym, subst, arith}
use mathlib.Core.Option.{none}
use Rattle.atomic_table.specs.Table.{step, Allows}
use Rattle.mg_turn.specs.Keeping.{Kept}
use Rattle.mg_turn.specs.Tells.{Names}
use Rattle.mg_turn.proofs.StepsKeep.{names}
use Rattle.mg_turn.proofs.steps.give_name.Goals as goal

pub load-requires : goal.load-requires
load-requires g c = let turn = c.args.turn.now in let key = turn.table.shared.key in let me = c.args.seat.now.me in (
  c.requires.table,
  subst (λ (n : ℕ). 0 < n) (sym turn.sized.0) (omega arith),
  subst (λ (n : ℕ). Allows (Kept g.V.Served.answers g.V.Served.ends key.value.value key.first) n c.args.seat.now.id me 0 (λ k. k) (Names (step n 0 0 0 none) me)) (sym turn.sized.1)
      (names g.V.Served.answers g.V.Served.ends key.value.value key.first c.args.seat.now.id me c.requires.nameless.0 c.requires.nameless.1 c.requires.nameless.2),
)
