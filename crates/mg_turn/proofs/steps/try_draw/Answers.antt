use Rattle.std.proofs.Common.{ℕ, ◌+◌, ◌<◌, eqb, sym, subst, arith}
use mathlib.Core.Option.{none}
use prog.Atomic.{either}
use Rattle.atomic_table.specs.Table.{step, Allows}
use Rattle.mg_turn.specs.Keeping.{Kept}
use Rattle.mg_turn.specs.Tells.{Draws}
use Rattle.mg_turn.proofs.StepsKeep.{draws}
use Rattle.mg_turn.proofs.steps.try_draw.Goals as goal

pub compare_exchange-found-requires : goal.compare_exchange-found-requires
compare_exchange-found-requires g c = let turn = c.args.turn.now in let key = turn.table.shared.key in let me = c.args.seat.now.me in let old : ℕ = c.peek-next.result in (
  c.requires.table,
  subst (λ (n : ℕ). 0 < n) (sym turn.sized.0) (omega arith),
  subst (λ (n : ℕ). Allows (Kept g.V.Served.answers g.V.Served.ends key.value.value key.first) n c.args.seat.now.id me 0 (λ k. either (eqb k old) (old + 1) k) (Draws (step n 0 old (old + 1) none) me)) (sym turn.sized.1)
      (draws g.V.Served.answers g.V.Served.ends key.value.value key.first c.args.seat.now.id me c.requires.idle.0 c.requires.idle.1 old),
)
