use Rattle.std.proofs.Common.{ℕ, ◌+◌, ◌<◌, sym, subst, arith}
use mathlib.Core.Option.{none}
use Rattle.atomic_table.specs.Table.{step, Allows}
use Rattle.mg_turn.specs.Keeping.{Kept}
use Rattle.mg_turn.specs.Tells.{Passes}
use Rattle.mg_turn.proofs.StepsKeep.{passes_at}
use Rattle.mg_turn.proofs.steps.pass.Goals as goal

pub store-requires : goal.store-requires
store-requires g c = let turn = c.args.turn.now in let key = turn.table.shared.key in let me = c.args.seat.now.me in let h = c.requires.holds in let m = c.requires.made in (
  c.requires.table,
  subst (λ (n : ℕ). 1 < n) (sym turn.sized.0) (omega arith),
  subst (λ (n : ℕ). Allows (Kept g.V.Served.answers g.V.Served.ends key.value.value key.first) n c.args.seat.now.id me 1 (λ _. c.args.number + 1) (λ _. Passes (step n 1 (c.args.number + 1) 0 none) me (c.args.number + 1))) (sym turn.sized.1)
      (passes_at g.V.Served.answers g.V.Served.ends key.value.value key.first c.args.seat.now.id me m.0 m.1 m.2 c.args.number h.0 h.1 h.2 h.3 m.3 m.4 m.5 m.6),
)
