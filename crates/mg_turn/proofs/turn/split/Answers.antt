use Rattle.std.proofs.Common.{ℕ, ◌<◌, sym, subst, arith}
use Rattle.mg_turn.proofs.Seats.{splits}
use Rattle.mg_turn.proofs.turn.split.Goals as goal

pub split_seat-other-requires : goal.split_seat-other-requires
split_seat-other-requires g c = let turn = c.args.turn.now in let key = turn.table.shared.key in let ready = c.requires in (
  ready.0,
  subst (λ (n : ℕ). 0 < n) (sym turn.sized.0) (omega arith),
  splits g.V.Served.answers g.V.Served.ends key.value.value key.first c.args.seat.now.id c.args.seat.now.me.0 ready.3.live ready.3.named ready.3.idle,
)
