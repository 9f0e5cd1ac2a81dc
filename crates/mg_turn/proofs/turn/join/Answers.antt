use Rattle.std.proofs.Common.{ℕ, ◌<◌, sym, subst, arith}
use Rattle.mg_turn.proofs.Seats.{joins}
use Rattle.mg_turn.proofs.turn.join.Goals as goal

pub join_seat-requires : goal.join_seat-requires
join_seat-requires g c = let turn = c.args.turn.now in let key = turn.table.shared.key in let mine = c.requires.ready.0 in let theirs = c.requires.ready.1 in (
  mine.0,
  theirs.0,
  theirs.1,
  subst (λ (n : ℕ). 0 < n) (sym turn.sized.0) (omega arith),
  joins g.V.Served.answers g.V.Served.ends key.value.value key.first c.args.seat.now.id c.args.seat.now.me.0 c.args.other.id c.args.other.me.0 mine.3.live mine.3.named mine.3.idle theirs.3.live theirs.3.named theirs.3.idle
      c.requires.split.0 c.requires.split.1,
)
