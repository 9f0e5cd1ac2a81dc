use Rattle.std.proofs.Common.{◌≡◌, ℕ, ◌+◌, ◌-◌, ◌<◌, bit_or, sym, subst, arith}
use mathlib.Core.Option.{none}
use Rattle.atomic_table.specs.Table.{step, Allows}
use Rattle.mg_turn.specs.Histories.{EndIn}
use Rattle.mg_turn.specs.Keeping.{Kept}
use Rattle.mg_turn.specs.Tells.{Posts}
use Rattle.mg_turn.proofs.StepsKeep.{posts}
use Rattle.mg_turn.proofs.ends.post_end.Goals as goal

pub fetch_or-requires : goal.fetch_or-requires
fetch_or-requires g c = let turn = c.args.turn.now in let key = turn.table.shared.key in let me = c.args.seat.now.me in let t : ℕ = c.args.t in let i : ℕ = t - turn.first in let ready = c.requires.ready in
    let place : me.0.start + i ≡ t = let s = ready.2 in let r = c.requires.range.0 in omega arith in
    let inside : i < 65536 = let r = c.requires.range in omega arith in
    let small : 2 + i < 65538 = omega arith in (
      ready.0,
      subst (λ (n : ℕ). 2 + i < n) (sym turn.sized.0) small,
      subst (λ (z : ℕ × ℕ). Allows (Kept g.V.Served.answers g.V.Served.ends key.value.value key.first) z.0 c.args.seat.now.id me (2 + i) (λ k. bit_or k z.1) (Posts (step z.0 (2 + i) z.1 0 none) me)) (λ j. (sym turn.sized.1 j, sym c.mask.ensures j))
          (posts g.V.Served.answers g.V.Served.ends key.value.value key.first c.args.seat.now.id me ready.3.live ready.3.idle i inside c.args.end (subst (λ (u : ℕ). EndIn g.V.Served.ends me.0.seen u c.args.end) (sym place) c.requires.ended)),
    )
