use Rattle.std.proofs.Common.{◌≡◌, ℕ, ◌+◌, ◌-◌, ◌<◌, sym, subst, arith}
use mathlib.Core.Option.{none}
use Rattle.atomic_table.specs.Table.{step, Allows}
use Rattle.mg_turn.specs.Keeping.{Kept}
use Rattle.mg_turn.specs.Tells.{Finds}
use Rattle.mg_turn.proofs.StepsKeep.{finds, none_open}
use Rattle.mg_turn.proofs.ends.end_of.Goals as goal

pub load-requires : goal.load-requires
load-requires g c = let turn = c.args.turn.now in let key = turn.table.shared.key in let me = c.args.seat.now.me in let i : ℕ = c.args.t - turn.first in let ready = c.requires.ready in
    let inside : i < 65536 = let r = c.requires.range in omega arith in
    let small : 2 + i < 65538 = omega arith in (
      ready.0,
      subst (λ (n : ℕ). 2 + i < n) (sym turn.sized.0) small,
      subst (λ (n : ℕ). Allows (Kept g.V.Served.answers g.V.Served.ends key.value.value key.first) n c.args.seat.now.id me (2 + i) (λ k. k) (Finds (step n (2 + i) 0 0 none) me)) (sym turn.sized.1)
          (finds g.V.Served.answers g.V.Served.ends key.value.value key.first c.args.seat.now.id me ready.3.live ready.3.idle i inside),
    )

pub returns-clause-none : goal.returns-clause-none
returns-clause-none g c = let turn = c.args.turn.now in let me = c.args.seat.now.me in let ready = c.requires.ready in let r = c.requires.range in let s : me.0.start ≡ turn.first = ready.2 in
    none_open g.V.Served.answers g.V.Served.ends turn.table.shared.key.value.value turn.table.shared.key.first c.told.result c.load.result c.told.ensures (me.0.start + ((2 + (c.args.t - turn.first)) - 2)) c.args.t (omega arith) me.0 c.load.ensures.2.1
