use Rattle.std.proofs.Common.{sym, subst, ◌∙◌}
use mathlib.Core.Option.{some-injective}
use Rattle.mg_turn.specs.declared.rule.Slot.{Slot}
use Rattle.mg_turn.specs.Promises.{Stands}
use Rattle.mg_turn.proofs.Seats.{ends_so}
use Rattle.mg_turn.proofs.turn.close.Goals as goal

pub returns-clause-stands : goal.returns-clause-stands
returns-clause-stands g c =
    let key = c.args.turn.table.shared.key in let final = c.close_with-closed.ensures.values.2 in let ready = c.requires.ready.3 in
    let e = ends_so g.V.Served.answers g.V.Served.ends key.value.value key.first final.0 final.1.0 c.args.seat.id c.args.seat.me.0 final.1.1 ready.live ready.named ready.idle c.requires.all_joined.0 c.requires.all_joined.1 in
    let x = e.1 in
    subst (λ (z : Slot g.row.V.Denot g.row.V-Call.Denot g.row.V-Reply.Denot). Stands g.V.Served.answers c.args.seat.me.0 z.value) (some-injective x.0 c.take-slot.result (sym (final.4 0 x.0 x.1) ∙ c.take-slot.ensures.value)) x.2

pub returns-clause-whole : goal.returns-clause-whole
returns-clause-whole g c =
    let key = c.args.turn.table.shared.key in let final = c.close_with-closed.ensures.values.2 in let ready = c.requires.ready.3 in
    (ends_so g.V.Served.answers g.V.Served.ends key.value.value key.first final.0 final.1.0 c.args.seat.id c.args.seat.me.0 final.1.1 ready.live ready.named ready.idle c.requires.all_joined.0 c.requires.all_joined.1).0
