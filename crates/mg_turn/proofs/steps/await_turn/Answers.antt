use Rattle.std.proofs.Common.{subst}
use Rattle.atomic_table.specs.Table.{Me}
use Rattle.mg_turn.specs.declared.rule.Slot.{Slot}
use Rattle.mg_turn.specs.declared.rule.View.{View}
use Rattle.mg_turn.specs.Tells.{Taken}
use Rattle.mg_turn.proofs.steps.await_turn.Goals as goal

pub returns-then-look-clause-taken : goal.returns-then-look-clause-taken
returns-then-look-clause-taken g c = subst (λ (m : Me (Slot g.row.V.Denot g.row.V-Call.Denot g.row.V-Reply.Denot) (View g.row.V.Denot g.row.V-Call.Denot g.row.V-Reply.Denot)). Taken g.V.Served.answers g.V.Served.ends m c.look.new.seat.me) c.loop.invariant.2 c.if-look.ensures.looked
