use Rattle.std.proofs.Common.{rules, refl, None}
use Rattle.mg_turn.proofs.turn.laid.Goals as goal

pub returns-clause-ok : goal.returns-clause-ok
returns-clause-ok g c = (record { value = c.args.value; last = None }, search rules, refl)
