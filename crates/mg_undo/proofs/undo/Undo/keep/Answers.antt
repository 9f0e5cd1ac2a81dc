use Rattle.std.proofs.Common.{arith, ap, length}
use Rattle.mg_undo.proofs.Steps.{within_more}
use Rattle.mg_undo.proofs.undo.Undo.keep.Goals as goal

pub invariant_of-self-2 : goal.invariant_of-self-2
invariant_of-self-2 c =
    within_more (length c.self.inside.changes) (length c.push.new.self)
    c.self.inside.points.items (omega (arith, ap length c.in_ok-push.ensures.ok)) c.self.invariant
