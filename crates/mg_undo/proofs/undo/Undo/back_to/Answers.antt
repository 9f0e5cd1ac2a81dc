use Rattle.std.proofs.Common.{length}
use Rattle.std.specs.Prelude.{Some}
use Rattle.mg_undo.proofs.Steps.{from_within, held_at}
use Rattle.mg_undo.proofs.undo.Undo.back_to.Goals as goal

pub invariant_of-self : goal.invariant_of-self
invariant_of-self c =
    held_at (length c.self.inside.changes) c.drop_to_goal.new.points.items _
    c.drop_to_goal.ensures
    (from_within (Some c.args.n.now) (length c.self.inside.changes)
    c.self.inside.points.items c.self.invariant)
