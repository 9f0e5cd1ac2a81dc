use Rattle.mg_undo.specs.Undo.{state_of}
use Rattle.mg_undo.proofs.Steps.{within_after}
use Rattle.mg_undo.proofs.undo.Undo.take_back.Goals as goal

pub invariant_of-self : goal.invariant_of-self
invariant_of-self c =
    within_after
    (state_of c.self.inside.changes c.self.inside.points.items c.self.inside.going_back)
    c.take_newest-given.new.changes c.take_newest-given.new.points.items
    c.take_newest-given.ensures.changes c.take_newest-given.ensures.points c.self.invariant
