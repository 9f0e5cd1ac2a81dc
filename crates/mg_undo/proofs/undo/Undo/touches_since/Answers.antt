use Rattle.std.proofs.Common.{sym, ◌∙◌}
use Rattle.mg_undo.specs.Undo.{state_of}
use Rattle.mg_undo.proofs.TouchLemmas.{told_back, told_back_without}
use Rattle.mg_undo.proofs.undo.Undo.touches_since.Goals as goal

pub returns-in-Some : goal.returns-in-Some
returns-in-Some c = told_back (state_of c.self.inside.changes c.self.inside.points.items c.self.inside.going_back)
    c.args.self.now c.args.table c.in-Some.floor c.args.n.now c.touch.result c.self.view_is c.self.invariant
    (sym c.in-Some.is ∙ c.floor_of_goal.ensures) c.touch.ensures

pub returns-in-None : goal.returns-in-None
returns-in-None c = told_back_without
    (state_of c.self.inside.changes c.self.inside.points.items c.self.inside.going_back) c.args.self.now c.args.table
    c.args.n.now c.self.view_is (sym c.in-None.is ∙ c.floor_of_goal.ensures)
