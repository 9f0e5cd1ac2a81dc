use Rattle.std.specs.Prelude.{false}
use Rattle.std.proofs.Common.{sym, subst, ◌∙◌}
use Rattle.mg_undo.specs.Undo.{State, TellsTable, state_of}
use Rattle.mg_undo.proofs.TouchLemmas.{told_since, told_without}
use Rattle.mg_undo.proofs.undo.Undo.touches.Goals as goal

pub returns-in-Some : goal.returns-in-Some
returns-in-Some c = subst (λ (u : State). TellsTable c.args.table u c.touch.result) c.self.view_is
    (told_since (state_of c.self.inside.changes c.self.inside.points.items c.self.inside.going_back) c.args.table
    c.in-Some.floor c.touch.result c.self.invariant (sym c.in-Some.is ∙ c.floor_to.ensures) c.touch.ensures)

pub returns-in-None : goal.returns-in-None
returns-in-None c = subst (λ (u : State). TellsTable c.args.table u false) c.self.view_is
    (told_without (state_of c.self.inside.changes c.self.inside.points.items c.self.inside.going_back) c.args.table
    (sym c.in-None.is ∙ c.floor_to.ensures))
