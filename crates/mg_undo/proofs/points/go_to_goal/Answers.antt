use Rattle.std.proofs.Common.{sym, ◌∙◌, ap}
use Rattle.mg_undo.specs.Undo.{floor_of}
use Rattle.mg_undo.proofs.Steps.{no_floor, some_floor}
use Rattle.mg_undo.proofs.points.go_to_goal.Goals as goal

pub returns-then-not-has_goal-clause-at : goal.returns-then-not-has_goal-clause-at
returns-then-not-has_goal-clause-at c =
    no_floor c.args.going_back c.args.points.now.items c.if-going_back.false
    (sym c.has_goal.ensures ∙ c.if-not-has_goal.true)

pub returns-clause-none : goal.returns-clause-none
returns-clause-none c =
    some_floor c.floor_at-2.result c.args.points.now.items _
    (c.floor_at-2.ensures ∙ ap floor_of c.drop_to_goal.ensures)
    (sym c.has_goal.ensures ∙ c.if-not-has_goal.false)
