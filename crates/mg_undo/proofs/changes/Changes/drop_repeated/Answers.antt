use Rattle.std.proofs.Common.{sym, ◌∙◌, rules}
use Rattle.mg_undo.proofs.Steps.{settled_low}
use Rattle.mg_undo.proofs.changes.Changes.drop_repeated.Goals as goal

pub returns-after-loop-self : goal.returns-after-loop-self
returns-after-loop-self c =
    sym (settled_low c.args.floor c.loop-self.self (search rules))
    ∙ c.loop-self.invariant
