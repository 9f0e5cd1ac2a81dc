use Rattle.std.proofs.Common.{◌≡◌, length}
use Rattle.mg_undo.specs.Undo.{settled}
use Rattle.mg_undo.proofs.changes.Changes.drop_repeated.Given as goal

abbrev pub invariant-loop-self : goal.invariant-loop-self
invariant-loop-self l = settled l.floor l.self ≡ settled l.floor l.initial.self

abbrev pub decreases-loop-self : goal.decreases-loop-self
decreases-loop-self l = length l.self
