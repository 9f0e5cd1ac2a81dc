-- The rows so far are those that passed.
use Rattle.std.proofs.Common.{◌≡◌, map, take, filter}
use Rattle.mg_model.specs.Answers.{passes}
use Rattle.mg_plain.proofs.plain.judging.passing.Given as goal

abbrev pub invariant-loop-row : goal.invariant-loop-row
invariant-loop-row l = l.passing.items ≡ filter (passes l.test) (map (λ row. row.1) (take l.row-index l.rows))
