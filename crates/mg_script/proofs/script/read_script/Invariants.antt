use Rattle.std.proofs.Common.{◌≡◌, ◌≤◌, length, ℕ, List, ◌+◌, ◌++◌}
use Rattle.std.specs.Str.Lines.{lines}
use Rattle.mg_script.specs.Lines.{AreLines}
use Rattle.mg_script.specs.declared.line.Line.{Line}
use Rattle.mg_script.proofs.script.read_script.Given as goal

abbrev pub invariant-loop-rest : goal.invariant-loop-rest
invariant-loop-rest l =
    ((more : List Line) → AreLines l.number (lines l.rest) more
    → AreLines 1 (lines l.script) (l.lines.items ++ more))
    × (l.number + length l.rest ≤ 1 + length l.script)

abbrev pub decreases-loop-rest : goal.decreases-loop-rest
decreases-loop-rest l = length l.rest
