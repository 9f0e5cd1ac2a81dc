use Rattle.std.proofs.Common.{◌≡◌, ◌++◌, length}
use Rattle.mg_script.specs.Transcript.{joined}
use Rattle.mg_value.specs.Values.{KeepsFront}
use Rattle.mg_script.proofs.answer.put_values.Given as goal

abbrev pub invariant-loop-value : goal.invariant-loop-value
invariant-loop-value l =
    (l.out.items ++ joined l.rest ≡ l.initial.out.items ++ joined l.values)
    × KeepsFront l.initial.out.items l.out.items

abbrev pub decreases-loop-value : goal.decreases-loop-value
decreases-loop-value l = length l.rest
