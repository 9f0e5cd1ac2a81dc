use Rattle.std.proofs.Common.{◌≡◌, ◌+◌, ◌++◌, length}
use Rattle.mg_storm_report.specs.Report.{answers_from, answers_in}
use Rattle.mg_storm_report.proofs.replies.put_answers.Given as goal

abbrev pub invariant-loop-own : goal.invariant-loop-own
invariant-loop-own l =
    (l.out.items ++ answers_from l.session (answers_in l.rest)
    ≡ l.initial.out.items ++ answers_from 0 (answers_in l.answers))
    × (l.session + length l.rest ≡ length l.answers)

abbrev pub decreases-loop-own : goal.decreases-loop-own
decreases-loop-own l = length l.rest
