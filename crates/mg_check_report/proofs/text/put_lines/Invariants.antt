use Rattle.std.proofs.Common.{◌≡◌, ◌++◌, length}
use Rattle.mg_check_report.specs.ReportText.{lines_text}
use Rattle.mg_check_report.proofs.text.put_lines.Given as goal

-- the lines of those that are left complete the whole
abbrev pub invariant-loop-finding : goal.invariant-loop-finding
invariant-loop-finding l = l.out.items ++ lines_text l.released l.rest
    ≡ l.initial.out.items ++ lines_text l.released l.findings

abbrev pub decreases-loop-finding : goal.decreases-loop-finding
decreases-loop-finding l = length l.rest
