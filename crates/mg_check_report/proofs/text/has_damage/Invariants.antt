use Rattle.std.proofs.Common.{◌≡◌, length}
use Rattle.mg_check_report.specs.ReportText.{has_damage}
use Rattle.mg_check_report.proofs.text.has_damage.Given as goal

-- none of those before is one
abbrev pub invariant-loop-finding : goal.invariant-loop-finding
invariant-loop-finding l = has_damage l.rest ≡ has_damage l.findings

abbrev pub decreases-loop-finding : goal.decreases-loop-finding
decreases-loop-finding l = length l.rest
