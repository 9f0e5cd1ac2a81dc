use Rattle.std.proofs.Common.{◌≡◌, ◌++◌, length}
use Rattle.mg_stat_report.specs.StatText.{limbo_text}
use Rattle.mg_stat_report.proofs.text.put_limbo.Given as goal

-- the lines of those that are left complete the whole
abbrev pub invariant-loop-t : goal.invariant-loop-t
invariant-loop-t l =
    l.out.items ++ limbo_text l.rest ≡ l.initial.out.items ++ limbo_text l.list

abbrev pub decreases-loop-t : goal.decreases-loop-t
decreases-loop-t l = length l.rest
