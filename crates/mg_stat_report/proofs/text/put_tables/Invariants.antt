use Rattle.std.proofs.Common.{◌≡◌, ◌++◌, length}
use Rattle.mg_stat_report.specs.StatText.{tables_text}
use Rattle.mg_stat_report.proofs.text.put_tables.Given as goal

-- the lines of those that are left complete the whole
abbrev pub invariant-loop-table : goal.invariant-loop-table
invariant-loop-table l =
    l.out.items ++ tables_text l.rest ≡ l.initial.out.items ++ tables_text l.tables

abbrev pub decreases-loop-table : goal.decreases-loop-table
decreases-loop-table l = length l.rest
