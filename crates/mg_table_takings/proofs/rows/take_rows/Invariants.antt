use Rattle.std.proofs.Common.{length}
use Rattle.mg_table_takings.proofs.RowLemmas.{GoesOn}
use Rattle.mg_table_takings.proofs.rows.take_rows.Given as goal

-- what comes of the keys that are left comes of all
abbrev pub invariant-loop-key : goal.invariant-loop-key
invariant-loop-key g l = GoesOn g.D.Disk.meaning l.fn.t.0 l.keys l.initial.core l.rest l.core

abbrev pub decreases-loop-key : goal.decreases-loop-key
decreases-loop-key g l = length l.rest
