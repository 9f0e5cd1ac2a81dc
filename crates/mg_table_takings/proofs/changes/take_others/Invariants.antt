use Rattle.std.proofs.Common.{length}
use Rattle.mg_table_takings.proofs.OtherLemmas.{Going}
use Rattle.mg_table_takings.proofs.changes.take_others.Given as goal

abbrev pub invariant-loop-change : goal.invariant-loop-change
invariant-loop-change g l = Going g.D.Disk.meaning l.initial.core l.core l.fn.t.0 l.initial.undo l.undo

abbrev pub decreases-loop-change : goal.decreases-loop-change
decreases-loop-change g l = length l.undo.changes
