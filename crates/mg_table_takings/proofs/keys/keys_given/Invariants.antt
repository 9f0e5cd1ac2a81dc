use Rattle.std.proofs.Common.{length}
use Rattle.mg_table_takings.proofs.KeyLemmas.{Leads}
use Rattle.mg_table_takings.proofs.keys.keys_given.Given as goal

abbrev pub invariant-loop-change : goal.invariant-loop-change
invariant-loop-change l = Leads l.fn.number l.fn.undo l.left l.keys.items

abbrev pub decreases-loop-change : goal.decreases-loop-change
decreases-loop-change l = length l.left.changes
