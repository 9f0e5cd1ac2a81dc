use Rattle.std.proofs.Common.{◌≡◌, length}
use Rattle.mg_script_ends.specs.Ends.{last_of}
use Rattle.mg_script_ends.proofs.ending.last_of.Given as goal

-- behind the last one so far the rest comes
abbrev pub invariant-loop-next : goal.invariant-loop-next
invariant-loop-next l = last_of l.last l.rest ≡ last_of l.fn.first l.more

abbrev pub decreases-loop-next : goal.decreases-loop-next
decreases-loop-next l = length l.rest
