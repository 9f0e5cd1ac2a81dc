use Rattle.std.proofs.Common.{◌≡◌, length}
use Rattle.mg_transcript.specs.Lines.{last_reply}
use Rattle.mg_scripts.proofs.lines.last_of.Given as goal

-- behind the last one so far the rest comes
abbrev pub invariant-loop-spoken : goal.invariant-loop-spoken
invariant-loop-spoken l = last_reply l.last l.rest ≡ last_reply l.turn.reply l.turn.released.items

abbrev pub decreases-loop-spoken : goal.decreases-loop-spoken
decreases-loop-spoken l = length l.rest
