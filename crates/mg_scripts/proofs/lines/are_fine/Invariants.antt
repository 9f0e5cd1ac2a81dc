use Rattle.std.proofs.Common.{◌≡◌, length}
use Rattle.std.specs.List.{list_all}
use Rattle.mg_transcript.specs.Transcript.{fine}
use Rattle.mg_scripts.proofs.lines.are_fine.Given as goal

-- the rest decides
abbrev pub invariant-loop-spoken : goal.invariant-loop-spoken
invariant-loop-spoken l = list_all (λ spoken. fine spoken.reply) l.rest
    ≡ list_all (λ spoken. fine spoken.reply) l.released

abbrev pub decreases-loop-spoken : goal.decreases-loop-spoken
decreases-loop-spoken l = length l.rest
