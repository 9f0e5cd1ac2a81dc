use Rattle.std.proofs.Common.{length}
use Rattle.mg_release.proofs.ReleaseLemmas.{IsReleasing}
use Rattle.mg_release.proofs.releasing.release_orphans.Given as goal

-- what is left to be cleared completes the whole
abbrev pub invariant-loop-finding : goal.invariant-loop-finding
invariant-loop-finding l = IsReleasing l.size l.initial.pages l.pages l.found l.rest

abbrev pub decreases-loop-finding : goal.decreases-loop-finding
decreases-loop-finding l = length l.rest
