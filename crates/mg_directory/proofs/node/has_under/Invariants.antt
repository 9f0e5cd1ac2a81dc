use Rattle.std.proofs.Common.{◌≤◌, ◌↔◌, length, reverse}
use Rattle.mg_directory.specs.Candidates.{IsCandidate}
use Rattle.mg_directory.specs.Chains.{chained}
use Rattle.mg_directory.proofs.node.has_under.Given as goal

-- the record is in the chain where it is in the rest of it
abbrev pub invariant-loop-link : goal.invariant-loop-link
invariant-loop-link l = (IsCandidate (chained (reverse l.nodes) l.hash l.link) l.rec
    ↔ IsCandidate (chained (reverse l.nodes) l.hash l.head) l.rec)
    × (l.link ≤ length l.nodes)

abbrev pub decreases-loop-link : goal.decreases-loop-link
decreases-loop-link l = l.link
