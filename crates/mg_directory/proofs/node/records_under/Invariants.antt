use Rattle.std.proofs.Common.{◌≡◌, ◌≤◌, ◌++◌, length, reverse}
use Rattle.mg_directory.specs.Chains.{chained}
use Rattle.mg_directory.proofs.node.records_under.Given as goal

-- what was found and the rest of the chain are the chain
abbrev pub invariant-loop-link : goal.invariant-loop-link
invariant-loop-link l = (l.found.items ++ chained (reverse l.nodes) l.hash l.link
    ≡ chained (reverse l.nodes) l.hash l.head)
    × (l.link ≤ length l.nodes)

abbrev pub decreases-loop-link : goal.decreases-loop-link
decreases-loop-link l = l.link
