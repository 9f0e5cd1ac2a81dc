-- So many transactions are known.
use Rattle.std.proofs.Common.{◌≡◌, take}
use Rattle.mg_plain.specs.Beginning.{known_all}
use Rattle.mg_plain.proofs.beginning.known_at_first.Given as goal

abbrev pub invariant-loop-state : goal.invariant-loop-state
invariant-loop-state l = l.known.items ≡ known_all l.opened (take l.state-index l.states)
