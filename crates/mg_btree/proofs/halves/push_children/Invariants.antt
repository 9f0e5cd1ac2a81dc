use Rattle.std.proofs.Common.{◌≡◌, ◌++◌, length}
use Rattle.std.specs.Prelude.{map}
use Rattle.mg_btree.proofs.halves.push_children.Given as goal

abbrev pub invariant-loop-next : goal.invariant-loop-next
invariant-loop-next l = l.names.items ++ map (λ e. e.child) l.rest
    ≡ l.initial.names.items ++ map (λ e. e.child) l.entries

abbrev pub decreases-loop-next : goal.decreases-loop-next
decreases-loop-next l = length l.rest
