use Rattle.std.proofs.Common.{◌≡◌, ◌++◌}
use Rattle.mg_space.specs.Demands.{entry_demands}
use Rattle.mg_space.proofs.demands.put_entries.Given as goal

abbrev pub invariant-loop-n : goal.invariant-loop-n
invariant-loop-n l = l.out.items
    ≡ l.initial.out.items ++ entry_demands l.size l.b l.owner l.sequence l.n
