use Rattle.std.proofs.Common.{◌≡◌, ◌++◌}
use Rattle.mg_space.specs.Demands.{drawn_demands}
use Rattle.mg_space.proofs.demands.put_drawn.Given as goal

abbrev pub invariant-loop-place : goal.invariant-loop-place
invariant-loop-place l = l.out.items
    ≡ l.initial.out.items ++ drawn_demands l.size l.b l.sequence l.place
