use Rattle.std.proofs.Common.{◌≡◌, ◌++◌}
use Rattle.mg_space.specs.Demands.{slot_demands}
use Rattle.mg_space.proofs.demands.put_slots.Given as goal

abbrev pub invariant-loop-slot : goal.invariant-loop-slot
invariant-loop-slot l = l.out.items
    ≡ l.initial.out.items ++ slot_demands l.b l.slot
