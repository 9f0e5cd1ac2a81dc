use Rattle.std.proofs.Common.{◌≡◌, ◌++◌, flat_map, length}
use Rattle.mg_check_tasks.proofs.tasks.joined.Given as goal

-- those that are left complete the whole
abbrev pub invariant-loop-first : goal.invariant-loop-first
invariant-loop-first l = l.all.items ++ flat_map (λ list. list.items) l.rest
    ≡ flat_map (λ list. list.items) l.lists

abbrev pub decreases-loop-first : goal.decreases-loop-first
decreases-loop-first l = length l.rest
