use Rattle.std.proofs.Common.{◌≡◌, ◌++◌, map, take, drop, vec_capacity, length}
use Rattle.mg_pool.specs.Dirty.{with_mark}
use Rattle.mg_pool.proofs.dirty.mark_all.Given as goal

-- the entries before the index have the mark, the others are as they were
abbrev pub invariant-loop-i : goal.invariant-loop-i
invariant-loop-i g l =
    (l.pages.items ≡ map (with_mark l.who) (take l.i l.initial.pages.items) ++ drop l.i l.initial.pages.items)
    × (vec_capacity l.pages ≡ vec_capacity l.initial.pages)
    × (length l.pages.items ≡ length l.initial.pages.items)
