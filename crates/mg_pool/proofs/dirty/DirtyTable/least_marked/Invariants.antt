use Rattle.std.proofs.Common.{false, get_or}
use Rattle.mg_careful.specs.Rows.{IsLeast}
use Rattle.mg_pool.proofs.LeastLemmas.{given}
use Rattle.mg_pool.proofs.dirty.DirtyTable.least_marked.Given as goal

abbrev pub invariant-loop-i : goal.invariant-loop-i
invariant-loop-i g l = IsLeast (given (λ d. get_or d.marks l.who false) l.self-inside.pages.items) l.i l.least
