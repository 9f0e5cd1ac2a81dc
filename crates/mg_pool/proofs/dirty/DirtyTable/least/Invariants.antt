use Rattle.std.proofs.Common.{true}
use Rattle.mg_careful.specs.Rows.{IsLeast}
use Rattle.mg_pool.proofs.LeastLemmas.{given}
use Rattle.mg_pool.proofs.dirty.DirtyTable.least.Given as goal

abbrev pub invariant-loop-i : goal.invariant-loop-i
invariant-loop-i g l = IsLeast (given (λ d. true) l.self-inside.pages.items) l.i l.least
