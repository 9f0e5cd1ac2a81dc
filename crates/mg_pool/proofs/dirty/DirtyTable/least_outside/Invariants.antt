use Rattle.std.proofs.Common.{not}
use Rattle.mg_careful.specs.Rows.{IsLeast}
use Rattle.mg_pool.specs.Batch.{is_in}
use Rattle.mg_pool.proofs.LeastLemmas.{given}
use Rattle.mg_pool.proofs.dirty.DirtyTable.least_outside.Given as goal

abbrev pub invariant-loop-i : goal.invariant-loop-i
invariant-loop-i g l = IsLeast (given (λ d. not (is_in l.batch.items d.page)) l.self-inside.pages.items) l.i l.least
