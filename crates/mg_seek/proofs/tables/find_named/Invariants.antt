use Rattle.std.proofs.Common.{length}
use Rattle.mg_seek.proofs.SeenLemmas.{NoneNamed}
use Rattle.mg_seek.proofs.tables.find_named.Given as goal

abbrev pub invariant-loop-table : goal.invariant-loop-table
invariant-loop-table l = NoneNamed l.fn.tables.items l.name (length l.yielded)
