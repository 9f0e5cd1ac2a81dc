use Rattle.std.proofs.Common.{◌≡◌, Some}
use Rattle.mg_behind_tests.proofs.tests.runs.write_in_turn.Given as goal

abbrev pub invariant-loop-k : goal.invariant-loop-k
invariant-loop-k g l = g.D.Disk.meaning.size l.disk ≡ Some 1024
