use Rattle.std.proofs.Common.{◌≡◌, Some}
use Rattle.mg_base.specs.MemDisk.{mem_meaning}
use Rattle.mg_stat_tests.proofs.tests.disk_with.Given as goal

-- the page size stays
abbrev pub invariant-loop-n : goal.invariant-loop-n
invariant-loop-n l = mem_meaning.size l.disk ≡ Some 1024
