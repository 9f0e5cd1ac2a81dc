use Rattle.std.proofs.Common.{◌≡◌, length}
use Rattle.mg_slots.specs.DataPage.{IsDataPage}
use Rattle.mg_collecting_tests.proofs.tests.put_each.Given as goal

abbrev pub invariant-loop-cell : goal.invariant-loop-cell
invariant-loop-cell l = IsDataPage l.page × (length l.page ≡ length l.initial.page)
