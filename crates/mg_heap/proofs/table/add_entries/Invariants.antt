use Rattle.std.proofs.Common.{◌≡◌, ◌++◌}
use Rattle.mg_pointer.specs.PointerPage.{first_entries}
use Rattle.mg_heap.proofs.table.add_entries.Given as goal

abbrev pub invariant-loop-i : goal.invariant-loop-i
invariant-loop-i l = l.data_pages.items ≡ l.initial.data_pages.items ++ first_entries l.page l.i
