use Rattle.mg_pointer.specs.PointerPage.{IsPointerPage}
use Rattle.mg_page_tests.proofs.tests.pointer.add_many.Given as goal

abbrev pub invariant-loop-place : goal.invariant-loop-place
invariant-loop-place l = IsPointerPage l.page
