use Rattle.mg_pointer.specs.PointerPage.{IsPointerPage}
use Rattle.mg_image_tests.proofs.tests.pages.pointers.Given as goal

abbrev pub invariant-loop-n : goal.invariant-loop-n
invariant-loop-n l = IsPointerPage l.b
