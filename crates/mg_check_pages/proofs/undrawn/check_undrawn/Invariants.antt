use Rattle.std.proofs.Common.{ℕ, ◌≡◌, ◌<◌, Ok}
use Rattle.mg_check_pages.specs.PageTests.{undrawn_test}
use Rattle.mg_check_pages.proofs.undrawn.check_undrawn.Given as goal

abbrev pub invariant-loop-place : goal.invariant-loop-place
invariant-loop-place l = (k : ℕ) → k < l.place → undrawn_test l.b l.page l.from k ≡ Ok tt
