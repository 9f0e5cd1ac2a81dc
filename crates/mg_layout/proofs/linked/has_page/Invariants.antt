use Rattle.std.proofs.Common.{◌≡◌, length}
use Rattle.std.specs.Prelude.{◌↔◌}
use Rattle.mg_image.specs.Tables.{Has, has}
use Rattle.mg_layout.proofs.linked.has_page.Given as goal

abbrev pub invariant-loop-page : goal.invariant-loop-page
invariant-loop-page l =
    (Has l.pages l.n ↔ Has l.rest l.n) × (has l.pages l.n ≡ has l.rest l.n)

abbrev pub decreases-loop-page : goal.decreases-loop-page
decreases-loop-page l = length l.rest
