use Rattle.std.proofs.Common.{length}
use Rattle.std.specs.Prelude.{◌↔◌}
use Rattle.mg_image.specs.Tables.{IsOnce}
use Rattle.mg_layout.proofs.linked.are_once.Given as goal

abbrev pub invariant-loop-page : goal.invariant-loop-page
invariant-loop-page l = IsOnce l.pages ↔ IsOnce l.rest

abbrev pub decreases-loop-page : goal.decreases-loop-page
decreases-loop-page l = length l.rest
