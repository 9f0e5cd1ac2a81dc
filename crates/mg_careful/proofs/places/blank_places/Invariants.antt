use Rattle.std.proofs.Common.{◌≡◌, None, replicate}
use Rattle.mg_careful.proofs.places.blank_places.Given as goal

abbrev pub invariant-loop : goal.invariant-loop
invariant-loop l = l.pages.items ≡ replicate l.counter None
