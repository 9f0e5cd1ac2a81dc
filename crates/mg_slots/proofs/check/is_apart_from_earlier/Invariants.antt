use Rattle.std.proofs.Common.{ℕ, ◌<◌}
use Rattle.mg_slots.specs.DataPage.{IsApart}
use Rattle.mg_slots.proofs.check.is_apart_from_earlier.Given as goal

abbrev pub invariant-loop-earlier : goal.invariant-loop-earlier
invariant-loop-earlier l = (earlier : ℕ) → earlier < l.earlier → IsApart l.b earlier l.at l.size
