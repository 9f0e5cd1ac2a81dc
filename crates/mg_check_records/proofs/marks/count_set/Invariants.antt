use Rattle.std.proofs.Common.{◌≡◌}
use Rattle.mg_check_records.specs.Listing.{set_below}
use Rattle.mg_check_records.proofs.marks.count_set.Given as goal

abbrev pub invariant-loop-at : goal.invariant-loop-at
invariant-loop-at l = l.count ≡ set_below l.marks l.at
