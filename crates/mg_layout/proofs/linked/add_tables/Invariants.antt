use Rattle.std.proofs.Common.{◌≡◌, ◌++◌, length}
use Rattle.std.specs.List.{flat_map}
use Rattle.mg_image.specs.Tables.{pages_of}
use Rattle.mg_layout.specs.Standing.{stands_in}
use Rattle.mg_layout.proofs.linked.add_tables.Given as goal

abbrev pub invariant-loop-stand : goal.invariant-loop-stand
invariant-loop-stand l = l.pages.items ++ flat_map pages_of (stands_in l.rest)
    ≡ l.initial.pages.items ++ flat_map pages_of (stands_in l.stands)

abbrev pub decreases-loop-stand : goal.decreases-loop-stand
decreases-loop-stand l = length l.rest
