use Rattle.std.proofs.Common.{◌≡◌}
use Rattle.mg_image.specs.Tables.{EachStand}
use Rattle.mg_layout.specs.HasPages.{IsStand, tables_in}
use Rattle.mg_layout.specs.Standing.{stands_in}
use Rattle.mg_layout.proofs.place.stands_of.Given as goal

abbrev pub invariant-loop-table : goal.invariant-loop-table
invariant-loop-table l = EachStand (IsStand l.image) (stands_in l.stands.items)
    × (tables_in (stands_in l.stands.items) ≡ l.yielded)
