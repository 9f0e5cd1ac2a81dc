use Rattle.std.proofs.Common.{◌≡◌, ◌++◌, take, drop}
use Rattle.mg_catalog.specs.Names.{insert_name}
use Rattle.mg_catalog.proofs.names.place_of.Given as goal

abbrev pub invariant-loop-at : goal.invariant-loop-at
invariant-loop-at l =
    insert_name l.name l.names ≡ take l.at l.names ++ insert_name l.name (drop l.at l.names)
