use Rattle.std.proofs.Common.{◌≡◌, ◌++◌, drop}
use Rattle.mg_row_writes.specs.Storing.{alone_at}
use Rattle.mg_row_writes.proofs.storing.values_alone.Given as goal

abbrev pub invariant-loop-at : goal.invariant-loop-at
invariant-loop-at l =
    l.values.items ++ alone_at l.place l.at l.key (drop l.at l.columns) ≡ alone_at l.place 0 l.key l.columns
