use Rattle.std.proofs.Common.{◌≡◌, ◌+◌, length}
use Rattle.mg_table_making.proofs.KeepLemmas.{Kept}
use Rattle.mg_table_making.proofs.keeping.keep_each.Given as goal

abbrev pub invariant-loop-key : goal.invariant-loop-key
invariant-loop-key l = record {
  kept : Kept l.t.0 l.owner l.count l.keys l.rest l.initial.works l.works;
  places : l.count + length l.rest ≡ length l.keys;
}

abbrev pub decreases-loop-key : goal.decreases-loop-key
decreases-loop-key l = length l.rest
