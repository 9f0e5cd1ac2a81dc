use Rattle.std.proofs.Common.{◌≡◌, None, length}
use Rattle.mg_pool.specs.Run.{HasWritten}
use Rattle.mg_txlist.proofs.ending.write_out.Given as goal

abbrev pub invariant-loop-page : goal.invariant-loop-page
invariant-loop-page g l = record {
  run : HasWritten g.D.Disk.meaning l.fn.store l.store;
  online : l.store.offline ≡ None;
}

abbrev pub decreases-loop-page : goal.decreases-loop-page
decreases-loop-page g l = length l.store.dirty.pages
