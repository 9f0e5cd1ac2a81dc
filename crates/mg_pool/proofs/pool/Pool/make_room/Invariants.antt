use Rattle.std.proofs.Common.{length}
use Rattle.mg_pool.specs.Change.{MakesRoom}
use Rattle.mg_pool.specs.Run.{HasWritten}
use Rattle.mg_pool.proofs.pool.Pool.make_room.Given as goal

abbrev pub invariant-loop-self : goal.invariant-loop-self
invariant-loop-self g l = record {
  run : HasWritten g.D.Disk.meaning l.initial.self l.self;
  room : MakesRoom g.D.Disk.meaning l.pages.items l.initial.self l.self;
}

-- each turn takes a page out of the table
abbrev pub decreases-loop-self : goal.decreases-loop-self
decreases-loop-self g l = length l.self.dirty.pages
