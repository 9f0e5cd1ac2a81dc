use Rattle.std.proofs.Common.{◌≡◌, ℕ, true, length}
use Rattle.mg_careful.specs.Precedence.{Precedes}
use Rattle.mg_careful.specs.Graph.{is_ordered}
use Rattle.mg_pool.specs.Dirty.{is_dirty}
use Rattle.mg_pool.specs.Pool.{taken_out}
use Rattle.mg_pool.specs.Run.{HasWritten}
use Rattle.mg_pool.proofs.pool.Pool.write_predecessors.Given as goal

-- only pages that precede the goal are written, so it stays as it is
abbrev pub invariant-loop-page : goal.invariant-loop-page
invariant-loop-page g l = record {
  run : HasWritten g.D.Disk.meaning l.initial.self l.self;
  goal_same : is_dirty l.self.dirty l.goal ≡ is_dirty l.initial.self.dirty l.goal;
  no_other : (page : ℕ) → taken_out l.initial.self.dirty l.self.dirty page ≡ true → Precedes (is_ordered l.initial.self.graph) page l.goal;
}

-- each turn takes a page out of the table
abbrev pub decreases-loop-page : goal.decreases-loop-page
decreases-loop-page g l = length l.self.dirty.pages
