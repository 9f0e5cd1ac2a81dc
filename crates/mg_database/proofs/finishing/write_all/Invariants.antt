use Rattle.std.proofs.Common.{length}
use Rattle.mg_database.specs.Finishing.{HasWrittenOn}
use Rattle.mg_database.proofs.finishing.write_all.Given as goal

-- pages were written out one after another
abbrev pub invariant-loop-goal : goal.invariant-loop-goal
invariant-loop-goal g l = HasWrittenOn g.D.Disk.meaning l.initial.store l.store

-- each turn takes a page out of the table
abbrev pub decreases-loop-goal : goal.decreases-loop-goal
decreases-loop-goal g l = length l.store.dirty.pages
