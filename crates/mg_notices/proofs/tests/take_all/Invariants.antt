use Rattle.std.specs.Prelude.{◌<◌}
use Rattle.crossbeam_queue.specs.Passes.{view, IsPassOf}
use Rattle.mg_notices.proofs.tests.take_all.Given as goal

abbrev pub invariant-loop-taken : goal.invariant-loop-taken
invariant-loop-taken g l = IsPassOf l.queue l.taker × (0 < (view l.taker).takes)
