use Rattle.std.specs.Prelude.{◌<◌}
use Rattle.crossbeam_queue.specs.Passes.{view, IsPassOf}
use Rattle.mg_notices.proofs.tests.offer_all.Given as goal

abbrev pub invariant-loop-n : goal.invariant-loop-n
invariant-loop-n g l = IsPassOf l.queue l.who × (0 < (view l.who).offers)
