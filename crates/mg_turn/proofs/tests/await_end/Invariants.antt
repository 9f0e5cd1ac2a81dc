use Rattle.mg_turn.specs.Promises.{IsKin, IsReady, view}
use Rattle.mg_turn.proofs.tests.await_end.Given as goal

abbrev pub invariant-loop : goal.invariant-loop
invariant-loop g l = IsReady l.turn l.seat × IsKin (view l.fn.seat) (view l.seat)
