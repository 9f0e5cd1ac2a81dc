use Prim.Native.Nat.{◌+◌, ◌*◌}
use Rattle.mg_turn.proofs.tests.+threads.Given as goal

abbrev pub decreases-add_all : goal.decreases-add_all
decreases-add_all g l = 2 * l.count

abbrev pub decreases-join+arg2 : goal.decreases-join+arg2
decreases-join+arg2 g l = 2 * l.low + 1

abbrev pub decreases-join+arg3 : goal.decreases-join+arg3
decreases-join+arg3 g l = 2 * l.high + 1
