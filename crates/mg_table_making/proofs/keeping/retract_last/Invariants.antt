use Rattle.std.proofs.Common.{◌≡◌}
use Rattle.mg_table_making.specs.Keeping.{retracted}
use Rattle.mg_table_making.proofs.keeping.retract_last.Given as goal

abbrev pub invariant-loop : goal.invariant-loop
invariant-loop l = l.works ≡ retracted l.t.0 l.counter l.initial.works
