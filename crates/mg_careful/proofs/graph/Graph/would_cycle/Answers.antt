use Rattle.std.proofs.Common.{ap, is_some}
use Rattle.mg_careful.proofs.ReadLemmas.{cycle_told, later_absent, first_absent, not_found}
use Rattle.mg_careful.proofs.graph.Graph.would_cycle.Goals as goal

pub returns-in-Some-Some : goal.returns-in-Some-Some
returns-in-Some-Some c = rw (← c.self.view_is, c.is_set.ensures) (cycle_told _ _ _ _ c.self.invariant c.in-Some-Some.from c.in-Some-Some.to c.args.first c.args.later c.in-Some-Some.ensures.found.1 c.in-Some-Some.ensures'.found.1 c.if-first-later.false)

pub returns-in_default : goal.returns-in_default
returns-in_default c = rw (← c.self.view_is) (first_absent _ _ _ _ c.self.invariant c.args.first c.args.later c.if-first-later.false c.in_default.ensures'.absent)

pub returns-in_default-2 : goal.returns-in_default-2
returns-in_default-2 c = rw (← c.self.view_is) (later_absent _ _ _ _ c.self.invariant c.args.first c.args.later c.if-first-later.false (not_found c.find.result c.find.ensures.absent (ap is_some c.in_default.is-0)))
