use Rattle.std.proofs.Common.{Some}
use Rattle.mg_works.specs.Works.{with_point}
use Rattle.mg_works.proofs.PlaceLemmas.{point_keeps, maybe_apart, maybe_set, on_view, untouched}
use Rattle.mg_works.proofs.works.Works.set_savepoint.Goals as goal

pub invariant_of-self : goal.invariant_of-self
invariant_of-self c = maybe_apart c.self.inside.items.items c.args.t.0 c.in-Some.place (with_point (Some c.args.name.now)) (point_keeps (Some c.args.name.now))
    c.index_mut.result.now c.set_savepoint.new.self c.self.invariant c.in-Some.ensures.some
    c.index_mut.ensures.value c.set_savepoint.result c.set_savepoint.ensures.ok c.set_savepoint.ensures.err

pub returns-in-Some-clause-ok : goal.returns-in-Some-clause-ok
returns-in-Some-clause-ok c = on_view c.set_savepoint.result _ c.self.inside.items.items c.args.self.now c.args.t.0
    (with_point (Some c.args.name.now)) c.self.view_is
    (maybe_set c.self.inside.items.items c.args.t.0 c.in-Some.place (with_point (Some c.args.name.now)) (point_keeps (Some c.args.name.now))
    c.index_mut.result.now c.set_savepoint.new.self c.self.invariant c.in-Some.ensures.some
    c.index_mut.ensures.value c.set_savepoint.result c.set_savepoint.ensures.ok)

pub returns-in-None-clause-ok : goal.returns-in-None-clause-ok
returns-in-None-clause-ok c = untouched c.self.inside.items.items c.args.self.now c.args.t.0 (with_point (Some c.args.name.now)) c.self.view_is
    c.in-None.ensures.none
