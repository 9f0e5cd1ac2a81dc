use Rattle.std.proofs.Common.{None}
use Rattle.mg_works.specs.Works.{with_point}
use Rattle.mg_works.proofs.PlaceLemmas.{point_keeps, maybe_apart, maybe_set, on_view, untouched}
use Rattle.mg_works.proofs.works.Works.set_mark.Goals as goal

pub invariant_of-self : goal.invariant_of-self
invariant_of-self c = maybe_apart c.self.inside.items.items c.args.t.0 c.in-Some.place (with_point None) (point_keeps None)
    c.index_mut.result.now c.set_mark.new.self c.self.invariant c.in-Some.ensures.some
    c.index_mut.ensures.value c.set_mark.result c.set_mark.ensures.ok c.set_mark.ensures.err

pub returns-in-Some-clause-ok : goal.returns-in-Some-clause-ok
returns-in-Some-clause-ok c = on_view c.set_mark.result _ c.self.inside.items.items c.args.self.now c.args.t.0
    (with_point None) c.self.view_is
    (maybe_set c.self.inside.items.items c.args.t.0 c.in-Some.place (with_point None) (point_keeps None)
    c.index_mut.result.now c.set_mark.new.self c.self.invariant c.in-Some.ensures.some
    c.index_mut.ensures.value c.set_mark.result c.set_mark.ensures.ok)

pub returns-in-None-clause-ok : goal.returns-in-None-clause-ok
returns-in-None-clause-ok c = untouched c.self.inside.items.items c.args.self.now c.args.t.0 (with_point None) c.self.view_is
    c.in-None.ensures.none
