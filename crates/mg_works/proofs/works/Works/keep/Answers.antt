use Rattle.mg_works.specs.Works.{with_change}
use Rattle.mg_works.proofs.PlaceLemmas.{changing_keeps, maybe_apart, maybe_set, on_view, untouched}
use Rattle.mg_works.proofs.works.Works.keep.Goals as goal

pub invariant_of-self : goal.invariant_of-self
invariant_of-self c = maybe_apart c.self.inside.items.items c.args.t.0 c.in-Some.place (with_change c.args.table c.args.key.now c.args.was) (changing_keeps c.args.table c.args.key.now c.args.was)
    c.index_mut.result.now c.keep.new.self c.self.invariant c.in-Some.ensures.some
    c.index_mut.ensures.value c.keep.result c.keep.ensures.ok c.keep.ensures.err

pub returns-in-Some-clause-ok : goal.returns-in-Some-clause-ok
returns-in-Some-clause-ok c = on_view c.keep.result _ c.self.inside.items.items c.args.self.now c.args.t.0
    (with_change c.args.table c.args.key.now c.args.was) c.self.view_is
    (maybe_set c.self.inside.items.items c.args.t.0 c.in-Some.place (with_change c.args.table c.args.key.now c.args.was) (changing_keeps c.args.table c.args.key.now c.args.was)
    c.index_mut.result.now c.keep.new.self c.self.invariant c.in-Some.ensures.some
    c.index_mut.ensures.value c.keep.result c.keep.ensures.ok)

pub returns-in-None-clause-ok : goal.returns-in-None-clause-ok
returns-in-None-clause-ok c = untouched c.self.inside.items.items c.args.self.now c.args.t.0 (with_change c.args.table c.args.key.now c.args.was) c.self.view_is
    c.in-None.ensures.none
