use Rattle.mg_works.specs.Works.{with_table}
use Rattle.mg_works.proofs.PlaceLemmas.{giving_keeps, maybe_apart, maybe_set, on_view, untouched}
use Rattle.mg_works.proofs.works.Works.give_table.Goals as goal

pub invariant_of-self : goal.invariant_of-self
invariant_of-self c = maybe_apart c.self.inside.items.items c.args.t.0 c.in-Some.place (with_table c.args.table) (giving_keeps c.args.table c.requires)
    c.index_mut.result.now c.give_table.new.self c.self.invariant c.in-Some.ensures.some
    c.index_mut.ensures.value c.give_table.result c.give_table.ensures.ok c.give_table.ensures.err

pub returns-in-Some-clause-ok : goal.returns-in-Some-clause-ok
returns-in-Some-clause-ok c = on_view c.give_table.result _ c.self.inside.items.items c.args.self.now c.args.t.0
    (with_table c.args.table) c.self.view_is
    (maybe_set c.self.inside.items.items c.args.t.0 c.in-Some.place (with_table c.args.table) (giving_keeps c.args.table c.requires)
    c.index_mut.result.now c.give_table.new.self c.self.invariant c.in-Some.ensures.some
    c.index_mut.ensures.value c.give_table.result c.give_table.ensures.ok)

pub returns-in-None-clause-ok : goal.returns-in-None-clause-ok
returns-in-None-clause-ok c = untouched c.self.inside.items.items c.args.self.now c.args.t.0 (with_table c.args.table) c.self.view_is
    c.in-None.ensures.none
