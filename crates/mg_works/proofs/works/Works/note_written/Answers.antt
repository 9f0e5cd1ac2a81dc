use Rattle.mg_works.specs.Works.{with_written}
use Rattle.mg_works.proofs.PlaceLemmas.{writing_keeps, maybe_apart, maybe_set, on_view, untouched}
use Rattle.mg_works.proofs.works.Works.note_written.Goals as goal

pub invariant_of-self : goal.invariant_of-self
invariant_of-self c = maybe_apart c.self.inside.items.items c.args.t.0 c.in-Some.place (with_written c.args.table) (writing_keeps c.args.table c.requires)
    c.index_mut.result.now c.note_written.new.self c.self.invariant c.in-Some.ensures.some
    c.index_mut.ensures.value c.note_written.result c.note_written.ensures.ok c.note_written.ensures.err

pub returns-in-Some-clause-ok : goal.returns-in-Some-clause-ok
returns-in-Some-clause-ok c = on_view c.note_written.result _ c.self.inside.items.items c.args.self.now c.args.t.0
    (with_written c.args.table) c.self.view_is
    (maybe_set c.self.inside.items.items c.args.t.0 c.in-Some.place (with_written c.args.table) (writing_keeps c.args.table c.requires)
    c.index_mut.result.now c.note_written.new.self c.self.invariant c.in-Some.ensures.some
    c.index_mut.ensures.value c.note_written.result c.note_written.ensures.ok)

pub returns-in-None-clause-ok : goal.returns-in-None-clause-ok
returns-in-None-clause-ok c = untouched c.self.inside.items.items c.args.self.now c.args.t.0 (with_written c.args.table) c.self.view_is
    c.in-None.ensures.none
