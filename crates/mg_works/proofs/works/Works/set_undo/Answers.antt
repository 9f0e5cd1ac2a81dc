use Rattle.std.proofs.Common.{ap, ◌∙◌}
use Rattle.mg_works.specs.Works.{with_undo, with_work}
use Rattle.mg_works.proofs.PlaceLemmas.{undo_keeps, place_set, set_is_apart, untouched}
use Rattle.mg_works.proofs.works.Works.set_undo.Goals as goal

pub invariant_of-self : goal.invariant_of-self
invariant_of-self c = set_is_apart c.self.inside.items.items c.args.t.0 c.in-Some.place (with_undo c.args.undo)
    (undo_keeps c.args.undo) c.index_mut.result.now c.set_undo.new.self c.self.invariant c.in-Some.ensures.some
    c.index_mut.ensures.value c.set_undo.ensures

pub returns-in-Some : goal.returns-in-Some
returns-in-Some c = place_set c.self.inside.items.items c.args.t.0 c.in-Some.place (with_undo c.args.undo)
    (undo_keeps c.args.undo) c.index_mut.result.now c.set_undo.new.self c.self.invariant c.in-Some.ensures.some
    c.index_mut.ensures.value c.set_undo.ensures ∙ ap (with_work c.args.t.0 (with_undo c.args.undo)) c.self.view_is

pub returns-in_default : goal.returns-in_default
returns-in_default c = untouched c.self.inside.items.items c.args.self.now c.args.t.0 (with_undo c.args.undo)
    c.self.view_is c.in_default.ensures.none
