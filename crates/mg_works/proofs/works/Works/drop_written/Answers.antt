use Rattle.std.proofs.Common.{ap, ◌∙◌}
use Rattle.mg_works.specs.Works.{without_written, with_work}
use Rattle.mg_works.proofs.PlaceLemmas.{dropping_keeps, place_set, set_is_apart, untouched}
use Rattle.mg_works.proofs.works.Works.drop_written.Goals as goal

pub invariant_of-self : goal.invariant_of-self
invariant_of-self c = set_is_apart c.self.inside.items.items c.args.t.0 c.in-Some.place (without_written c.args.keys.now) (dropping_keeps c.args.keys.now)
    c.index_mut.result.now c.drop_written.new.self c.self.invariant c.in-Some.ensures.some
    c.index_mut.ensures.value c.drop_written.ensures

pub returns-in-Some : goal.returns-in-Some
returns-in-Some c = place_set c.self.inside.items.items c.args.t.0 c.in-Some.place (without_written c.args.keys.now) (dropping_keeps c.args.keys.now)
    c.index_mut.result.now c.drop_written.new.self c.self.invariant c.in-Some.ensures.some
    c.index_mut.ensures.value c.drop_written.ensures ∙ ap (with_work c.args.t.0 (without_written c.args.keys.now)) c.self.view_is

pub returns-in_default : goal.returns-in_default
returns-in_default c = untouched c.self.inside.items.items c.args.self.now c.args.t.0 (without_written c.args.keys.now) c.self.view_is
    c.in_default.ensures.none
