use Rattle.std.proofs.Common.{List, Option, Some, ap, ◌∙◌, sym}
use Rattle.mg_works.specs.Works.{going_back_to, has_savepoint, Working, with_work, work_of}
use Rattle.mg_works.specs.WorksLaws.{nowhere_none, place_some}
use Rattle.mg_works.proofs.PlaceLemmas.{going_back_keeps, place_set, set_is_apart, untouched}
use Rattle.mg_works.proofs.works.Works.back_to.Goals as goal

pub invariant_of-self : goal.invariant_of-self
invariant_of-self c = set_is_apart c.self.inside.items.items c.args.t.0 c.in-Some.place (going_back_to c.args.name.now) (going_back_keeps c.args.name.now)
    c.index_mut.result.now c.back_to.new.self c.self.invariant c.in-Some.ensures.some
    c.index_mut.ensures.value c.back_to.ensures.after

pub returns-in-Some-clause-found : goal.returns-in-Some-clause-found
returns-in-Some-clause-found c = c.back_to.ensures.found
    ∙ (ap (λ (w : Working). has_savepoint (Some w) c.args.name.now) c.index_mut.ensures.value
    ∙ (ap (λ (o : Option Working). has_savepoint o c.args.name.now) (sym (place_some c.self.inside.items.items
    c.args.t.0 c.in-Some.place c.index_mut.result.now c.in-Some.ensures.some))
    ∙ ap (λ (ws : List Working). has_savepoint (work_of ws c.args.t.0) c.args.name.now) c.self.view_is))

pub returns-in-Some-clause-after : goal.returns-in-Some-clause-after
returns-in-Some-clause-after c = place_set c.self.inside.items.items c.args.t.0 c.in-Some.place (going_back_to c.args.name.now) (going_back_keeps c.args.name.now)
    c.index_mut.result.now c.back_to.new.self c.self.invariant c.in-Some.ensures.some
    c.index_mut.ensures.value c.back_to.ensures.after ∙ ap (with_work c.args.t.0 (going_back_to c.args.name.now)) c.self.view_is

pub returns-in-None-clause-found : goal.returns-in-None-clause-found
returns-in-None-clause-found c = ap (λ (o : Option Working). has_savepoint o c.args.name.now)
    (sym (nowhere_none c.self.inside.items.items c.args.t.0 c.in-None.ensures.none))
    ∙ ap (λ (ws : List Working). has_savepoint (work_of ws c.args.t.0) c.args.name.now) c.self.view_is

pub returns-in-None-clause-after : goal.returns-in-None-clause-after
returns-in-None-clause-after c = untouched c.self.inside.items.items c.args.self.now c.args.t.0 (going_back_to c.args.name.now) c.self.view_is
    c.in-None.ensures.none
