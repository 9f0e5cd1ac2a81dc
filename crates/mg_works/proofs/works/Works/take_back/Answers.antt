use Rattle.std.proofs.Common.{List, Option, Some, ap, ◌∙◌, sym}
use Rattle.mg_works.specs.Works.{given_back, with_step_back, Working, with_work, work_of}
use Rattle.mg_undo.specs.Undo.{given_as}
use Rattle.mg_works.specs.WorksLaws.{nowhere_none, place_some}
use Rattle.mg_works.proofs.PlaceLemmas.{stepping_keeps, place_set, set_is_apart, untouched}
use Rattle.mg_works.proofs.works.Works.take_back.Goals as goal

pub invariant_of-self : goal.invariant_of-self
invariant_of-self c = set_is_apart c.self.inside.items.items c.args.t.0 c.in-Some.place with_step_back stepping_keeps
    c.index_mut.result.now c.take_back.new.self c.self.invariant c.in-Some.ensures.some
    c.index_mut.ensures.value c.take_back.ensures.after

pub returns-in-Some-clause-given : goal.returns-in-Some-clause-given
returns-in-Some-clause-given c = c.take_back.ensures.given
    ∙ (ap (λ (w : Working). given_as (given_back (Some w))) c.index_mut.ensures.value
    ∙ (ap (λ (o : Option Working). given_as (given_back o)) (sym (place_some c.self.inside.items.items
    c.args.t.0 c.in-Some.place c.index_mut.result.now c.in-Some.ensures.some))
    ∙ ap (λ (ws : List Working). given_as (given_back (work_of ws c.args.t.0))) c.self.view_is))

pub returns-in-Some-clause-after : goal.returns-in-Some-clause-after
returns-in-Some-clause-after c = place_set c.self.inside.items.items c.args.t.0 c.in-Some.place with_step_back stepping_keeps
    c.index_mut.result.now c.take_back.new.self c.self.invariant c.in-Some.ensures.some
    c.index_mut.ensures.value c.take_back.ensures.after ∙ ap (with_work c.args.t.0 with_step_back) c.self.view_is

pub returns-in-None-clause-given : goal.returns-in-None-clause-given
returns-in-None-clause-given c = ap (λ (o : Option Working). given_as (given_back o))
    (sym (nowhere_none c.self.inside.items.items c.args.t.0 c.in-None.ensures.none))
    ∙ ap (λ (ws : List Working). given_as (given_back (work_of ws c.args.t.0))) c.self.view_is

pub returns-in-None-clause-after : goal.returns-in-None-clause-after
returns-in-None-clause-after c = untouched c.self.inside.items.items c.args.self.now c.args.t.0 with_step_back c.self.view_is
    c.in-None.ensures.none
