use Rattle.std.proofs.Common.{Some, List, ap, ◌∙◌, sym, subst}
use Rattle.std.specs.Option.{option_copied}
use Rattle.mg_works.specs.Works.{IsWork, Working, work_of}
use Rattle.mg_works.specs.WorksLaws.{nowhere_none, place_some}
use Rattle.mg_works.proofs.PlaceLemmas.{lawful_at}
use Rattle.mg_works.proofs.works.Works.work.Goals as goal

pub returns-in_err-place-clause-work : goal.returns-in_err-place-clause-work
returns-in_err-place-clause-work c = ap option_copied c.from_residual.ensures
    ∙ (sym (nowhere_none c.self.inside.items.items c.args.t.0 c.in_err-place.ensures.none)
    ∙ ap (λ (ws : List Working). work_of ws c.args.t.0) c.self.view_is)

pub returns-clause-work : goal.returns-clause-work
returns-clause-work c = ap (λ (w : Working). Some w) c.index.ensures
    ∙ (sym (place_some c.self.inside.items.items c.args.t.0 c.in_ok-place.place c.index.result.now
    c.in_ok-place.ensures.some)
    ∙ ap (λ (ws : List Working). work_of ws c.args.t.0) c.self.view_is)

pub returns-clause-session : goal.returns-clause-session
returns-clause-session c = (subst IsWork (sym c.index.ensures) (lawful_at c.self.inside.items.items
    c.in_ok-place.place c.index.result.now c.self.invariant c.in_ok-place.ensures.some.inside)).session_below
