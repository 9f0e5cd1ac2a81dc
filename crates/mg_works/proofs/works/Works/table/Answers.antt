use Rattle.std.proofs.Common.{List, Option, ap, ◌∙◌, sym, subst}
use Rattle.std.specs.Option.{option_copied}
use Rattle.mg_works.specs.Works.{IsWork, Working, given_by, given_in, given_to}
use Rattle.mg_works.specs.WorksLaws.{nowhere_none, place_some}
use Rattle.mg_works.proofs.PlaceLemmas.{lawful_at, told_lawful}
use Rattle.mg_works.proofs.works.Works.table.Goals as goal

pub returns-in_err-place-clause-given : goal.returns-in_err-place-clause-given
returns-in_err-place-clause-given c = ap option_copied c.from_residual.ensures
    ∙ (sym (ap (λ (o : Option Working). given_by o c.args.name.now)
    (nowhere_none c.self.inside.items.items c.args.t.0 c.in_err-place.ensures.none))
    ∙ ap (λ (ws : List Working). given_to ws c.args.t.0 c.args.name.now) c.self.view_is)

pub returns-clause-given : goal.returns-clause-given
returns-clause-given c = c.table.ensures ∙ (ap (λ (w : Working). given_in w.tables c.args.name.now) c.index.ensures
    ∙ (sym (ap (λ (o : Option Working). given_by o c.args.name.now) (place_some c.self.inside.items.items
    c.args.t.0 c.in_ok-place.place c.index.result.now c.in_ok-place.ensures.some))
    ∙ ap (λ (ws : List Working). given_to ws c.args.t.0 c.args.name.now) c.self.view_is))

pub returns-clause-may : goal.returns-clause-may
returns-clause-may c = told_lawful c.index.result.now c.args.name.now c.table.result
    (subst IsWork (sym c.index.ensures) (lawful_at c.self.inside.items.items
    c.in_ok-place.place c.index.result.now c.self.invariant c.in_ok-place.ensures.some.inside)) c.table.ensures
