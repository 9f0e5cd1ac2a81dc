use Rattle.std.proofs.Common.{List, Option, ap, ◌∙◌, sym, subst}
use Rattle.std.specs.Option.{option_copied}
use Rattle.mg_works.specs.Works.{IsWork, Working, written_by, written_in, written_to}
use Rattle.mg_works.specs.WorksLaws.{nowhere_none, place_some}
use Rattle.mg_works.proofs.PlaceLemmas.{lawful_at, written_lawful}
use Rattle.mg_works.proofs.works.Works.written.Goals as goal

pub returns-in_err-place-clause-written : goal.returns-in_err-place-clause-written
returns-in_err-place-clause-written c = ap option_copied c.from_residual.ensures
    ∙ (sym (ap (λ (o : Option Working). written_by o c.args.number)
    (nowhere_none c.self.inside.items.items c.args.t.0 c.in_err-place.ensures.none))
    ∙ ap (λ (ws : List Working). written_to ws c.args.t.0 c.args.number) c.self.view_is)

pub returns-clause-written : goal.returns-clause-written
returns-clause-written c = c.written.ensures ∙ (ap (λ (w : Working). written_in w.written c.args.number) c.index.ensures
    ∙ (sym (ap (λ (o : Option Working). written_by o c.args.number) (place_some c.self.inside.items.items
    c.args.t.0 c.in_ok-place.place c.index.result.now c.in_ok-place.ensures.some))
    ∙ ap (λ (ws : List Working). written_to ws c.args.t.0 c.args.number) c.self.view_is))

pub returns-clause-may : goal.returns-clause-may
returns-clause-may c = written_lawful c.index.result.now c.args.number c.written.result
    (subst IsWork (sym c.index.ensures) (lawful_at c.self.inside.items.items
    c.in_ok-place.place c.index.result.now c.self.invariant c.in_ok-place.ensures.some.inside)) c.written.ensures
