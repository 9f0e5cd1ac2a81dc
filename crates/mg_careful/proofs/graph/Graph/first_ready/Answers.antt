use Rattle.std.proofs.Common.{◌≡◌, false, refl}
use Rattle.mg_careful.specs.Graph.{is_entered}
use Rattle.mg_careful.proofs.PlaceLemmas.{not_entered}
use Rattle.mg_careful.proofs.ReadLemmas.{least_told, least_none_told}
use Rattle.mg_careful.proofs.graph.Graph.first_ready.Goals as goal

pub returns-in_err-place-clause-none : goal.returns-in_err-place-clause-none
returns-in_err-place-clause-none c =
    let out : is_entered c.args.self.now c.args.goal ≡ false = rw (← c.self.view_is) (not_entered c.self.inside.pages.items c.self.inside.before.items c.args.goal c.in_err-place.ensures.absent) in
    rw c.from_residual.ensures (λ _. out, λ _. refl)

pub returns-clause-none : goal.returns-clause-none
returns-clause-none c = rw (← c.self.view_is) (least_none_told _ _ _ _ c.self.invariant c.in_ok-place.place c.args.goal c.least_ready.result c.in_ok-place.ensures.found.1 c.least_ready.ensures)

pub returns-clause-ready : goal.returns-clause-ready
returns-clause-ready c = rw (← c.self.view_is) (least_told _ _ _ _ c.self.invariant c.in_ok-place.place c.args.goal c.least_ready.result c.in_ok-place.ensures.found.1 c.least_ready.ensures)
