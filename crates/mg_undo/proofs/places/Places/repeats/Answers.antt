use Rattle.std.proofs.Common.{◌∙◌, ap, refl, arith}
use Rattle.mg_undo.specs.Places.{repeats_spot}
use Rattle.mg_undo.proofs.PlacesLemmas.{repeats_told_at}
use Rattle.mg_undo.proofs.places.Places.repeats.Goals as goal

pub returns-in-Some : goal.returns-in-Some
returns-in-Some c =
    c.is_past.ensures
    ∙ repeats_told_at c.args.floor c.in-Some.push.now c.self.inside.pushes.items
    c.self.inside.latest.entries (omega (arith, c.in-Some.ensures.variant.0 refl)) c.in-Some.ensures.lookup c.self.invariant
    ∙ ap (repeats_spot c.args.floor) c.self.view_is
