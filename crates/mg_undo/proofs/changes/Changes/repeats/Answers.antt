use Rattle.std.proofs.Common.{◌∙◌, ap}
use Rattle.mg_undo.specs.Undo.{repeats as repeats_of}
use Rattle.mg_undo.proofs.PlacingLemmas.{repeats_by_spot}
use Rattle.mg_undo.proofs.changes.Changes.repeats.Goals as goal

pub returns : goal.returns
returns c =
    c.repeats.ensures
    ∙ repeats_by_spot c.args.floor c.self.inside.list.items c.self.inside.places c.self.invariant
    ∙ ap (repeats_of c.args.floor) c.self.view_is
