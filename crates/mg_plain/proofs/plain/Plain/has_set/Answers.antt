use Rattle.std.proofs.Common.{◌∙◌, ap}
use Rattle.mg_model.specs.Machine.{has_point}
use Rattle.mg_plain.proofs.TakenBackLemmas.{point_there}
use Rattle.mg_plain.proofs.plain.Plain.has_set.Goals as goal

pub returns : goal.returns
returns c =
    c.is_some.ensures ∙ (point_there c.args.t.0 c.args.point.now c.deref.result.now c.point_place.result c.point_place.ensures.place
    ∙ ap (has_point c.args.t.0 c.args.point.now) c.deref.ensures.value)
