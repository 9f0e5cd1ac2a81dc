use Rattle.mg_snap.specs.LiveLaws.{others_change_nothing}
use Rattle.mg_snap.proofs.laws.others_change_nothing.Goals as goal

pub returns : goal.returns
returns c = others_change_nothing
