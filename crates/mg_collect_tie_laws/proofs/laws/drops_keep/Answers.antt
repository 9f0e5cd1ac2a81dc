use Rattle.std.proofs.Common.{refl}
use Rattle.mg_image.specs.Form.{packed_form}
use Rattle.mg_collect_tie_laws.specs.DropTies.{drop_keeps}
use Rattle.mg_collect_tie_laws.proofs.laws.drops_keep.Goals as goal

pub returns : goal.returns
returns g c = drop_keeps packed_form (λ page n is. is) refl g.row.D.Denot g.row.L.Denot g.D.Disk.meaning
