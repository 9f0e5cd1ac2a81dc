use Rattle.mg_image.specs.Form.{packed_form}
use Rattle.mg_tie_laws.specs.CommitTies.{commit_row_keeps}
use Rattle.mg_tie_laws.proofs.txlist.commits_keep.Goals as goal

pub returns : goal.returns
returns g c = commit_row_keeps packed_form (λ page n is. is) g.row.D.Denot g.row.L.Denot g.D.Disk.meaning
