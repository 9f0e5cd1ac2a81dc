use Rattle.std.proofs.Common.{◌∙◌, subst}
use Rattle.mg_limbo_list.specs.Limbo.{IsListed}
use Rattle.mg_limbo_report.proofs.DamageLemmas.{cause_of, least_damage, told_of}
use Rattle.mg_limbo_report.proofs.listing.list_disk.Goals as goal

pub returns-in-Limbo-clause-says : goal.returns-in-Limbo-clause-says
returns-in-Limbo-clause-says g c = λ image held.
    let listed = subst (IsListed c.in-Ok.image.size c.as_slice.result.now) c.in-Limbo.is
    c.in-Ok-list_limbo.ensures in
    told_of g.D.Disk.meaning c.read_image.new.disk image c.as_slice.result.now c.in-Ok.image.size
    c.in-Limbo.list.items c.in-Ok.ensures.read.sized
    (c.as_slice.ensures.value ∙ c.in-Ok.ensures.image image held) listed.0 listed.1

pub field_of-requires : goal.field_of-requires
field_of-requires g c = least_damage c.in-Ok.image.size c.as_slice.result.now c.in-Damaged.finding
    (subst (IsListed c.in-Ok.image.size c.as_slice.result.now) c.in-Damaged.is
    c.in-Ok-list_limbo.ensures)

pub returns-clause-says : goal.returns-clause-says
returns-clause-says g c = λ image held.
    cause_of g.D.Disk.meaning c.read_image.new.disk image c.as_slice.result.now c.in-Ok.image.size
    c.field_of.result c.in-Damaged.finding c.refusal_of.result c.in-Ok.ensures.read.sized
    (c.as_slice.ensures.value ∙ c.in-Ok.ensures.image image held) c.refusal_of.ensures
    c.field_of.ensures
    (subst (IsListed c.in-Ok.image.size c.as_slice.result.now) c.in-Damaged.is
    c.in-Ok-list_limbo.ensures)
