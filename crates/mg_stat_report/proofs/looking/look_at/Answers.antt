use Rattle.std.proofs.Common.{◌∙◌, subst}
use Rattle.mg_file_figures.specs.Stating.{IsStated}
use Rattle.mg_stat_report.proofs.LookingLemmas.{cause_of, found_damage, told_of}
use Rattle.mg_stat_report.proofs.looking.look_at.Goals as goal

pub returns-in-Told-clause-kind : goal.returns-in-Told-clause-kind
returns-in-Told-clause-kind g c = (
  c.in-Ok.image.size,
  c.as_slice.result.now,
  subst (IsStated c.in-Ok.image.size c.as_slice.result.now) c.in-Told.is
      c.in-Ok-state_file.ensures.stated,
)

pub returns-in-Told-clause-says : goal.returns-in-Told-clause-says
returns-in-Told-clause-says g c = λ image held. told_of g.D.Disk.meaning c.read_image.new.disk image
    c.as_slice.result.now c.in-Ok.image.size c.in-Told.it c.in-Ok-state_file.stated
    c.in-Ok.ensures.read.sized (c.as_slice.ensures.value ∙ c.in-Ok.ensures.image image held)
    c.in-Told.is c.in-Ok-state_file.ensures.stated

pub field_of-requires : goal.field_of-requires
field_of-requires g c = found_damage c.in-Ok-state_file.stated c.in-Found.finding c.in-Found.is
    c.in-Ok-state_file.ensures.damage

pub returns-clause-says : goal.returns-clause-says
returns-clause-says g c = λ image held. cause_of g.D.Disk.meaning c.read_image.new.disk image
    c.as_slice.result.now c.in-Ok.image.size c.field_of.result c.in-Found.finding c.refusal_of.result
    c.in-Ok-state_file.stated c.in-Ok.ensures.read.sized
    (c.as_slice.ensures.value ∙ c.in-Ok.ensures.image image held) c.refusal_of.ensures
    c.field_of.ensures c.in-Found.is c.in-Ok-state_file.ensures.stated
