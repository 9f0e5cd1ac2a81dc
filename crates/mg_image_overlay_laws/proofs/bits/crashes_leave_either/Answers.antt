use Rattle.mg_image.specs.Form.{packed_form}
use Rattle.mg_image_overlay_laws.specs.transactions.MidwayLaws.{midway_leaves}
use Rattle.mg_image_overlay_laws.proofs.bits.crashes_leave_either.Goals as goal

pub returns : goal.returns
returns c = midway_leaves packed_form
