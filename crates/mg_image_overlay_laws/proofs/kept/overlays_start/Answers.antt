use Rattle.mg_image.specs.Form.{packed_form}
use Rattle.mg_overlay_laws.specs.StateLaws.{every_at_start}
use Rattle.mg_image_overlay_laws.specs.kept.KeptImages.{keeping}
use Rattle.mg_image_overlay_laws.specs.kept.StartLaws.{kept_by_itself}
use Rattle.mg_image_overlay_laws.proofs.kept.overlays_start.Goals as goal

pub returns : goal.returns
returns c = λ size o h state cache needs layout r rows changes none clean idle sound held rows_are changed
    changes_are. every_at_start (keeping packed_form size o h) state cache needs none clean idle
    (kept_by_itself packed_form size o h state cache.pool layout r rows changes sound held rows_are changed
    changes_are)
