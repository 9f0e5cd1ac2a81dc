use Rattle.mg_image.specs.Form.{packed_form}
use Rattle.mg_image_overlay_laws.specs.tables.TableOwners.{owned}
use Rattle.mg_image_overlay_laws.proofs.steps.tables_have_makers.Goals as goal

pub returns : goal.returns
returns c = λ size state pages layout r sound db changes held changed.
    owned packed_form size state pages layout r sound db changes held changed
