use Rattle.mg_image.specs.Form.{packed_form}
use Rattle.mg_image_overlay_laws.specs.pages.DrawPage.{draw_page_every}
use Rattle.mg_image_overlay_laws.proofs.taken.draws_with_a_page_keep.Goals as goal

pub returns : goal.returns
returns c = draw_page_every packed_form (λ page n is. is)
