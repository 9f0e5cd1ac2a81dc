use Rattle.mg_image.specs.Form.{packed_form}
use Rattle.mg_engine_change_laws.specs.tables.StandMadeLaws.{left_pages_are_there}
use Rattle.mg_engine_change_laws.proofs.makings.pages.left_pages_are_there.Goals as goal

pub returns : goal.returns
returns c = left_pages_are_there packed_form (λ page n is. is) c.owners_keep_stands_apart.ensures
