use Rattle.mg_image.specs.Form.{packed_form}
use Rattle.mg_entry_overlay_laws.specs.TreesSoundLaws.{other_trees_are_sound}
use Rattle.mg_entry_overlay_laws.proofs.laws.other_trees_are_sound.Goals as goal

pub returns : goal.returns
returns c = other_trees_are_sound packed_form
