use Rattle.mg_txlist.proofs.LoadedLemmas.{loaded_says}
use Rattle.mg_txlist.proofs.laws.loaded_lists_say_what_images_say.Goals as goal

pub returns : goal.returns
returns c = loaded_says
