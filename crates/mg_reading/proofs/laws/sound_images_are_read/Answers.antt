use Rattle.mg_reading.proofs.SoundLemmas.{sound_readable}
use Rattle.mg_reading.proofs.laws.sound_images_are_read.Goals as goal

pub returns : goal.returns
returns c = sound_readable c.args.coding
