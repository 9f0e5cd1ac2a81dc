use Rattle.mg_soundness.proofs.SoundLemmas.{meets_sound, sound_meets}
use Rattle.mg_soundness.proofs.WholeLemmas.{one_of_coding}
use Rattle.mg_soundness.proofs.laws.the_last_rule_is_soundness.Goals as goal

pub returns : goal.returns
returns c = λ image. (
  meets_sound c.args.coding (one_of_coding c.args.coding c.one_reading.ensures.plain
      c.one_reading.ensures.packed) image,
  sound_meets c.args.coding image,
)
