use Rattle.std.proofs.Common.{refl, w64}
use Rattle.std.proofs.lemmas.Int.{to_z-of_z}
use Rattle.mg_shorthand.proofs.getting.value_of_key.Goals as goal

pub returns : goal.returns
returns c = rw (c.kv.ensures, c.in_ok-values.ensures, c.in_ok-filter.ensures, to_z-of_z w64 c.args.key c.ranges.key) refl
