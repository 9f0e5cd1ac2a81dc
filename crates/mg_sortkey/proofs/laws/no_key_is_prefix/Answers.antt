use Rattle.mg_sortkey.specs.KeyLaws.{no_key_is_prefix}
use Rattle.mg_sortkey.proofs.laws.no_key_is_prefix.Goals as goal

pub returns : goal.returns
returns c = λ a b more rest fits also same. no_key_is_prefix a b more rest fits also same
