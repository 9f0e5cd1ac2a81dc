use Rattle.mg_sortkey.specs.KeyLaws.{keys_tell_values}
use Rattle.mg_sortkey.proofs.laws.keys_tell_values.Goals as goal

pub returns : goal.returns
returns c = λ a b fits also same. keys_tell_values a b fits also same
