use Rattle.mg_sortkey.specs.KeyLaws.{keys_order_as_values}
use Rattle.mg_sortkey.proofs.laws.keys_order_as_values.Goals as goal

pub returns : goal.returns
returns c = λ a b fits also. keys_order_as_values a b fits also
