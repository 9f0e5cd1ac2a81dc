use Rattle.mg_sortkey.specs.KeyLaws.{keys_are_short}
use Rattle.mg_sortkey.proofs.laws.keys_are_short.Goals as goal

pub returns : goal.returns
returns c = λ kind value fits. keys_are_short kind value fits
