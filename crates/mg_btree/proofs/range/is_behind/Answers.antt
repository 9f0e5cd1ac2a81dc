use Rattle.std.proofs.Common.{refl}
use Rattle.mg_btree.proofs.range.is_behind.Goals as goal

pub returns-in-None : goal.returns-in-None
returns-in-None c = rw c.in-None.is ((λ is. tt), λ is. refl)

pub returns-in-Some : goal.returns-in-Some
returns-in-Some c = rw c.in-Some.is c.is_below.ensures
