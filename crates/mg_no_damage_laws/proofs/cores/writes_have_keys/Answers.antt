use Rattle.mg_no_damage_laws.proofs.CoreKeyLemmas.{keys_are_named}
use Rattle.mg_no_damage_laws.proofs.cores.writes_have_keys.Goals as goal

pub returns : goal.returns
returns g c = keys_are_named g.row.D.Denot
