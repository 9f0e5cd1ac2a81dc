use Rattle.mg_engine_change_laws.specs.keys.KeysLaws.{cores_take_all}
use Rattle.mg_engine_change_laws.proofs.takings.takings.cores_take_all.Goals as goal

pub returns : goal.returns
returns g c = cores_take_all g.D.Disk.meaning c.cores_take_keys.ensures c.keys_are_taken.ensures.keys
    c.keys_go_on.ensures c.keys_keep_lists.ensures
