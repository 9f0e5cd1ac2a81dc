use Rattle.mg_engine_change_laws.specs.keys.KeyStepLaws.{key_steps_are_taken}
use Rattle.mg_engine_change_laws.proofs.takings.keys.key_steps_are_taken.Goals as goal

pub returns : goal.returns
returns g c = key_steps_are_taken g.row.D.Denot g.D.Disk.meaning c.keys_are_taken.ensures.was
    c.its_records_are_found.ensures.changes
