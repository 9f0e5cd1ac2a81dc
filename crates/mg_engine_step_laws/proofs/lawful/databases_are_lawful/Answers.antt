use Rattle.mg_engine_step_laws.specs.tables.LawfulLaws.{databases_are_lawful}
use Rattle.mg_engine_step_laws.proofs.lawful.databases_are_lawful.Goals as goal

pub returns : goal.returns
returns c = databases_are_lawful c.chains_tell.ensures.database
