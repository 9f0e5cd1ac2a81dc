use Rattle.mg_new_database_laws.specs.ReadableLaws.{new_are_readable}
use Rattle.mg_new_database_laws.proofs.images.new_databases_are_readable.Goals as goal

pub returns : goal.returns
returns c = new_are_readable
