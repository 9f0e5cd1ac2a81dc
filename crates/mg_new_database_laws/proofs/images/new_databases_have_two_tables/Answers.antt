use Rattle.mg_new_database_laws.specs.PointerLaws.{new_have_pointers}
use Rattle.mg_new_database_laws.proofs.images.new_databases_have_two_tables.Goals as goal

pub returns : goal.returns
returns c = new_have_pointers
