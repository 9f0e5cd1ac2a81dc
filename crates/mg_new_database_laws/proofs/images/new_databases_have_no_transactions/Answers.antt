use Rattle.mg_new_database_laws.specs.TransactionLaws.{new_are_undrawn, new_are_used, new_have_inventory}
use Rattle.mg_new_database_laws.proofs.images.new_databases_have_no_transactions.Goals as goal

pub returns-clause-used : goal.returns-clause-used
returns-clause-used c = new_are_used

pub returns-clause-undrawn : goal.returns-clause-undrawn
returns-clause-undrawn c = new_are_undrawn

pub returns-clause-inventory : goal.returns-clause-inventory
returns-clause-inventory c = new_have_inventory
