use Rattle.mg_check_inventory.proofs.PlaceLemmas.{some_places}
use Rattle.mg_check_inventory.proofs.TransactionLemmas.{transaction_law}
use Rattle.mg_check_inventory.proofs.laws.lawful_transactions_pass.Goals as goal

pub returns : goal.returns
returns c = transaction_law c.undrawn_numbers_pass.ensures some_places
