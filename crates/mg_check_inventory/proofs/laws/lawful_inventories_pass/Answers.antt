use Rattle.mg_check_inventory.proofs.InventoryLemmas.{inventory_law}
use Rattle.mg_check_inventory.proofs.laws.lawful_inventories_pass.Goals as goal

pub returns : goal.returns
returns c = inventory_law
