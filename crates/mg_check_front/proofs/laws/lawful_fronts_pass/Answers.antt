use Rattle.mg_check_front.proofs.FrontLemmas.{front_law}
use Rattle.mg_check_front.proofs.laws.lawful_fronts_pass.Goals as goal

pub returns : goal.returns
returns c = front_law c.lawful_headers_pass.ensures c.lawful_inventories_pass.ensures
    c.lawful_transactions_pass.ensures
