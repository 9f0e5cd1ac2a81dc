use Rattle.mg_btree.specs.ClimbLaws.{closes_no_cycle}
use Rattle.mg_btree.proofs.laws.inserted_orders_close_no_cycle.Goals as goal

pub returns : goal.returns
returns c = closes_no_cycle
