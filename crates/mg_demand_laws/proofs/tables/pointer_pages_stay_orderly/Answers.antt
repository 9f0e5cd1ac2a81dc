use Rattle.std.proofs.Common.{refl}
use Rattle.mg_image.specs.Form.{packed_form}
use Rattle.mg_demand_laws.specs.OpenedChains.{opened_tables_bear}
use Rattle.mg_demand_laws.specs.OpenedTables.{opened_is_orderly, order_stays}
use Rattle.mg_demand_laws.proofs.tables.pointer_pages_stay_orderly.Goals as goal

pub returns-clause-opened : goal.returns-clause-opened
returns-clause-opened c = opened_is_orderly packed_form c.sound_images_are_linked.ensures.wanted

pub returns-clause-bears : goal.returns-clause-bears
returns-clause-bears c = opened_tables_bear packed_form refl c.sound_images_are_linked.ensures.wanted c.opened_images_bear.ensures

pub returns-clause-stays : goal.returns-clause-stays
returns-clause-stays c = order_stays
