use Rattle.mg_grown_catalog_laws.specs.GrownLaws.{bases_are_within, committed_rows_stay, own_rows_are_new, seen_is_not_made}
use Rattle.mg_grown_catalog_laws.specs.MadeOnceLaws.{rows_are_made_once}
use Rattle.mg_grown_catalog_laws.specs.TogetherLaws.{rows_are_together}
use Rattle.mg_grown_catalog_laws.proofs.laws.catalogs_grow.Goals as goal

pub returns-clause-stay : goal.returns-clause-stay
returns-clause-stay c = committed_rows_stay c.changes_are_fine.ensures.insert

pub returns-clause-within : goal.returns-clause-within
returns-clause-within c = bases_are_within c.changes_are_fine.ensures.insert

pub returns-clause-own : goal.returns-clause-own
returns-clause-own c = own_rows_are_new c.changes_are_fine.ensures.insert

pub returns-clause-seen : goal.returns-clause-seen
returns-clause-seen c = seen_is_not_made c.changes_are_fine.ensures.insert

pub returns-clause-once : goal.returns-clause-once
returns-clause-once c = rows_are_made_once c.changes_are_fine.ensures.insert

pub returns-clause-together : goal.returns-clause-together
returns-clause-together c = rows_are_together
