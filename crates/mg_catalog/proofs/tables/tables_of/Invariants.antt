use Rattle.mg_catalog.specs.ByKey.{by_key}
use Rattle.mg_catalog.proofs.CatalogLemmas.{AreFirst}
use Rattle.mg_catalog.proofs.tables.tables_of.Given as goal

abbrev pub invariant-loop-name : goal.invariant-loop-name
invariant-loop-name l = AreFirst (by_key l.rows) l.name-items l.name-index l.tables.items
